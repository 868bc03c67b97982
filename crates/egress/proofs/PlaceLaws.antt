-- What holds of all packets that come to their regulators holds of those that wait there and of those that pass. Assumes nothing.
use Rattle.std.proofs.Common.{◌≡◌, ℕ, zero, suc, ◌+◌, ◌<◌, ◌≤◌, List, [], ◌∷◌, ◌++◌, length, get_or, sym, refl, ap, ◌∙◌, subst, inl, inr, arith}
use Rattle.std.specs.List.{AllByRecursion as Each}
use Rattle.std.proofs.lemmas.List.{get_or_past, append-nil}
use Rattle.std.proofs.lemmas.Bool.{cases_eq, cases_lt, eq-eqb, ne_eqb}
use Rattle.lines.specs.declared.packet.Packet.{Packet}
use Rattle.gates.specs.Laws.{of_flow}
use Rattle.machine.specs.Joint.{MachineModel}
use Rattle.egress.specs.Egress.{GateModel, Accepted, no_gate, gate_at, accept_all, open_all, all_passers}
use Rattle.egress.specs.Histories.{for_gate, in_turn}
use Rattle.egress.proofs.OrderLaws.{come_behind, all-pass-before}
use Rattle.egress.proofs.HistoryLaws.{of_both}

-- lists that follow each other
pub each-both : {X : Type 0} (P : X → Type 0) (xs ys : List X) → Each P xs → Each P ys → Each P (xs ++ ys)
each-both P [] ys each also = also
each-both P (x ∷ xs) ys each also = (each.0, each-both P xs ys each.1 also)

pub each-apart : {X : Type 0} (P : X → Type 0) (xs ys : List X) → Each P (xs ++ ys) → Each P xs × Each P ys
each-apart P [] ys each = (tt, each)
each-apart P (x ∷ xs) ys each = let rest = each-apart P xs ys each.1 in ((each.0, rest.0), rest.1)

-- where P j holds of a packet, it may stand at regulator j
module _ (P : ℕ → Packet → Type 0) where
  abbrev pub Placed : List GateModel → Type 0
  Placed gates = (j : ℕ) → Each (P j) (gate_at gates j).waits

  come-placed : (cs : List Accepted) (j : ℕ) → Each (λ (c : Accepted). P c.gate c.packet) cs → Each (P j) (for_gate j cs)
  unfolding for_gate
  come-placed [] j each = tt
  come-placed (c ∷ cs) j each =
      elim (cases_eq c.gate j) [
        | inl is ↦ rw (eq-eqb c.gate j is) (subst (λ k. P k c.packet) is each.0, come-placed cs j each.1)
        | inr not ↦ rw (ne_eqb c.gate j not) (come-placed cs j each.1)
      ]

  past_gate : (gates : List GateModel) (j : ℕ) → length gates ≤ j → Each (P j) (gate_at gates j).waits
  past_gate gates j past = subst (λ (g : GateModel). Each (P j) g.waits) (sym (get_or_past gates j no_gate past)) tt

  pub accept-placed : (cs : List Accepted) (gates : List GateModel) → length (accept_all cs gates) ≡ length gates → Placed gates →
      Each (λ (c : Accepted). P c.gate c.packet) cs → Placed (accept_all cs gates)
  accept-placed cs gates same placed come j =
      elim (cases_lt j (length gates)) [
        | inl within ↦
            subst (Each (P j)) (sym (come_behind cs gates j within))
            (each-both (P j) (gate_at gates j).waits (for_gate j cs) (placed j) (come-placed cs j come))
        | inr past ↦ past_gate (accept_all cs gates) j (omega arith)
      ]

  pub open-placed : (room : ℕ) (classes : List ℕ) (gates : List GateModel) (s : MachineModel) → Placed gates →
      (j : ℕ) → Each (P j) (get_or (all_passers room classes gates s) j []) × Each (P j) (gate_at (open_all room classes gates s).gates j).waits
  open-placed room classes gates s placed j =
      each-apart (P j) (get_or (all_passers room classes gates s) j []) (gate_at (open_all room classes gates s).gates j).waits
      (subst (Each (P j)) (sym (all-pass-before room classes gates s j)) (placed j))

-- those of a flow that passes one regulator alone
module _ (flow k : ℕ) where
  abbrev pub Elsewhere : ℕ → Packet → Type 0
  Elsewhere j w = w.flow ≡ flow → j ≡ k

  none_of : (j : ℕ) (ws : List Packet) → (j ≡ k → ⊥) → Each (Elsewhere j) ws → of_flow flow ws ≡ []
  unfolding of_flow
  none_of j [] not each = refl
  none_of j (w ∷ ws) not each = rw (ne_eqb w.flow flow (λ e. not (each.0 e))) (none_of j ws not each.1)

  next_place : (b j : ℕ) → b + suc j ≡ b + 1 + j
  next_place b j = omega arith

  -- row j is that of regulator b + j
  rows-none : (b : ℕ) (rows : List (List Packet)) → ((j : ℕ) → Each (Elsewhere (b + j)) (get_or rows j [])) → k < b → of_flow flow (in_turn rows) ≡ []
  unfolding in_turn of_flow
  rows-none b [] each above = refl
  rows-none b (row ∷ rows) each above =
      of_both flow row (in_turn rows)
      ∙ ap (λ x. x ++ of_flow flow (in_turn rows)) (none_of (b + 0) row (λ e. absurd (omega arith)) (each 0))
      ∙ rows-none (b + 1) rows (λ j. subst (λ n. Each (Elsewhere n) (get_or rows j [])) (next_place b j) (each (suc j))) (omega arith)

  rows-one : (b : ℕ) (rows : List (List Packet)) (j : ℕ) → b + j ≡ k → ((i : ℕ) → Each (Elsewhere (b + i)) (get_or rows i [])) →
      of_flow flow (in_turn rows) ≡ of_flow flow (get_or rows j [])
  unfolding in_turn of_flow
  rows-one b [] j is each = refl
  rows-one b (row ∷ rows) zero is each =
      of_both flow row (in_turn rows)
      ∙ ap (λ x. of_flow flow row ++ x) (rows-none (b + 1) rows (λ j. subst (λ n. Each (Elsewhere n) (get_or rows j [])) (next_place b j) (each (suc j))) (omega arith))
      ∙ append-nil (of_flow flow row)
  rows-one b (row ∷ rows) (suc j) is each =
      of_both flow row (in_turn rows)
      ∙ ap (λ x. x ++ of_flow flow (in_turn rows)) (none_of (b + 0) row (λ e. absurd (omega arith)) (each 0))
      ∙ rows-one (b + 1) rows j (omega arith) (λ i. subst (λ n. Each (Elsewhere n) (get_or rows i [])) (next_place b i) (each (suc i)))

  pub row_is : (rows : List (List Packet)) → ((i : ℕ) → Each (Elsewhere i) (get_or rows i [])) → of_flow flow (in_turn rows) ≡ of_flow flow (get_or rows k [])
  row_is rows each = rows-one 0 rows k (omega arith) (λ i. subst (λ n. Each (Elsewhere n) (get_or rows i [])) (from_zero i) (each i))
    where
      from_zero : (i : ℕ) → i ≡ 0 + i
      from_zero i = omega arith
