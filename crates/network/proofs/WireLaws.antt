-- What comes to a regulator over a wire is what has left the port before. Assumes nothing.
use Rattle.std.proofs.Common.{◌≡◌, ℕ, zero, suc, ◌+◌, ◌-◌, ◌<◌, ◌≤◌, false, eqb, List, [], ◌∷◌, ◌++◌, map, length, get_or, sym, refl, ap, ◌∙◌, subst, inl, inr, arith, length-append}
use Rattle.std.specs.List.{AllByRecursion as Each}
use Rattle.std.proofs.lemmas.List.{append-nil, get_or_append_left, get_or-append-add, length-replicate, get_or-replicate}
use Rattle.std.proofs.lemmas.Bool.{cases_Bool, cases_eq, cases_lt, eq-eqb, ne_eqb}
use Rattle.flows.specs.Net.{NetModel, port_at}
use Rattle.flows.specs.Flow.{FlowModel, SoundFlow}
use Rattle.promises.specs.Promises.{goes}
use Rattle.lines.specs.declared.packet.Packet.{Packet}
use Rattle.gates.specs.Gates.{class_of}
use Rattle.gates.specs.Laws.{of_class}
use Rattle.machine.specs.declared.leaving.Leaving.{Leaving}
use Rattle.machine.specs.declared.leaving.Leaving.TheVariants.{Gone, Busy, Idle}
use Rattle.port.specs.Port.{flow_at}
use Rattle.egress.specs.Egress.{Accepted}
use Rattle.egress.specs.Histories.{for_gate, gone_of, onward, beside}
use Rattle.network.specs.Network.{starts, inner_gate, NetState, gone, leaving, at_end, still_on, from_wire, from_wires, Sourced, from_sources, coming, net_left, net_run}
use Rattle.network.specs.Admitted.{OfFlow}

pub for-both : (k : ℕ) (xs ys : List Accepted) → for_gate k (xs ++ ys) ≡ for_gate k xs ++ for_gate k ys
unfolding for_gate
for-both k [] ys = refl
for-both k (c ∷ cs) ys =
    elim (cases_Bool (eqb c.gate k)) [
      | inl is ↦ rw is (ap (λ ws. c.packet ∷ ws) (for-both k cs ys))
      | inr not ↦ rw not (for-both k cs ys)
    ]

pub onward-both : (fs : List FlowModel) (p q : ℕ) (xs ys : List Packet) → onward fs p q (xs ++ ys) ≡ onward fs p q xs ++ onward fs p q ys
unfolding onward
onward-both fs p q [] ys = refl
onward-both fs p q (w ∷ ws) ys =
    elim (cases_Bool (goes p q (flow_at fs w.flow).road)) [
      | inl on ↦ rw on (ap (λ x. w ∷ x) (onward-both fs p q ws ys))
      | inr off ↦ rw off (onward-both fs p q ws ys)
    ]

pub beside-both : (fs : List FlowModel) (p q : ℕ) (xs ys : List Packet) (ts us : List ℕ) → length xs ≡ length ts →
    beside fs p q (xs ++ ys) (ts ++ us) ≡ beside fs p q xs ts ++ beside fs p q ys us
unfolding beside
beside-both fs p q [] ys [] us same = refl
beside-both fs p q [] ys (t ∷ ts) us same = absurd (omega arith)
beside-both fs p q (w ∷ ws) ys [] us same = absurd (omega arith)
beside-both fs p q (w ∷ ws) ys (t ∷ ts) us same =
    elim (cases_Bool (goes p q (flow_at fs w.flow).road)) [
      | inl on ↦ rw on (ap (λ x. t ∷ x) (beside-both fs p q ws ys ts us (omega arith)))
      | inr off ↦ rw off (beside-both fs p q ws ys ts us (omega arith))
    ]

-- a row that leaves at a tick is so much later at the end of the wire
pub row-later : (fs : List FlowModel) (p q t wire u : ℕ) (ws : List Packet) → t + wire ≡ u →
    map (λ t. t + wire) (beside fs p q ws (map (λ (_ : Packet). t) ws)) ≡ map (λ (_ : Packet). u) (onward fs p q ws)
unfolding onward beside
row-later fs p q t wire u [] is = refl
row-later fs p q t wire u (w ∷ ws) is =
    let rest = row-later fs p q t wire u ws is in
    elim (cases_Bool (goes p q (flow_at fs w.flow).road)) [
      | inl on ↦ rw on (ap (λ x. x ∷ map (λ t. t + wire) (beside fs p q ws (map (λ (_ : Packet). t) ws))) is ∙ ap (λ x. u ∷ x) rest)
      | inr off ↦ rw off rest
    ]

-- who is gone, of a class
pub gone-class : (classes : List ℕ) (c : ℕ) (l : Leaving) → gone_of classes c l ≡ of_class classes c (gone l)
unfolding gone of_class
gone-class classes c (Gone w) = refl
gone-class classes c (Busy x) = refl
gone-class classes c Idle = refl

module _ (net : NetModel) (fs : List FlowModel) (sound : Each (SoundFlow net) fs) where
  abbrev classes : List ℕ
  classes = map (λ (f : FlowModel). f.class) fs

  abbrev LowClass : Packet → Type 0
  LowClass w = ((flow_at fs w.flow).class ≤ 7) × (class_of (map (λ (f : FlowModel). f.class) fs) w ≡ (flow_at fs w.flow).class)

  -- from the wire of the port itself, and of others
  from-same : (p c q : ℕ) → c ≤ 7 → (ws : List Packet) → Each LowClass ws →
      for_gate (inner_gate fs p c) (from_wire fs p q ws) ≡ onward fs p q (of_class (map (λ (f : FlowModel). f.class) fs) c ws)
  unfolding for_gate onward of_class
  from-same p c q low [] each = refl
  from-same p c q low (w ∷ ws) each =
      let rest = from-same p c q low ws each.1 in
      elim (cases_Bool (goes p q (flow_at fs w.flow).road)) [
        | inl on ↦
            elim (cases_eq (class_of (map (λ (f : FlowModel). f.class) fs) w) c) [
              | inl is ↦
                  let there : inner_gate fs p (flow_at fs w.flow).class ≡ inner_gate fs p c = ap (inner_gate fs p) (sym each.0.1 ∙ is) in
                  rw (on, eq-eqb (class_of (map (λ (f : FlowModel). f.class) fs) w) c is, eq-eqb (inner_gate fs p (flow_at fs w.flow).class) (inner_gate fs p c) there)
                  (rw on (ap (λ x. w ∷ x) rest))
              | inr not ↦
                  let other : eqb (inner_gate fs p (flow_at fs w.flow).class) (inner_gate fs p c) ≡ false =
                  ne_eqb (inner_gate fs p (flow_at fs w.flow).class) (inner_gate fs p c) (λ e. not (each.0.1 ∙ omega arith)) in
                  rw (on, ne_eqb (class_of (map (λ (f : FlowModel). f.class) fs) w) c not, other) rest
            ]
        | inr off ↦
            elim (cases_eq (class_of (map (λ (f : FlowModel). f.class) fs) w) c) [
              | inl is ↦ rw (off, eq-eqb (class_of (map (λ (f : FlowModel). f.class) fs) w) c is) (rw off rest)
              | inr not ↦ rw (off, ne_eqb (class_of (map (λ (f : FlowModel). f.class) fs) w) c not) rest
            ]
      ]

  from-other : (p x c q : ℕ) → c ≤ 7 → (x ≡ p → ⊥) → (ws : List Packet) → Each LowClass ws → for_gate (inner_gate fs p c) (from_wire fs x q ws) ≡ []
  unfolding for_gate onward
  from-other p x c q low differ [] each = refl
  from-other p x c q low differ (w ∷ ws) each =
      elim (cases_Bool (goes x q (flow_at fs w.flow).road)) [
        | inl on ↦
            let other : eqb (inner_gate fs x (flow_at fs w.flow).class) (inner_gate fs p c) ≡ false =
            ne_eqb (inner_gate fs x (flow_at fs w.flow).class) (inner_gate fs p c) (λ e. differ (omega (arith, each.0.0))) in
            rw (on, other) (from-other p x c q low differ ws each.1)
        | inr off ↦ rw off (from-other p x c q low differ ws each.1)
      ]

  wires-none : (p c q : ℕ) → c ≤ 7 → (s : NetState) (n : ℕ) → n ≤ p → ((x : ℕ) → Each LowClass (at_end (s.wire x))) → for_gate (inner_gate fs p c) (from_wires fs q s n) ≡ []
  unfolding from_wires for_gate
  wires-none p c q low s zero few each = refl
  wires-none p c q low s (suc n) few each =
      for-both (inner_gate fs p c) (from_wires fs q s n) (from_wire fs n q (at_end (s.wire n)))
      ∙ ap (λ ws. ws ++ for_gate (inner_gate fs p c) (from_wire fs n q (at_end (s.wire n)))) (wires-none p c q low s n (omega arith) each)
      ∙ from-other p n c q low (λ e. omega arith) (at_end (s.wire n)) (each n)

  wires-one : (p c q : ℕ) → c ≤ 7 → (s : NetState) (n : ℕ) → p < n → ((x : ℕ) → Each LowClass (at_end (s.wire x))) →
      for_gate (inner_gate fs p c) (from_wires fs q s n) ≡ onward fs p q (of_class (map (λ (f : FlowModel). f.class) fs) c (at_end (s.wire p)))
  unfolding from_wires
  wires-one p c q low s zero within each = absurd (omega arith)
  wires-one p c q low s (suc n) within each =
      for-both (inner_gate fs p c) (from_wires fs q s n) (from_wire fs n q (at_end (s.wire n)))
      ∙ elim (cases_eq p n) [
        | inl is ↦
            ap (λ ws. ws ++ for_gate (inner_gate fs p c) (from_wire fs n q (at_end (s.wire n)))) (wires-none p c q low s n (omega arith) each)
            ∙ subst (λ x. for_gate (inner_gate fs p c) (from_wire fs x q (at_end (s.wire x))) ≡ onward fs p q (of_class (map (λ (f : FlowModel). f.class) fs) c (at_end (s.wire p)))) is
            (from-same p c q low (at_end (s.wire p)) (each p))
        | inr not ↦
            ap (λ ws. for_gate (inner_gate fs p c) (from_wires fs q s n) ++ ws) (from-other p n c q low (λ e. not (sym e)) (at_end (s.wire n)) (each n))
            ∙ append-nil (for_gate (inner_gate fs p c) (from_wires fs q s n))
            ∙ wires-one p c q low s n (omega arith) each
      ]

  sources-none : (p c q : ℕ) (xs : List Sourced) → Each (OfFlow fs) xs → for_gate (inner_gate fs p c) (from_sources fs q xs) ≡ []
  unfolding from_sources for_gate
  sources-none p c q [] each = refl
  sources-none p c q (x ∷ xs) each =
      elim (cases_Bool (starts q (flow_at fs x.flow).road)) [
        | inl first ↦
            let other : eqb x.flow (inner_gate fs p c) ≡ false = ne_eqb x.flow (inner_gate fs p c) (λ e. omega (arith, each.0.listed)) in
            rw (first, other) (sources-none p c q xs each.1)
        | inr not ↦ rw not (sources-none p c q xs each.1)
      ]

  pub coming-one : (p c q : ℕ) (row : List Sourced) (s : NetState) → c ≤ 7 → p < length net.ports → Each (OfFlow fs) row → ((x : ℕ) → Each LowClass (at_end (s.wire x))) →
      for_gate (inner_gate fs p c) (coming net fs row s q) ≡ onward fs p q (of_class (map (λ (f : FlowModel). f.class) fs) c (at_end (s.wire p)))
  coming-one p c q row s low known of each =
      for-both (inner_gate fs p c) (from_wires fs q s (length net.ports)) (from_sources fs q row)
      ∙ ap (λ ws. for_gate (inner_gate fs p c) (from_wires fs q s (length net.ports)) ++ ws) (sources-none p c q row of)
      ∙ append-nil (for_gate (inner_gate fs p c) (from_wires fs q s (length net.ports)))
      ∙ wires-one p c q low s (length net.ports) known each

-- what leaves a port in tick t
unfoldable pub row_of : NetModel → List FlowModel → (ℕ → List Sourced) → ℕ → ℕ → List Packet
row_of net fs rows p zero = []
row_of net fs rows p (suc t) = leaving (net_run net fs rows t) p

-- on the wire is what left in as many ticks as it takes
module _ (net : NetModel) (fs : List FlowModel) (rows : ℕ → List Sourced) (p : ℕ) where
  abbrev On : ℕ → List (List Packet) → Type 0
  On t wire =
      (length wire ≡ suc (port_at net p).wire) ×
      ((n : ℕ) → n ≤ (port_at net p).wire → get_or wire n [] ≡ row_of net fs rows p (t + n - (port_at net p).wire))

  still_length : (wire : List (List Packet)) (n : ℕ) → length wire ≡ suc n → length (still_on wire) ≡ n
  unfolding still_on
  still_length [] n same = absurd (omega arith)
  still_length (row ∷ wire) n same = omega arith

  still_at : (wire : List (List Packet)) (n : ℕ) → get_or (still_on wire) n [] ≡ get_or wire (suc n) []
  unfolding still_on
  still_at [] n = refl
  still_at (row ∷ wire) n = refl

  on_wire : (t : ℕ) → On t ((net_left net fs rows t).wire p)
  unfolding net_left row_of
  on_wire zero = (
    length-replicate (suc (port_at net p).wire) [],
    λ n few.
        let first : row_of net fs rows p (0 + n - (port_at net p).wire) ≡ [] = ap (row_of net fs rows p) (start n few) in
        get_or-replicate (suc (port_at net p).wire) n [] [] (omega arith) ∙ sym first,
  )
    where
      start : (n : ℕ) → n ≤ (port_at net p).wire → 0 + n - (port_at net p).wire ≡ 0
      start n few = omega arith
  on_wire (suc t) =
      let sofar = on_wire t in
      let rest : List (List Packet) = still_on ((net_left net fs rows t).wire p) in
      let few : length rest ≡ (port_at net p).wire = still_length ((net_left net fs rows t).wire p) (port_at net p).wire sofar.0 in (
        omega (arith, few, length-append rest (leaving (net_run net fs rows t) p ∷ [])),
        λ n most.
            elim (cases_lt n (port_at net p).wire) [
              | inl within ↦
                  get_or_append_left rest (leaving (net_run net fs rows t) p ∷ []) [] n (omega arith)
                  ∙ still_at ((net_left net fs rows t).wire p) n
                  ∙ sofar.1 (suc n) (omega arith)
                  ∙ ap (row_of net fs rows p) (later n)
              | inr past ↦
                  ap (λ k. get_or (rest ++ leaving (net_run net fs rows t) p ∷ []) k []) (last n (length rest) (omega arith))
                  ∙ get_or-append-add rest (leaving (net_run net fs rows t) p ∷ []) 0 []
                  ∙ sym (ap (row_of net fs rows p) (now n (omega arith)))
            ],
      )
    where
      later : (n : ℕ) → t + suc n - (port_at net p).wire ≡ suc t + n - (port_at net p).wire
      later n = omega arith

      last : (n m : ℕ) → n ≡ m → n ≡ m + 0
      last n m is = omega arith

      now : (n : ℕ) → n ≡ (port_at net p).wire → suc t + n - (port_at net p).wire ≡ suc t
      now n is = omega arith

  first_row : (wire : List (List Packet)) → at_end wire ≡ get_or wire 0 []
  unfolding at_end
  first_row [] = refl
  first_row (row ∷ wire) = refl

  pub at_the_end : (t : ℕ) → at_end ((net_left net fs rows t).wire p) ≡ row_of net fs rows p (t - (port_at net p).wire)
  at_the_end t =
      let same : t + 0 - (port_at net p).wire ≡ t - (port_at net p).wire = omega arith in
      first_row ((net_left net fs rows t).wire p) ∙ (on_wire t).1 0 (omega arith) ∙ ap (row_of net fs rows p) same
