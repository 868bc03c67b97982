-- Within a class packets leave in the order in which they passed, and a port is never stuck. Assumes nothing.
use Rattle.std.proofs.Common.{◌≡◌, ℕ, zero, suc, ◌<◌, Bool, true, false, cond, eqb, ◌⊎◌, List, [], ◌∷◌, ◌++◌, length, set, Some, None, Option, sym, refl, ap, ◌∙◌, ap₂, inl, inr, append_assoc, arith, get_or-set_other, get_or-set_same}
use Rattle.std.proofs.lemmas.List.{append-nil}
use Rattle.std.proofs.lemmas.Bool.{cases_eq, eq-eqb, ne_eqb}
use Rattle.flows.specs.Flow.{FlowModel}
use Rattle.port.specs.Port.{Packet, Sending, Gone, MayTake, MayTick, queue_of, still, left, leaving, flow_at, of_class, gone_of}
use Rattle.port.specs.Laws.{NeverStuck}

of_its : (fs : List FlowModel) (c : ℕ) (w : Packet) → (flow_at fs w.flow).class ≡ c → of_class fs c w ≡ w ∷ []
of_its fs c w is = ap (λ b. cond b (w ∷ []) []) (eq-eqb (flow_at fs w.flow).class c is)

of_other : (fs : List FlowModel) (c : ℕ) (w : Packet) → ((flow_at fs w.flow).class ≡ c → ⊥) → of_class fs c w ≡ []
of_other fs c w other = ap (λ b. cond b (w ∷ []) []) (ne_eqb (flow_at fs w.flow).class c other)

-- `line_of`, of the parts of a state
abbrev pub Row : List FlowModel → ℕ → List (List Packet) → Option Sending → List Gone → List Packet
Row fs c qs o gs = gone_of fs c gs ++ (gone_of fs c (leaving o) ++ queue_of qs c)

module _ (fs : List FlowModel) (c : ℕ) (qs : List (List Packet)) (gs : List Gone) where
  -- a tick changes nothing
  pub tick-row : (t : ℕ) (o : Option Sending) → Row fs c qs (still t o) (left t o gs) ≡ Row fs c qs o gs
  unfolding gone_of
  tick-row t None = refl
  tick-row t (Some x) = by (eqb x.until t)
    where
      by : (b : Bool) → Row fs c qs (cond b None (Some x)) (cond b (record { packet = x.packet; at = t } ∷ gs) gs) ≡ Row fs c qs (Some x) gs
      by true = append_assoc (gone_of fs c gs) (of_class fs c x.packet) (queue_of qs c)
      by false = refl

  -- a take changes nothing
  pub take_row : (d : ℕ) (w : Packet) (rest : List Packet) (until : ℕ) → d < length qs → queue_of qs d ≡ w ∷ rest → (flow_at fs w.flow).class ≡ d →
      Row fs c (set qs d rest) (Some (record { packet = w; until = until })) gs ≡ Row fs c qs None gs
  unfolding gone_of
  take_row d w rest until known first class =
      ap (λ q. gone_of fs c gs ++ q)
      (elim (cases_eq c d) [
        | inl is ↦
            ap₂ (λ x y. x ++ y) (of_its fs c w (class ∙ sym is)) (ap (λ k. queue_of (set qs d rest) k) is ∙ get_or-set_same qs d rest [] known)
            ∙ sym (ap (λ k. queue_of qs k) is ∙ first)
        | inr other ↦
            ap₂ (λ x y. x ++ y) (of_other fs c w (λ e. other (sym e ∙ class))) (get_or-set_other qs d c rest [] other)
      ])

  -- a pass adds its packet
  pub pass_row : (d : ℕ) (w : Packet) (o : Option Sending) → d < length qs → (flow_at fs w.flow).class ≡ d →
      Row fs c (set qs d (queue_of qs d ++ w ∷ [])) o gs ≡ Row fs c qs o gs ++ of_class fs c w
  pass_row d w o known class = ap (λ q. gone_of fs c gs ++ (gone_of fs c (leaving o) ++ q)) pushed ∙ simp append_assoc
    where
      pushed : queue_of (set qs d (queue_of qs d ++ w ∷ [])) c ≡ queue_of qs c ++ of_class fs c w
      pushed =
          elim (cases_eq c d) [
            | inl is ↦
                ap (λ k. queue_of (set qs d (queue_of qs d ++ w ∷ [])) k) is
                ∙ get_or-set_same qs d (queue_of qs d ++ w ∷ []) [] known
                ∙ sym (ap₂ (λ x y. x ++ y) (ap (λ k. queue_of qs k) is) (of_its fs c w (class ∙ sym is)))
            | inr other ↦
                get_or-set_other qs d c (queue_of qs d ++ w ∷ []) [] other
                ∙ sym (ap (λ x. queue_of qs c ++ x) (of_other fs c w (λ e. other (sym e ∙ class))) ∙ append-nil (queue_of qs c))
          ]

-- the lowest class that has a packet
lowest : (qs : List (List Packet)) →
    ((c : ℕ) → queue_of qs c ≡ []) ⊎
    ((c : ℕ) × (w : Packet) × (rest : List Packet) × (queue_of qs c ≡ w ∷ rest) × ((d : ℕ) → d < c → queue_of qs d ≡ []))
lowest [] = inl (λ c. refl)
lowest ((w ∷ rest) ∷ qs) = inr (0, w, rest, refl, λ d h. absurd (omega arith))
lowest ([] ∷ qs) =
    elim (lowest qs) [
      | inl none ↦ inl (behind none)
      | inr (c, w, rest, first, low) ↦ inr (suc c, w, rest, first, before c low)
    ]
  where
    behind : ((c : ℕ) → queue_of qs c ≡ []) → (c : ℕ) → queue_of ([] ∷ qs) c ≡ []
    behind none zero = refl
    behind none (suc c) = none c

    before : (c : ℕ) → ((d : ℕ) → d < c → queue_of qs d ≡ []) → (d : ℕ) → d < suc c → queue_of ([] ∷ qs) d ≡ []
    before c low zero h = refl
    before c low (suc d) h = low d (omega arith)

pub never_stuck : NeverStuck
never_stuck s = by s.sending refl
  where
    by : (o : Option Sending) → s.sending ≡ o → MayTick s ⊎ ((c : ℕ) × (w : Packet) × (rest : List Packet) × MayTake s c w rest)
    by (Some x) is = inl (λ free. cc)
    by None is =
        elim (lowest s.queues) [
          | inl none ↦ inl (λ free. none)
          | inr (c, w, rest, first, low) ↦ inr (c, w, rest, record { free = is; first = first; lowest = low })
        ]
