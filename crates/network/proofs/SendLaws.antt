-- What waits in the queues of a port, and what it sends, are packets of flows over it. Assumes nothing.
use Rattle.std.proofs.Common.{◌≡◌, ℕ, zero, suc, ◌+◌, Bool, eqb, List, [], ◌∷◌, ◌++◌, replicate, get_or, Some, None, Option, sym, refl, subst, inl, inr, arith, length}
use Rattle.std.specs.List.{AllByRecursion as Each}
use Rattle.std.proofs.lemmas.List.{length-set, get_or_past, get_or-set_same, get_or-set_other}
use Rattle.std.proofs.lemmas.Bool.{cases_Bool, cases_eq, cases_lt}
use Rattle.flows.specs.Flow.{FlowModel}
use Rattle.lines.specs.declared.packet.Packet.{Packet}
use Rattle.queues.specs.declared.queues_of.Taken.{Taken}
use Rattle.queues.specs.declared.queues_of.Taken.TheVariants.{Packet as taken, Nothing}
use Rattle.queues.specs.Lines.{put_in, taken_from, left_by}
use Rattle.queues.proofs.QueueLaws.{first_taken}
use Rattle.gates.specs.Gates.{class_of, marked}
use Rattle.machine.specs.declared.sending.Sending.{Sending}
use Rattle.machine.specs.Phases.{begun, leaves, goes_on}
use Rattle.machine.specs.Joint.{MachineModel}
use Rattle.machine.specs.Runs.{Fitting, Goes, begins, passes, takes, ticks}
use Rattle.egress.proofs.PlaceLaws.{each-both}
use Rattle.network.specs.Network.{gone}

module _ (enters : ℕ → Bool) (p : ℕ) (fs : List FlowModel) (room : ℕ) (classes : List ℕ) where
  abbrev pub Sends : Option Sending → Type 0
  Sends None = Unit {0}
  Sends (Some x) = Fitting p fs classes x.packet

  abbrev Queues : List (List Packet) → Type 0
  Queues qs = (c : ℕ) → Each (Fitting p fs classes) (get_or qs c [])

  none-queued : (n c : ℕ) → ◌≡◌ {A = List Packet} (get_or (replicate n []) c []) []
  none-queued zero c = refl
  none-queued (suc n) zero = refl
  none-queued (suc n) (suc c) = none-queued n c

  put-fits : (qs : List (List Packet)) (d : ℕ) (w : Packet) → Fitting p fs classes w → Queues qs → Queues (put_in qs d w)
  put-fits qs d w fit each c =
      elim (cases_eq c d) [
        | inl is ↦
            elim (cases_lt d (length qs)) [
              | inl within ↦
                  subst (λ k. Each (Fitting p fs classes) (get_or (put_in qs d w) k [])) (sym is)
                  (subst (Each (Fitting p fs classes)) (sym (get_or-set_same qs d (get_or qs d [] ++ w ∷ []) [] within))
                  (each-both (Fitting p fs classes) (get_or qs d []) (w ∷ []) (each d) (fit, tt)))
              | inr past ↦
                  subst (Each (Fitting p fs classes))
                  (sym (get_or_past (put_in qs d w) c [] (omega (arith, length-set qs d (get_or qs d [] ++ w ∷ []))))) tt
            ]
        | inr other ↦ subst (Each (Fitting p fs classes)) (sym (get_or-set_other qs d c (get_or qs d [] ++ w ∷ []) [] other)) (each c)
      ]

  first-fits : (qs : List (List Packet)) (v : Taken) (t : ℕ) → taken_from 0 qs ≡ v → Queues qs → Sends (begun t v)
  first-fits qs (taken d w) t is each =
      let it = first_taken qs d w is in (subst (Each (Fitting p fs classes)) it.line (each d)).0
  first-fits qs Nothing t is each = tt

  others-fit : (qs : List (List Packet)) → Queues qs → Queues (left_by qs)
  unfolding left_by
  others-fit [] each c = each c
  others-fit ([] ∷ qs) each zero = tt
  others-fit ([] ∷ qs) each (suc c) = others-fit qs (λ d. each (suc d)) c
  others-fit ((w ∷ ws) ∷ qs) each zero = (each 0).1
  others-fit ((w ∷ ws) ∷ qs) each (suc c) = each (suc c)

  still-fits : (t : ℕ) (o : Option Sending) → Sends o → Sends (goes_on (leaves t o))
  still-fits t None its = tt
  still-fits t (Some x) its =
      elim (cases_Bool (eqb x.until t)) [
        | inl now ↦ rw now tt
        | inr later ↦ rw later its
      ]

  pub gone-fits : (t : ℕ) (o : Option Sending) → Sends o → Each (Fitting p fs classes) (gone (leaves t o))
  unfolding gone
  gone-fits t None its = tt
  gone-fits t (Some x) its =
      elim (cases_Bool (eqb x.until t)) [
        | inl now ↦ rw now (its, tt)
        | inr later ↦ rw later tt
      ]

  pub sends-fit : (s : MachineModel) → Goes enters p fs room classes s → Queues s.queues × Sends s.sending
  sends-fit _ begins = (λ c. subst (Each (Fitting p fs classes)) (sym (none-queued 8 c)) tt, tt)
  sends-fit _ (passes {s = s} w sofar may) =
      let rest = sends-fit s sofar in
      let f = may.fitting in (
        put-fits s.queues (class_of classes w) (marked (enters w.flow) s.tick w) (record { crosses = f.crosses; class = f.class; some = f.some; short = f.short }) rest.0,
        rest.1,
      )
  sends-fit _ (takes {s = s} class w sofar may) =
      let rest = sends-fit s sofar in
      (others-fit s.queues rest.0, first-fits s.queues (taken_from 0 s.queues) s.tick refl rest.0)
  sends-fit _ (ticks {s = s} sofar may) =
      let rest = sends-fit s sofar in
      (rest.0, still-fits (s.tick + 1) s.sending rest.1)
