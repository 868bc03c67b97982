-- At each regulator nobody is lost, and nobody overtakes. Assumes nothing.
use Rattle.std.proofs.Common.{◌≡◌, ℕ, zero, suc, ◌<◌, Bool, List, [], ◌∷◌, ◌++◌, length, get_or, set, sym, refl, ap, ◌∙◌, inl, inr}
use Rattle.std.proofs.lemmas.List.{get_or-set_same, get_or-set_other, length-set, append_assoc, append-nil}
use Rattle.std.proofs.lemmas.Bool.{cases_Bool, cases_eq, eq-eqb, ne_eqb}
use Rattle.lines.specs.declared.packet.Packet.{Packet}
use Rattle.levels.specs.Levels.{LevelModel}
use Rattle.gates.specs.Gates.{may_go, spent_by, queued_by, opened}
use Rattle.machine.specs.Joint.{MachineModel}
use Rattle.machine.specs.Runs.{after_open}
use Rattle.egress.specs.Egress.{GateModel, Accepted, no_gate, gate_at, behind, accept, accept_all, open_one, open_all, passers, all_passers, leave_phase}
use Rattle.egress.specs.Histories.{for_gate}
use Rattle.egress.specs.Laws.{NobodyOvertakes}

-- those who come stand behind those who waited
pub come_behind : (cs : List Accepted) (gates : List GateModel) (k : ℕ) → k < length gates →
    (gate_at (accept_all cs gates) k).waits ≡ (gate_at gates k).waits ++ for_gate k cs
unfolding accept_all for_gate
come_behind [] gates k within = sym (append-nil (gate_at gates k).waits)
come_behind (c ∷ cs) gates k within =
    let rest = come_behind cs (accept c gates) k (simp length-set within) in
    elim (cases_eq c.gate k) [
      | inl is ↦
          let test = eq-eqb c.gate k is in
          let here : gate_at (accept c gates) k ≡ behind (gate_at gates k) c.packet =
          ap (λ j. gate_at (set gates j (behind (gate_at gates j) c.packet)) k) is ∙ get_or-set_same gates k (behind (gate_at gates k) c.packet) no_gate within in
          rw test (rest ∙ ap (λ (g : GateModel). g.waits ++ for_gate k cs) here ∙ append_assoc (gate_at gates k).waits (c.packet ∷ []) (for_gate k cs))
      | inr not ↦
          let test = ne_eqb c.gate k not in
          rw test (rest ∙ ap (λ (g : GateModel). g.waits ++ for_gate k cs) (get_or-set_other gates c.gate k (behind (gate_at gates c.gate) c.packet) no_gate (λ e. not (sym e))))
    ]

module _ (room : ℕ) (classes : List ℕ) where
  pub pass_before : (at_edge : Bool) (tick : ℕ) (ws : List Packet) (levels : List LevelModel) (ls : List (List Packet)) →
      passers room at_edge classes tick ws levels ls ++ (opened room at_edge classes tick ws levels ls).waits ≡ ws
  unfolding passers opened
  pass_before b tick [] levels ls = refl
  pass_before b tick (w ∷ ws) levels ls =
      elim (cases_Bool (may_go room classes tick w levels ls)) [
        | inl may ↦ rw may (ap (λ x. w ∷ x) (pass_before b tick ws (spent_by tick w levels) (queued_by b classes tick w ls)))
        | inr not ↦ rw not refl
      ]

  pub all-pass-before : (gates : List GateModel) (s : MachineModel) (k : ℕ) →
      get_or (all_passers room classes gates s) k [] ++ (gate_at (open_all room classes gates s).gates k).waits ≡ (gate_at gates k).waits
  unfolding all_passers open_all
  all-pass-before [] s k = refl
  all-pass-before (g ∷ gs) s zero = pass_before g.at_edge s.tick g.waits s.levels s.queues
  all-pass-before (g ∷ gs) s (suc k) = all-pass-before gs (after_open s (open_one room classes g s)) k

pub nobody_overtakes : NobodyOvertakes
nobody_overtakes room classes cs e k within =
    all-pass-before room classes (accept_all cs e.gates) (leave_phase e).machine k ∙ come_behind cs e.gates k within
