use Rattle.std.proofs.Common.{ℕ, ◌+◌, ◌-◌, ◌≤◌, length, drop, vec_len, vec_capacity}
use Rattle.lines.specs.Lines.{waits}
use Rattle.regulators.specs.Judged.{judged, inner_accepts}
use Rattle.regulators.specs.Ticked.{judged_behind, Sound, InnerEnds}
use Rattle.regulators.proofs.inside.judge.Given as goal

abbrev pub invariant-loop-one : goal.invariant-loop-one
invariant-loop-one l =
    record {
      room : (n : ℕ) → vec_len l.initial.refused + length l.coming + n ≤ vec_capacity l.initial.refused → vec_len l.refused + (length l.coming - l.one-index) + n ≤ vec_capacity l.refused;
      ends : Sound l.aside l.initial.cells l.initial.counted →
          InnerEnds l.aside l.cells l.counted l.refused.items (drop l.one-index l.coming)
          (judged_behind l.initial.refused.items (judged (inner_accepts l.aside) (waits l.initial.cells l.initial.counted.line) l.coming));
    }
