use Rattle.std.proofs.Common.{◌≡◌, ◌-◌, drop}
use Rattle.lines.specs.Lines.{waits, Fits}
use Rattle.lines.specs.Ticks.{Counts}
use Rattle.regulators.proofs.inside.left_of.Given as goal

abbrev pub invariant-loop-left : goal.invariant-loop-left
invariant-loop-left l =
    Fits l.cells l.fn.counted.line → Counts l.cells l.fn.counted →
    Fits l.cells l.left.line × Counts l.cells l.left ×
    (drop (l.left.line.count - l.count) (waits l.cells l.left.line) ≡ drop (l.fn.counted.line.count - l.count) (waits l.cells l.fn.counted.line))

abbrev pub decreases-loop-left : goal.decreases-loop-left
decreases-loop-left l = l.left.line.count
