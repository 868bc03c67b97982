use Rattle.std.proofs.Common.{◌≡◌, ◌++◌, drop, string_bytes}
use Rattle.admission.specs.Plans.{plan_of}
use Rattle.printing.specs.Output.{printed_all}
use Rattle.printing.proofs.print.add_lines.Given as goal

abbrev pub invariant-loop-line : goal.invariant-loop-line
invariant-loop-line l = string_bytes l.text ++ printed_all (plan_of l.plan) (drop l.line-index l.lines) ≡ string_bytes l.initial.text ++ printed_all (plan_of l.plan) l.lines
