use Rattle.std.proofs.Common.{◌≡◌, ℕ, List, ◌++◌}
use Rattle.std.specs.Io.KnownBytes.{Appends}
use Rattle.printing.proofs.send.send.Given as goal

abbrev pub invariant-loop : goal.invariant-loop
invariant-loop g l = (sent : List ℕ) × (sent ++ l.rest ≡ l.initial.rest) × Appends (g.W.Write.contents l.initial.out) (g.W.Write.contents l.out) sent
