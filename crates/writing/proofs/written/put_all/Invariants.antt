use Rattle.std.proofs.Common.{◌≡◌, ◌++◌, take, vec_items}
use Rattle.std.specs.List.{flat_map}
use Rattle.writing.proofs.written.put_all.Given as goal

abbrev pub invariant-loop-value : goal.invariant-loop-value
invariant-loop-value g l =
    vec_items l.out ≡ vec_items l.initial.out ++ flat_map g.T.Written.bytes (take l.value-index l.values)
