use Rattle.std.proofs.Common.{◌≡◌, get_or, suc, vec_items, rules, drop, take}
use Rattle.std.specs.List.{flat_map}
use Rattle.writing.proofs.Fronts.{on_err, begun_after, begun_first, split_values}
use Rattle.writing.proofs.written.put_all.Goals as goal

pub returns-in_err-put-clause-begun : goal.returns-in_err-put-clause-begun
returns-in_err-put-clause-begun g c =
    let values = c.args.values.now in
    let i = c.loop-value.value-index in
    let v = c.value-item.result in
    let all = split_values g.T.Written.bytes values i v c.loop-value-test.true in
    let item : v ≡ get_or values i v = search rules in
    let begun = rw item at c.in_err-put.ensures.begun in
    let others = flat_map g.T.Written.bytes (drop (suc i) values) in
    rw (← all) (on_err _ _ (
    begun_after (vec_items c.args.out.now) (flat_map g.T.Written.bytes (take i values)) _ _ _ c.loop-value.invariant
    (begun_first (vec_items c.loop-value.out) (g.T.Written.bytes (get_or values i v)) others _ begun)))
