use Rattle.std.proofs.Common.{◌+◌, map, set, get_or, drop, sym, ap, ◌∙◌}
use Rattle.std.proofs.lemmas.List.{at_drop_more, at_drop_all, map-set}
use Rattle.promises.specs.Loads.{loads_along}
use Rattle.promises.specs.Models.{load_model, loads_model}
use Rattle.promises.proofs.loads.Loads.follow.Goals as goal

pub loop-port-preserved : goal.loop-port-preserved
unfolding loads_along
loop-port-preserved c =
    let us = loads_model c.args.other.now in
    let ts = loads_model c.loop-port.self in
    ap (loads_along (drop (c.loop-port.port-index + 1) c.args.road.now) us)
    (ap (map load_model) c.put.ensures ∙ map-set load_model c.loop-port.self.ports.each _ c.at.result ∙ ap (set ts (get_or c.args.road.now c.loop-port.port-index 0)) c.at.ensures)
    ∙ sym (at_drop_more (λ ps. loads_along ps us ts) _ c.loop-port.port-index 0 c.loop-port-test.true) ∙ c.loop-port.invariant

pub returns : goal.returns
unfolding loads_along
returns c =
    let us = loads_model c.args.other.now in
    let ts = loads_model c.loop-port.self in
    sym (at_drop_all (λ ps. loads_along ps us ts) _ c.loop-port.port-index c.loop-port-test.false) ∙ c.loop-port.invariant
