use Rattle.std.proofs.Common.{map, drop, ◌+◌, sym, ap, ◌∙◌}
use Rattle.std.proofs.lemmas.List.{at_drop_all, map-set}
use Rattle.std.specs.Option.{option_map}
use Rattle.flows.specs.Models.{flow_of}
use Rattle.promises.specs.Loads.{loads_with, loads_until}
use Rattle.promises.specs.Models.{load_model, loads_model}
use Rattle.promises.proofs.TableLaws.{loads_full, loads_more}
use Rattle.promises.proofs.loads.Loads.add.Goals as goal

pub returns-in_err-load-clause-left : goal.returns-in_err-load-clause-left
returns-in_err-load-clause-left c =
    (loads_full (flow_of c.args.flow.now) (loads_model c.loop-port.self) _ c.loop-port.port-index c.loop-port-test.true _ c.at.ensures c.in_err-load.ensures).1
    ∙ c.loop-port.invariant.left

pub returns-in_err-load-clause-told : goal.returns-in_err-load-clause-told
returns-in_err-load-clause-told c =
    ap (option_map (λ _. loads_model c.loop-port.self)) c.from_residual.ensures
    ∙ (loads_full (flow_of c.args.flow.now) (loads_model c.loop-port.self) _ c.loop-port.port-index c.loop-port-test.true _ c.at.ensures c.in_err-load.ensures).0
    ∙ c.loop-port.invariant.told

pub loop-port-preserved : goal.loop-port-preserved
loop-port-preserved c =
    let f = flow_of c.args.flow.now in
    let rest = drop (c.loop-port.port-index + 1) c.road-port-items.result.now in
    let put = ap (map load_model) c.put.ensures ∙ map-set load_model c.loop-port.self.ports.each _ c.in_ok-load.load in
    let more = loads_more f (loads_model c.loop-port.self) _ c.loop-port.port-index c.loop-port-test.true _ c.at.ensures (load_model c.in_ok-load.load) c.in_ok-load.ensures in
    record {
      told = ap (loads_with f rest) put ∙ more.0 ∙ c.loop-port.invariant.told;
      left = ap (loads_until f rest) put ∙ more.1 ∙ c.loop-port.invariant.left;
    }

pub returns-clause-left : goal.returns-clause-left
unfolding loads_until
returns-clause-left c =
    let f = flow_of c.args.flow.now in
    let ts = loads_model c.loop-port.self in
    sym (at_drop_all (λ ps. loads_until f ps ts) _ c.loop-port.port-index c.loop-port-test.false) ∙ c.loop-port.invariant.left

pub returns-clause-told : goal.returns-clause-told
unfolding loads_with
returns-clause-told c =
    let f = flow_of c.args.flow.now in
    let ts = loads_model c.loop-port.self in
    sym (at_drop_all (λ ps. loads_with f ps ts) _ c.loop-port.port-index c.loop-port-test.false) ∙ c.loop-port.invariant.told
