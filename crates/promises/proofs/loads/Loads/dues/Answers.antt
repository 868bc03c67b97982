use Rattle.std.proofs.Common.{◌≡◌, ℕ, ◌+◌, ◌≤◌, length, get_or, set, take, Some, None, sym, ap, ◌∙◌, subst, arith, rules, length-set}
use Rattle.std.proofs.lemmas.Grind.{common_steps}
use Rattle.std.proofs.lemmas.List.{length-take-le}
use Rattle.std.specs.Option.{option_map}
use Rattle.flows.specs.Net.{port_at}
use Rattle.flows.specs.Models.{net_of}
use Rattle.promises.specs.Loads.{loads_promise, loads_dues}
use Rattle.promises.specs.Models.{loads_model}
use Rattle.promises.proofs.DueLaws.{Adds, adds_on, adds_none, adds_end}
use Rattle.promises.proofs.loads.Loads.dues.Goals as goal

pub returns-in_err-due : goal.returns-in_err-due
returns-in_err-due c =
    let road = c.road-port-items.result.now in
    let none : None ≡ loads_promise (loads_model c.args.self.now) (get_or road c.loop-i.i 0) c.args.flow.now.class = search rules in
    ap (option_map (take c.args.flow.now.hops)) c.from_residual.ensures
    ∙ adds_none _ _ _ c.loop-i.ticks c.loop-i.i c.loop-i.dues _ _ c.loop-i-test.true none c.loop-i.invariant.adds
    ∙ ap (loads_dues (net_of c.args.net.now) (loads_model c.args.self.now) c.args.flow.now.class 0) c.road-port-items.ensures

pub loop-i-preserved : goal.loop-i-preserved
loop-i-preserved c =
    let net = net_of c.args.net.now in
    let ts = loads_model c.args.self.now in
    let class = c.args.flow.now.class in
    let road = c.road-port-items.result.now in
    let i = c.loop-i.i in
    let d = c.in_ok-due.field-0 in
    let t = c.loop-i.ticks in
    let table = set c.loop-i.dues i (t + d) in
    let small = c.in_ok-due.ensures.small in
    let hops : length road ≤ 16 = rw c.road-port-items.ensures (grind (arith, common_steps)) in
    let wire : (port_at net (get_or road i 0)).wire ≡ c.from.result = sym (c.from.ensures ∙ ap (λ p. p.wire) c.port.ensures) in
    let here : Some d ≡ loads_promise ts (get_or road i 0) class = search rules in
    let whole = loads_dues net ts class 0 road in
    let P : ℕ → Type 0 = λ w. Adds net ts class (t + d + w) (i + 1) table road whole in
    record {
      sized = length-set c.loop-i.dues i (t + d) ∙ c.loop-i.invariant.sized;
      small = omega arith;
      adds = subst P wire
          (adds_on net ts class t i c.loop-i.dues road whole d c.loop-i-test.true (omega (arith, c.loop-i.invariant.sized)) here c.loop-i.invariant.adds);
    }

pub returns : goal.returns
returns c =
    let road = c.road-port-items.result.now in
    let long : length road ≡ c.args.flow.now.hops =
    ap length c.road-port-items.ensures ∙ length-take-le c.args.flow.now.hops c.args.flow.now.road c.args.flow.now.ports_listed in
    ap (λ n. Some (take n c.loop-i.dues)) (sym long)
    ∙ adds_end _ _ _ c.loop-i.ticks c.loop-i.i c.loop-i.dues road _ c.loop-i-test.false c.loop-i.auto.i-end c.loop-i.invariant.adds
    ∙ ap (loads_dues (net_of c.args.net.now) (loads_model c.args.self.now) c.args.flow.now.class 0) c.road-port-items.ensures
