use Rattle.std.proofs.Common.{◌≡◌, ◌+◌, ◌-◌, ◌≤◌, length, drop, unwrap_or, sym, ap, ◌∙◌, arith, rules, tests, length-drop}
use Rattle.std.proofs.Math.Nat.{zero-max}
use Rattle.std.proofs.lemmas.Iterator.{YieldsList-from_slice, YieldsList-from_map}
use Rattle.std.proofs.lemmas.Iterator.Consumers.{reduce_from_yields_List}
use Rattle.std.proofs.lemmas.List.{take_all, drop-map}
use Rattle.std.proofs.lemmas.List.Folds.{max_of_map}
use Rattle.promises.specs.Loads.{largest}
use Rattle.promises.specs.Models.{load_model}
use Rattle.promises.proofs.SumLaws.{largest_from}
use Rattle.promises.proofs.load.Load.longest_above.Goals as goal

pub returns : goal.returns
returns c =
    let next = c.from-next.result + 1 in
    let above = drop next c.args.self.now.classes in
    let few : length above ≤ 8 - next = omega (arith, length-drop next c.args.self.now.classes) in
    let seen : c.iter.result.rest.now ≡ above = c.iter.ensures.rest ∙ take_all (8 - next) above few in
    c.unwrap_or.ensures ∙ ap (λ o. unwrap_or o 0)
    (reduce_from_yields_List _ c.map.result _ c.max.ensures.ran
    (YieldsList-from_map _ (λ asked. asked.longest) (YieldsList-from_slice above (ap (λ i. i.rest.now) c.map.ensures.source ∙ seen))
    c.map.ensures.closure (λ x r q k. search (rules, tests))))
    ∙ max_of_map (λ asked. asked.longest) above ∙ largest_from (λ asked. asked.longest) 0 above ∙ zero-max _
    ∙ ap largest (sym (drop-map (λ asked. asked.longest) next c.args.self.now.classes))
    ∙ ap (λ n. largest (drop (n + 1) (load_model c.args.self.now).longest)) c.from-next.ensures
