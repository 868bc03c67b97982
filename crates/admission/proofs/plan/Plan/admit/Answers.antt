use Rattle.std.proofs.Common.{◌≡◌, ◌∷◌, ◌++◌, [], map, box_value, vec_items, ap, ◌∙◌, rules}
use Rattle.flows.specs.Models.{net_of}
use Rattle.admission.specs.Models.{numbered_model}
use Rattle.admission.proofs.PlanLaws.{taken_keeps, stays_kept, led, demand_told, tested_told, pushed, popped, refused_keeps, admitted_keeps}
use Rattle.admission.proofs.plan.Plan.admit.Goals as goal

pub returns-in_default-add : goal.returns-in_default-add
returns-in_default-add c =
    let leading = led _ _ _ c.road.ensures c.if-not-has_road.ensures.value in
    let tries = taken_keeps _ c.in_ok-tried.tried _ c.args.self.now.tried_kept c.in_ok-tried.ensures.value in
    absurd (demand_told c.args.self.now c.args.new leading _ tries _ c.add.new.self _ c.as_mut.ensures.value c.len.ensures c.if-len-ge-MOST_FLOWS.false c.in_default-add.ensures)

pub invariant_of-self-in_default-add : goal.invariant_of-self-in_default-add
invariant_of-self-in_default-add c =
    let leading = led _ _ _ c.road.ensures c.if-not-has_road.ensures.value in
    let tries = taken_keeps _ c.in_ok-tried.tried _ c.args.self.now.tried_kept c.in_ok-tried.ensures.value in
    absurd (demand_told c.args.self.now c.args.new leading _ tries _ c.add.new.self _ c.as_mut.ensures.value c.len.ensures c.if-len-ge-MOST_FLOWS.false c.in_default-add.ensures)

pub invariant_of-self-in-Err : goal.invariant_of-self-in-Err
invariant_of-self-in-Err c =
    let plan = c.args.self.now in
    let tries = taken_keeps _ c.in_ok-tried.tried _ plan.tried_kept c.in_ok-tried.ensures.value in
    let back : vec_items c.push.new.self ≡ vec_items plan.flows = search (rules, c.in-Err.ensures.items) in
    let keeps = stays_kept plan (box_value c.in_ok-tried.tried) _ back tries in
    record { demand_kept = keeps.demand_kept; tried_kept = keeps.tried_kept; on_roads = keeps.on_roads; fits = keeps.fits }

pub invariant_of-self-in-Err-judged : goal.invariant_of-self-in-Err-judged
invariant_of-self-in-Err-judged c =
    let plan = c.args.self.now in
    let leading = led _ _ _ c.road.ensures c.if-not-has_road.ensures.value in
    let tries = taken_keeps _ c.in_ok-tried.tried _ c.args.self.now.tried_kept c.in_ok-tried.ensures.value in
    let more : vec_items c.push.new.self ≡ vec_items plan.flows ++ c.args.new ∷ [] = search (rules, c.in_default.ensures.items) in
    let keeps = refused_keeps plan c.args.new leading _ tries _ c.add.new.self c.follow.new.self c.as_mut.ensures.value c.in-Some.ensures (vec_items c.pop.new.self)
    (c.pop.ensures.rest ∙ popped (vec_items plan.flows) (vec_items c.push.new.self) c.args.new _ more c.push.new.self.ok.0)
    (rw (c.road-in-Err-judged.ensures, c.as_ref-in-Err-judged.ensures, c.as_mut-in-Err-judged.ensures.value) at c.follow.ensures.loads)
    (rw (c.road-in-Err-judged.ensures, c.as_ref-in-Err-judged.ensures, c.as_mut-in-Err-judged.ensures.value) at c.follow.ensures.pairs) in
    record { demand_kept = keeps.demand_kept; tried_kept = keeps.tried_kept; on_roads = keeps.on_roads; fits = keeps.fits }

pub returns-in-Err-judged : goal.returns-in-Err-judged
returns-in-Err-judged c =
    let plan = c.args.self.now in
    let ns = vec_items plan.flows in
    let leading = led _ _ _ c.road.ensures c.if-not-has_road.ensures.value in
    let tries = taken_keeps _ c.in_ok-tried.tried _ c.args.self.now.tried_kept c.in_ok-tried.ensures.value in
    let more : vec_items c.push.new.self ≡ ns ++ c.args.new ∷ [] = search (rules, c.in_default.ensures.items) in
    let told = tested_told plan c.args.new leading _ tries _ c.add.new.self c.as_mut.ensures.value c.in-Some.ensures (vec_items c.push.new.self) c.as_slice.result.now
    c.as_slice.ensures.value more _ (rw c.as_ref.ensures at c.in-Err-judged.ensures.value) in
    let back = c.pop.ensures.rest ∙ popped ns (vec_items c.push.new.self) c.args.new _ more c.push.new.self.ok.0 in
    rw c.into-in-Err-judged.ensures (told, ap (λ xs. record { net = net_of plan.net; flows = map numbered_model xs }) back)

pub invariant_of-self-2 : goal.invariant_of-self-2
invariant_of-self-2 c =
    let plan = c.args.self.now in
    let leading = led _ _ _ c.road.ensures c.if-not-has_road.ensures.value in
    let tries = taken_keeps _ c.in_ok-tried.tried _ c.args.self.now.tried_kept c.in_ok-tried.ensures.value in
    let more : vec_items c.push.new.self ≡ vec_items plan.flows ++ c.args.new ∷ [] = search (rules, c.in_default.ensures.items) in
    let told = tested_told plan c.args.new leading _ tries _ c.add.new.self c.as_mut.ensures.value c.in-Some.ensures (vec_items c.push.new.self) c.as_slice.result.now
    c.as_slice.ensures.value more _ (rw c.as_ref.ensures at c.in_default-judged.ensures.value) in
    let keeps = admitted_keeps plan c.args.new leading _ tries _ c.add.new.self c.follow-2.new.self c.as_mut.ensures.value c.in-Some.ensures (vec_items c.push.new.self) more told
    (rw (c.road-2.ensures, c.as_ref-2.ensures, c.as_mut-2.ensures.value) at c.follow-2.ensures.loads)
    (rw (c.road-2.ensures, c.as_ref-2.ensures, c.as_mut-2.ensures.value) at c.follow-2.ensures.pairs) in
    record { demand_kept = keeps.demand_kept; tried_kept = keeps.tried_kept; on_roads = keeps.on_roads; fits = keeps.fits }

pub returns : goal.returns
returns c =
    let plan = c.args.self.now in
    let ns = vec_items plan.flows in
    let leading = led _ _ _ c.road.ensures c.if-not-has_road.ensures.value in
    let tries = taken_keeps _ c.in_ok-tried.tried _ c.args.self.now.tried_kept c.in_ok-tried.ensures.value in
    let more : vec_items c.push.new.self ≡ ns ++ c.args.new ∷ [] = search (rules, c.in_default.ensures.items) in
    let told = tested_told plan c.args.new leading _ tries _ c.add.new.self c.as_mut.ensures.value c.in-Some.ensures (vec_items c.push.new.self) c.as_slice.result.now
    c.as_slice.ensures.value more _ (rw c.as_ref.ensures at c.in_default-judged.ensures.value) in
    (told, ap (λ gs. record { net = net_of plan.net; flows = gs }) (pushed ns (vec_items c.push.new.self) c.args.new more))
