use Rattle.std.proofs.Common.{◌≡◌, ◌&&◌, Some, None, ◌++◌, map, refl, sym, ap, ◌∙◌}
use Rattle.std.specs.Bool.{◌==◌}
use Rattle.std.specs.List.{position}
use Rattle.egress.proofs.PlaceLaws.{each-both}
use Rattle.bridge.specs.declared.come_error.ComeError.TheVariants.{NoGate}
use Rattle.bridge.specs.declared.regulated.Inside.{Inside}
use Rattle.bridge.specs.Held.{edge_state, inside_state}
use Rattle.bridge.specs.Comes.{of_port}
use Rattle.bridge.proofs.ComeSteps.{comes-later, comes_at, as_before, none_found, is-none, no-port, no-gate, no-memory, inside-more, inside-kept}
use Rattle.bridge.proofs.egress_port.EgressPort.come_from_port.Goals as goal

pub returns-in_err-place-clause-comes : goal.returns-in_err-place-clause-comes
returns-in_err-place-clause-comes c =
    let found : position (λ (i : Inside). i.from == c.args.from && i.class == c.args.class) c.args.self.now.inside.items ≡ None =
    rw c.deref.ensures.value at (sym c.inside_of.ensures ∙ c.in_err-place.ensures.ok_part) in
    let none = none_found (of_port c.args.from c.args.class) c.args.coming inside_state (λ (i : Inside). i.from == c.args.from && i.class == c.args.class) (λ x. refl) c.args.self.now.inside.items found in
    let is : c.in_err-place.field-0.0 ≡ NoGate = is-none c.inside_of.result c.in_err-place.field-0.0 c.in_err-place.ensures.ok_part c.in_err-place.ensures.value in
    no-gate (of_port c.args.from c.args.class) c.args.coming _ _ c.from_residual.result c.from_residual.ensures.0 (rw is at c.from_residual.ensures.1)
    (each-both _ _ _ (no-port c.args.from c.args.class c.args.self.now.edges.items) none) refl

pub returns-in_err-come-clause-comes : goal.returns-in_err-come-clause-comes
returns-in_err-come-clause-comes c =
    let found : position (λ (i : Inside). i.from == c.args.from && i.class == c.args.class) c.args.self.now.inside.items ≡ Some c.in_ok-place.place =
    rw c.deref.ensures.value at (sym c.inside_of.ensures ∙ c.in_ok-place.ensures.ok_part) in
    no-memory (of_port c.args.from c.args.class) c.args.coming _ _ c.from_residual-in_err-come.result _ c.from_residual-in_err-come.ensures.0 c.from_residual-in_err-come.ensures.1
    (ap (λ gs. map edge_state c.args.self.now.edges.items ++ gs)
    (as_before (of_port c.args.from c.args.class) c.args.coming inside_state (λ (i : Inside). i.from == c.args.from && i.class == c.args.class) (λ x. refl) c.args.self.now.inside.items c.in_ok-place.place c.index_mut.result.now _ found
    (inside-kept c.index_mut.result.now _ c.come.new.self c.in_err-come.ensures.waits c.in_err-come.ensures.aside c.in_err-come.ensures.kept c.index_mut.ensures.value)))

pub returns-clause-comes : goal.returns-clause-comes
returns-clause-comes c =
    let found : position (λ (i : Inside). i.from == c.args.from && i.class == c.args.class) c.args.self.now.inside.items ≡ Some c.in_ok-place.place =
    rw c.deref.ensures.value at (sym c.inside_of.ensures ∙ c.in_ok-place.ensures.ok_part) in
    comes-later (of_port c.args.from c.args.class) c.args.coming _ _ _ (no-port c.args.from c.args.class c.args.self.now.edges.items)
    (comes_at (of_port c.args.from c.args.class) c.args.coming inside_state (λ (i : Inside). i.from == c.args.from && i.class == c.args.class) (λ x. refl) c.args.self.now.inside.items c.in_ok-place.place c.index_mut.result.now _ found
    (inside-more c.args.coming c.index_mut.result.now _ c.come.new.self c.in_ok-come.ensures.waits c.in_ok-come.ensures.aside c.in_ok-come.ensures.comes c.index_mut.ensures.value))
