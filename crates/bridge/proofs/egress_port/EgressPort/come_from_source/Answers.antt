use Rattle.std.proofs.Common.{◌≡◌, Some, None, ◌++◌, map, refl, sym, ap, ◌∙◌}
use Rattle.std.specs.Bool.{◌==◌}
use Rattle.std.specs.List.{position}
use Rattle.egress.proofs.PlaceLaws.{each-both}
use Rattle.bridge.specs.declared.come_error.ComeError.TheVariants.{NoGate}
use Rattle.bridge.specs.declared.regulated.Edge.{Edge}
use Rattle.bridge.specs.Held.{edge_state, inside_state}
use Rattle.bridge.specs.Comes.{of_source}
use Rattle.bridge.proofs.ComeSteps.{comes-first, comes_at, as_before, none_found, is-none, no-source, no-gate, no-memory, edge-more, edge-kept}
use Rattle.bridge.proofs.egress_port.EgressPort.come_from_source.Goals as goal

pub returns-in_err-place-clause-comes : goal.returns-in_err-place-clause-comes
returns-in_err-place-clause-comes c =
    let found : position (λ (e : Edge). e.flow == c.args.coming.packet.flow) c.args.self.now.edges.items ≡ None =
    rw c.deref.ensures.value at (sym c.edge_of.ensures ∙ c.in_err-place.ensures.ok_part) in
    let none = none_found (of_source c.args.coming.packet.flow) c.args.coming edge_state (λ (e : Edge). e.flow == c.args.coming.packet.flow) (λ x. refl) c.args.self.now.edges.items found in
    let is : c.in_err-place.field-0.0 ≡ NoGate = is-none c.edge_of.result c.in_err-place.field-0.0 c.in_err-place.ensures.ok_part c.in_err-place.ensures.value in
    no-gate (of_source c.args.coming.packet.flow) c.args.coming _ _ c.from_residual.result c.from_residual.ensures.0 (rw is at c.from_residual.ensures.1)
    (each-both _ _ _ none (no-source c.args.coming.packet.flow c.args.self.now.inside.items)) refl

pub returns-in_err-come-clause-comes : goal.returns-in_err-come-clause-comes
returns-in_err-come-clause-comes c =
    let found : position (λ (e : Edge). e.flow == c.args.coming.packet.flow) c.args.self.now.edges.items ≡ Some c.in_ok-place.place =
    rw c.deref.ensures.value at (sym c.edge_of.ensures ∙ c.in_ok-place.ensures.ok_part) in
    no-memory (of_source c.args.coming.packet.flow) c.args.coming _ _ c.from_residual-in_err-come.result _ c.from_residual-in_err-come.ensures.0 c.from_residual-in_err-come.ensures.1
    (ap (λ gs. gs ++ map inside_state c.args.self.now.inside.items)
    (as_before (of_source c.args.coming.packet.flow) c.args.coming edge_state (λ (e : Edge). e.flow == c.args.coming.packet.flow) (λ x. refl) c.args.self.now.edges.items c.in_ok-place.place c.index_mut.result.now _ found
    (edge-kept c.index_mut.result.now _ c.come.new.self c.in_err-come.ensures.waits c.in_err-come.ensures.kept c.index_mut.ensures.value)))

pub returns-clause-comes : goal.returns-clause-comes
returns-clause-comes c =
    let found : position (λ (e : Edge). e.flow == c.args.coming.packet.flow) c.args.self.now.edges.items ≡ Some c.in_ok-place.place =
    rw c.deref.ensures.value at (sym c.edge_of.ensures ∙ c.in_ok-place.ensures.ok_part) in
    comes-first (of_source c.args.coming.packet.flow) c.args.coming _ _ _
    (comes_at (of_source c.args.coming.packet.flow) c.args.coming edge_state (λ (e : Edge). e.flow == c.args.coming.packet.flow) (λ x. refl) c.args.self.now.edges.items c.in_ok-place.place c.index_mut.result.now _ found
    (edge-more c.args.coming c.index_mut.result.now _ c.come.new.self c.in_ok-come.ensures.waits c.in_ok-come.ensures.comes c.index_mut.ensures.value))
