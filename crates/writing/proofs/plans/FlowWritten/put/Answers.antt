use Rattle.std.proofs.Common.{◌≡◌, ◌++◌, length, take, vec_items, append_assoc, arith, rules}
use Rattle.std.proofs.lemmas.List.{length-take-le}
use Rattle.flows.specs.FlowFormat.{flow_bytes}
use Rattle.flows.specs.Models.{flow_of}
use Rattle.writing.proofs.Fronts.{begun_after, begun_not}
use Rattle.writing.proofs.plans.FlowWritten.put.Goals as goal

pub returns-clause-appended : goal.returns-clause-appended
returns-clause-appended c =
    let flow = c.args.self.now in
    let size : length (take flow.hops flow.road) ≡ flow.hops = length-take-le flow.hops flow.road flow.ports_listed in
    let all : vec_items c.extend_from_slice.new.self ≡ vec_items c.args.out.now ++ flow_bytes (flow_of flow) =
    rw (
      size,
      c.in_ok-extend_from_slice.ensures.items,
      c.road.ensures,
      c.in_ok-put-7.ensures.appended,
      c.in_ok-put-6.ensures.appended,
      c.in_ok-put-5.ensures.appended,
      c.in_ok-put-4.ensures.appended,
      c.in_ok-put-3.ensures.appended,
      c.in_ok-put-2.ensures.appended,
      c.in_ok-put.ensures.appended,
    )
    (simp append_assoc) in
    search rules

pub returns-in_err-extend_from_slice-clause-begun : goal.returns-in_err-extend_from_slice-clause-begun
returns-in_err-extend_from_slice-clause-begun c =
    let flow = c.args.self.now in
    let size : length (take flow.hops flow.road) ≡ flow.hops = length-take-le flow.hops flow.road flow.ports_listed in
    rw size (grind (arith, begun_after, begun_not))
