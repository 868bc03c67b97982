use Rattle.std.proofs.Common.{◌≡◌, length, take, vec_items}
use Rattle.std.specs.List.{flat_map}
use Rattle.std.proofs.lemmas.List.{length-take-le}
use Rattle.record_bytes.specs.Numbers.{bytes_of}
use Rattle.flows.specs.NetFormat.{port_bytes}
use Rattle.writing.proofs.Fronts.{on_err, begun_after, begun_first, begun_not}
use Rattle.writing.proofs.plans.NetWritten.put.Goals as goal

pub returns-in_err-put_all-clause-begun : goal.returns-in_err-put_all-clause-begun
returns-in_err-put_all-clause-begun c =
    let net = c.args.self.now in
    let ports = take net.count net.ports in
    let size : length ports ≡ net.count = length-take-le net.count net.ports net.ports_listed in
    let begun = rw c.ports.ensures at c.in_err-put_all.ensures.begun in
    rw size (on_err _ _ (
    begun_after (vec_items c.args.out.now) (bytes_of 1 2) _ _ _ c.in_ok-put.ensures.appended (
    begun_after (vec_items c.put.new.out) (bytes_of 1 net.count) _ _ _ c.in_ok-put-2.ensures.appended (
    begun_first (vec_items c.put-2.new.out) (flat_map port_bytes ports) _ _ begun))))

pub returns-in_err-put-3-clause-begun : goal.returns-in_err-put-3-clause-begun
returns-in_err-put-3-clause-begun c =
    let net = c.args.self.now in
    let ports = take net.count net.ports in
    let size : length ports ≡ net.count = length-take-le net.count net.ports net.ports_listed in
    let put = rw c.ports.ensures at c.in_ok-put_all.ensures.appended in
    rw size (on_err _ _ (
    begun_after (vec_items c.args.out.now) (bytes_of 1 2) _ _ _ c.in_ok-put.ensures.appended (
    begun_after (vec_items c.put.new.out) (bytes_of 1 net.count) _ _ _ c.in_ok-put-2.ensures.appended (
    begun_after (vec_items c.put-2.new.out) (flat_map port_bytes ports) _ _ _ put (
    begun_not _ _ _ c.in_err-put-3.ensures.kept)))))
