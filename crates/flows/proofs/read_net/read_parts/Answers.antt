use Rattle.std.proofs.Common.{◌≡◌, ℕ, ◌<◌, ◌≤◌, List, ◌++◌, length, min, get_or, take, refl, arith}
use Rattle.std.proofs.lemmas.List.{take_at, length-take}
use Rattle.record_bytes.specs.Reading.{read}
use Rattle.record_bytes.specs.Answers.{cursor}
use Rattle.flows.specs.declared.port.Port.{Port}
use Rattle.flows.specs.Net.{NetModel, SoundNet, SoundPort, no_port}
use Rattle.flows.specs.NetFormat.{net_from}
use Rattle.flows.proofs.NetLaws.{net_sound, places_sound}
use Rattle.flows.proofs.read_net.read_parts.Goals as goal

-- a sound net in tables that are longer
in_tables : (ports others : List Port) (memory rest : List ℕ) (count switches : ℕ) → length ports ≡ count → length memory ≡ switches →
    SoundNet (record { ports = ports; memories = memory }) →
    (count ≤ 64) × ((count ≤ length (ports ++ others)) × ((switches ≤ length (memory ++ rest)) × (((k : ℕ) → k < count → SoundPort switches (get_or (ports ++ others) k no_port)) × (((k : ℕ) → k < switches → get_or (memory ++ rest) k 0 ≤ 1048576) × Unit {0}))))
in_tables ports others memory rest count switches ports-size memory-size sound =
    let front : take count (ports ++ others) ≡ ports = take_at ports others count ports-size in
    let start : take switches (memory ++ rest) ≡ memory = take_at memory rest switches memory-size in
    places_sound (ports ++ others) count (memory ++ rest) switches (rw front ports-size) (rw start memory-size) (rw (front, start) sound)

pub invariant_of-result : goal.invariant_of-result
unfolding net_from
invariant_of-result c =
    let n = c.in_ok-count.count in
    let s = c.in_ok-switches.switches in
    let all_ports : min n 64 ≡ n = omega (arith, c.in_ok-count.ensures.inside) in
    let all_memories : min s 255 ≡ s = omega (arith, c.in_ok-switches.ensures.inside) in
    let kind = rw c.into.ensures at c.in_ok-kind.ensures.value in
    let ports-size = simp (length-take, c.from.ensures, all_ports) at c.read_all.auto.places in
    let memory-size = simp (length-take, c.from-4.ensures, all_memories) at c.read_all-2.auto.places in
    let ports = simp (length-take, c.from.ensures, all_ports) at c.in_ok-read_all.ensures in
    let memory = simp (length-take, c.from-4.ensures, all_memories) at c.in_ok-read_all-2.ensures in
    let needs = simp (c.from-2.ensures, take_at) at c.switches_needed-needed.ensures in
    let switches = rw c.from-3.ensures at c.in_ok-switches.ensures.value in
    let net : NetModel = record { ports = c.read_all.new.places; memories = c.read_all-2.new.places } in
    let is : net_from c.args.least (cursor c.args.reader.now) ≡ read net (cursor c.read_all-2.new.reader) =
    rw (← kind, ← c.in_ok-count.ensures.value, ← ports, ← needs, ← switches, ← memory) refl in
    let sound = net_sound c.args.least net (cursor c.args.reader.now) (cursor c.read_all-2.new.reader) is in
    let holds = in_tables c.read_all.new.places _ c.read_all-2.new.places _ n s ports-size memory-size sound.0 in
    record {
      ports_few = holds.0;
      ports_listed = holds.1.0;
      memory_listed = holds.1.1.0;
      each_port = holds.1.1.1.0;
      each_memory = holds.1.1.1.1.0;
    }
