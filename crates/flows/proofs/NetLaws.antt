-- Nets that are read are sound. Assumes nothing.
use Rattle.std.proofs.Common.{◌≡◌, ℕ, ◌+◌, ◌<◌, ◌≤◌, max, fold, map, List, [], ◌∷◌, length, get_or, take, sym, refl, ap, ◌∙◌, subst, arith}
use Rattle.std.specs.List.{AllByRecursion as Each}
use Rattle.std.proofs.lemmas.List.{get_or-take, length-take}
use Rattle.std.proofs.ByRecursion.{All-get_or}
use Rattle.record_bytes.specs.Reading.{Cursor, Outcome, read, fault, several}
use Rattle.record_bytes.specs.Numbers.{number, ranged, kind_byte}
use Rattle.record_bytes.proofs.Sequence.{both_read, same_value, ranged_bounds, several_all}
use Rattle.flows.specs.declared.port.Port.{Port}
use Rattle.flows.specs.Net.{NetModel, net_model, no_port, SoundPort, SoundNet}
use Rattle.flows.specs.NetFormat.{port_from, needed, net_from}

port_wire : (p : Port) (c after : Cursor) → port_from c ≡ read p after → p.wire ≤ 1023
unfolding port_from
port_wire p c after e =
    let switch = both_read (number 1 c) _ p after e in
    let ends = both_read (number 1 switch.1) _ p after switch.3 in
    let wire = both_read (ranged 2 0 1023 ends.1) _ p after ends.3 in
    let is : wire.0 ≡ p.wire = ap wire_of wire.3 in
    omega (arith, is, (ranged_bounds 2 0 1023 wire.0 ends.1 wire.1 wire.2).1)
  where
    wire_of : Outcome Port → ℕ
    wire_of (read q d) = q.wire
    wire_of (fault code place) = 0

-- where there are as many switches as are needed, each that a port names is there
pub needed_names : (least s : ℕ) (ports : List Port) → needed least ports ≤ s →
    (least ≤ s) × Each (λ (p : Port). (p.switch < s) × (p.ends < s)) ports
unfolding needed
needed_names least s [] enough = (enough, tt)
needed_names least s (p ∷ ps) enough =
    let more = needed_names (max (max least (p.switch + 1)) (p.ends + 1)) s ps enough in
    let most = more.0 in
    (omega arith, ((omega arith, omega arith), more.1))

both_hold : (switches : ℕ) (ports : List Port) → Each (λ (p : Port). (p.switch < switches) × (p.ends < switches)) ports →
    Each (λ (p : Port). p.wire ≤ 1023) ports → Each (SoundPort switches) ports
both_hold switches [] named wires = tt
both_hold switches (p ∷ ps) named wires = ((named.0.0, named.0.1, wires.0), both_hold switches ps named.1 wires.1)

-- a net that is read is sound, and has as many switches as were asked for
pub net_sound : (least : ℕ) (net : NetModel) (c after : Cursor) → net_from least c ≡ read net after →
    SoundNet net × (least ≤ length net.memories)
unfolding net_from
net_sound least net c after e =
    let kind = both_read (kind_byte 2 c) _ net after e in
    let count = both_read (ranged 1 0 64 kind.1) _ net after kind.3 in
    let ports = both_read (several count.0 port_from count.1) _ net after count.3 in
    let switches = both_read (ranged 1 (needed least ports.0) 255 ports.1) _ net after ports.3 in
    let memories = both_read (several switches.0 (ranged 4 0 1048576) switches.1) _ net after switches.3 in
    let value : NetModel = record { ports = ports.0; memories = memories.0 } in
    let is : value ≡ net = same_value memories.3 in
    let few = ranged_bounds 1 0 64 count.0 kind.1 count.1 count.2 in
    let enough = ranged_bounds 1 (needed least ports.0) 255 switches.0 ports.1 switches.1 switches.2 in
    let wires = several_all (λ (p : Port). p.wire ≤ 1023) port_from port_wire count.0 ports.0 count.1 ports.1 ports.2 in
    let sizes = several_all (λ m. m ≤ 1048576) (ranged 4 0 1048576) (λ m d f g. (ranged_bounds 4 0 1048576 m d f g).1)
    switches.0 memories.0 switches.1 memories.1 memories.2 in
    let size : switches.0 ≡ length memories.0 = sym sizes.0 in
    let names = needed_names least (length memories.0) ports.0 (rw size at enough.0) in
    let P : NetModel → Type 0 = λ n. SoundNet n × (least ≤ length n.memories) in
    subst P is (
      record {
        ports_few = omega (arith, wires.0, few.1);
        switches_few = omega (arith, size, enough.1);
        each_port = both_hold (length memories.0) ports.0 names.1 wires.1;
        each_memory = sizes.1;
      },
      names.0,
    )

pub in_table : {A : Type 0} (n : ℕ) (xs : List A) → length (take n xs) ≡ n → n ≤ length xs
in_table n xs size = omega (arith, length-take n xs)

-- what holds of the ports and memories that are in use, place by place
pub places_sound : (ports : List Port) (count : ℕ) (memory : List ℕ) (switches : ℕ) →
    length (take count ports) ≡ count → length (take switches memory) ≡ switches → SoundNet (net_model ports count memory switches) →
    (count ≤ 64) × ((count ≤ length ports) × ((switches ≤ length memory) × (((k : ℕ) → k < count → SoundPort switches (get_or ports k no_port)) × (((k : ℕ) → k < switches → get_or memory k 0 ≤ 1048576) × Unit {0}))))
places_sound ports count memory switches ports-size memory-size sound = (
  rw ports-size at sound.ports_few,
  (
    in_table count ports ports-size,
    (
      in_table switches memory memory-size,
      (
        (λ k h.
            let all : Each (SoundPort switches) (take count ports) = rw memory-size at sound.each_port in
            let there : k < length (take count ports) = omega arith in
            rw (get_or-take count ports k no_port h) at (All-get_or (SoundPort switches) (take count ports) k no_port there all)),
        (
          (λ k h.
              let there : k < length (take switches memory) = omega arith in
              rw (get_or-take switches memory k 0 h) at (All-get_or (λ m. m ≤ 1048576) (take switches memory) k 0 there sound.each_memory)),
          tt,
        ),
      ),
    ),
  ),
)

-- the switches needed, port by port
pub needed_folds : (least : ℕ) (ports : List Port) → fold max least (map (λ (p : Port). max p.switch p.ends + 1) ports) ≡ needed least ports
unfolding needed
needed_folds least [] = refl
needed_folds least (p ∷ ps) =
    let one : max least (max p.switch p.ends + 1) ≡ max (max least (p.switch + 1)) (p.ends + 1) = omega arith in
    ap (λ most. fold max most (map (λ (q : Port). max q.switch q.ends + 1) ps)) one ∙ needed_folds (max (max least (p.switch + 1)) (p.ends + 1)) ps
