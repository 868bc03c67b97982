-- Nets are read from what is written for them, and from nothing else. Assumes nothing.
use Rattle.std.proofs.Common.{◌≡◌, ℕ, ◌+◌, ◌^◌, ◌<◌, ◌≤◌, max, List, [], ◌∷◌, ◌++◌, length, sym, refl, ap, subst, subst₂, append_assoc, arith, length-append}
use Rattle.std.specs.List.{flat_map, AllByRecursion as Each}
use Rattle.std.proofs.ByRecursion.{All-weaker}
use Rattle.record_bytes.specs.Reading.{Cursor, read, several}
use Rattle.record_bytes.specs.Numbers.{number, ranged, kind_byte, bytes_of, IsByte}
use Rattle.record_bytes.specs.Format.{Format}
use Rattle.record_bytes.proofs.Sequence.{both_read, same_value, same_place}
use Rattle.record_bytes.proofs.Digits.{length-bytes_of}
use Rattle.record_bytes.proofs.Written.{Told, told_then, number_told, number_written, ranged_told, ranged_written, kind_told, kind_written}
use Rattle.record_bytes.proofs.Several.{several_written, several_told, steady_several}
use Rattle.record_bytes.proofs.Steady.{Steady, steady_then, steady_value, steady_number, steady_ranged, steady_kind}
use Rattle.record_bytes.proofs.Formats.{format_of}
use Rattle.flows.specs.declared.port.Port.{Port}
use Rattle.flows.specs.Net.{NetModel, SoundPort}
use Rattle.flows.specs.NetFormat.{port_from, port_bytes, needed, net_from, net_record, net_bytes, SoundAtLeast}
use Rattle.flows.proofs.NetLaws.{net_sound}

-- a port that fits its bytes
abbrev Fitting : Port → Type 0
Fitting p = (p.switch < 256 ^ 1) × (p.ends < 256 ^ 1) × (p.wire ≤ 1023)

steady_port : Steady port_from
unfolding port_from
steady_port =
    steady_then (number 1) _ (steady_number 1) λ switch.
    steady_then (number 1) _ (steady_number 1) λ ends.
    steady_then (ranged 2 0 1023) _ (steady_ranged 2 0 1023) λ wire.
    steady_value (record { switch = switch; ends = ends; wire = wire })

port_written : (p : Port) → Fitting p → (at : ℕ) (rest : List ℕ) →
    port_from (record { at = at; rest = port_bytes p ++ rest }) ≡ read p (record { at = at + length (port_bytes p); rest = rest })
unfolding port_from
port_written p fits at rest =
    let wire : p.wire < 256 ^ 2 = omega (arith, fits.2) in
    let low : 0 ≤ p.wire = omega arith in
    let size : length (port_bytes p) ≡ 4 = simp (length-append, length-bytes_of) refl in
    let places : at + 1 + 1 + 2 ≡ at + length (port_bytes p) = omega arith in
    rw (
      append_assoc,
      number_written 1 p.switch at _ fits.0,
      append_assoc,
      number_written 1 p.ends (at + 1) _ fits.1,
      ranged_written 2 0 1023 p.wire (at + 1 + 1) rest wire low fits.2,
    )
    (ap (λ n. read p (record { at = n; rest = rest })) places)

port_told : (p : Port) (c after : Cursor) → port_from c ≡ read p after → Each IsByte c.rest → Fitting p × Told c after (port_bytes p)
unfolding port_from
port_told p c after e bytes =
    let switch = both_read (number 1 c) _ p after e in
    let switch-is = number_told 1 switch.0 c switch.1 switch.2 bytes in
    let ends = both_read (number 1 switch.1) _ p after switch.3 in
    let ends_is = number_told 1 ends.0 switch.1 ends.1 ends.2 switch-is.1.left in
    let wire = both_read (ranged 2 0 1023 ends.1) _ p after ends.3 in
    let wire-is = ranged_told 2 0 1023 wire.0 ends.1 wire.1 wire.2 ends_is.1.left in
    let P : Port → Cursor → Type 0 = λ q d. Fitting q × Told c d (port_bytes q) in
    subst₂ P (same_value wire.3) (same_place wire.3) (
      (switch-is.0, ends_is.0, wire-is.1),
      told_then c switch.1 wire.1 _ _ switch-is.1 (told_then switch.1 ends.1 wire.1 _ _ ends_is.1 wire-is.3),
    )

-- where each switch that a port names is there, there are as many as are needed
needed_enough : (least s : ℕ) (ports : List Port) → least ≤ s → Each (SoundPort s) ports → needed least ports ≤ s
unfolding needed
needed_enough least s [] enough sound = enough
needed_enough least s (p ∷ ps) enough sound =
    let first = sound.0 in
    needed_enough (max (max least (p.switch + 1)) (p.ends + 1)) s ps (omega arith) sound.1

fitting : (s : ℕ) → s ≤ 255 → (ports : List Port) → Each (SoundPort s) ports → Each Fitting ports
fitting s few = All-weaker (SoundPort s) Fitting (λ p sound. (omega (arith, sound.0), omega (arith, sound.1), sound.2))

steady_net : (least : ℕ) → Steady (net_from least)
unfolding net_from
steady_net least =
    steady_then (kind_byte 2) _ (steady_kind 2) λ _.
    steady_then (ranged 1 0 64) _ (steady_ranged 1 0 64) λ count.
    steady_then (several count port_from) _ (steady_several Fitting port_from port_bytes steady_port count) λ ports.
    steady_then (ranged 1 (needed least ports) 255) _ (steady_ranged 1 (needed least ports) 255) λ switches.
    steady_then (several switches (ranged 4 0 1048576)) _ (steady_several (λ m. m ≤ 1048576) (ranged 4 0 1048576) (bytes_of 4) (steady_ranged 4 0 1048576) switches) λ memories.
    steady_value (record { ports = ports; memories = memories })

memory_written : (m : ℕ) → m ≤ 1048576 → (at : ℕ) (rest : List ℕ) →
    ranged 4 0 1048576 (record { at = at; rest = bytes_of 4 m ++ rest }) ≡ read m (record { at = at + length (bytes_of 4 m); rest = rest })
memory_written m few at rest =
    let fits : m < 256 ^ 4 = omega arith in
    let low : 0 ≤ m = omega arith in
    rw (ranged_written 4 0 1048576 m at rest fits low few, length-bytes_of 4 m) refl

memory_told : (m : ℕ) (c after : Cursor) → ranged 4 0 1048576 c ≡ read m after → Each IsByte c.rest → (m ≤ 1048576) × Told c after (bytes_of 4 m)
memory_told m c after e bytes = let told = ranged_told 4 0 1048576 m c after e bytes in (told.1, told.3)

net_written : (least : ℕ) (n : NetModel) → SoundAtLeast least n → (at : ℕ) (rest : List ℕ) →
    net_from least (record { at = at; rest = net_bytes n ++ rest }) ≡ read n (record { at = at + length (net_bytes n); rest = rest })
unfolding net_from
net_written least n sound at rest =
    let net = sound.0 in
    let two : 2 < 256 = omega arith in
    let count : length n.ports < 256 ^ 1 = omega (arith, net.ports_few) in
    let count_low : 0 ≤ length n.ports = omega arith in
    let switches : length n.memories < 256 ^ 1 = omega (arith, net.switches_few) in
    let enough = needed_enough least (length n.memories) n.ports sound.1 net.each_port in
    let ports = fitting (length n.memories) net.switches_few n.ports net.each_port in
    let sizes : length (net_bytes n) ≡ 1 + (1 + (length (flat_map port_bytes n.ports) + (1 + length (flat_map (bytes_of 4) n.memories)))) =
    simp (length-append, length-bytes_of) refl in
    let places : at + 1 + 1 + length (flat_map port_bytes n.ports) + 1 + length (flat_map (bytes_of 4) n.memories) ≡ at + length (net_bytes n) = omega arith in
    rw (
      append_assoc,
      kind_written 2 at _ two,
      append_assoc,
      ranged_written 1 0 64 (length n.ports) (at + 1) _ count count_low net.ports_few,
      append_assoc,
      several_written Fitting port_from port_bytes port_written n.ports ports (at + 1 + 1) _,
      append_assoc,
      ranged_written 1 (needed least n.ports) 255 (length n.memories) _ _ switches enough net.switches_few,
      several_written (λ m. m ≤ 1048576) (ranged 4 0 1048576) (bytes_of 4) memory_written n.memories net.each_memory _ rest,
    )
    (ap (λ m. read n (record { at = m; rest = rest })) places)

net_told : (least : ℕ) (n : NetModel) (c after : Cursor) → net_from least c ≡ read n after → Each IsByte c.rest →
    SoundAtLeast least n × Told c after (net_bytes n)
unfolding net_from
net_told least n c after e bytes =
    let kind = both_read (kind_byte 2 c) _ n after e in
    let kind-is = kind_told 2 kind.0 c kind.1 kind.2 bytes in
    let count = both_read (ranged 1 0 64 kind.1) _ n after kind.3 in
    let count_is = ranged_told 1 0 64 count.0 kind.1 count.1 count.2 kind-is.1.left in
    let ports = both_read (several count.0 port_from count.1) _ n after count.3 in
    let ports-are = several_told Fitting port_from port_bytes port_told count.0 ports.0 count.1 ports.1 ports.2 count_is.3.left in
    let switches = both_read (ranged 1 (needed least ports.0) 255 ports.1) _ n after ports.3 in
    let switches-are = ranged_told 1 (needed least ports.0) 255 switches.0 ports.1 switches.1 switches.2 ports-are.2.left in
    let memories = both_read (several switches.0 (ranged 4 0 1048576) switches.1) _ n after switches.3 in
    let memories-are = several_told (λ m. m ≤ 1048576) (ranged 4 0 1048576) (bytes_of 4) memory_told switches.0 memories.0 switches.1 memories.1 memories.2 switches-are.3.left in
    let Count : ℕ → Type 0 = λ m. Told kind.1 count.1 (bytes_of 1 m) in
    let Switches : ℕ → Type 0 = λ m. Told ports.1 switches.1 (bytes_of 1 m) in
    let P : NetModel → Cursor → Type 0 = λ m d. Told c d (net_bytes m) in (
      net_sound least n c after e,
      subst₂ P (same_value memories.3) (same_place memories.3)
          (told_then c kind.1 memories.1 _ _ kind-is.1
          (told_then kind.1 count.1 memories.1 _ _ (subst Count (sym ports-are.0) count_is.3)
          (told_then count.1 ports.1 memories.1 _ _ ports-are.2
          (told_then ports.1 switches.1 memories.1 _ _ (subst Switches (sym memories-are.0) switches-are.3) memories-are.2)))),
    )

pub net_format : (least : ℕ) → Format (SoundAtLeast least) (net_record least) net_bytes
net_format least = format_of (SoundAtLeast least) (net_from least) net_bytes (steady_net least) (net_written least) (net_told least)
