-- Packets, ticks and switches are read from what is written for them, and from nothing else. Assumes nothing.
use Rattle.std.proofs.Common.{◌≡◌, ℕ, ◌+◌, ◌^◌, ◌<◌, ◌≤◌, Bool, true, false, cond, ◌&&◌, eqb, ltb, List, ◌++◌, length, sym, refl, ap, ◌∙◌, subst, subst₂, append_assoc, arith, length-append}
use Rattle.std.specs.List.{AllByRecursion as Each}
use Rattle.std.proofs.lemmas.Bool.{ltb-true, lt-ltb}
use Rattle.record_bytes.specs.Reading.{Cursor, Outcome, read, fault, and_then, accepted, refused, closed, start}
use Rattle.record_bytes.specs.Numbers.{number, kind_byte, bytes_of, IsByte}
use Rattle.record_bytes.specs.Format.{Format}
use Rattle.record_bytes.proofs.Sequence.{both_read, same_value, same_place}
use Rattle.record_bytes.proofs.Digits.{length-bytes_of}
use Rattle.record_bytes.proofs.Written.{Told, told_then, number_told, number_written, tested_told, tested_written, kind_told, kind_written}
use Rattle.record_bytes.proofs.Steady.{Steady, steady_then, steady_value, steady_number, steady_tested, steady_kind}
use Rattle.record_bytes.proofs.Formats.{format_of}
use Rattle.records.specs.declared.record.Packet.{Packet}
use Rattle.records.specs.declared.record.Arrival.{Arrival}
use Rattle.records.specs.declared.record.Ticks.{Ticks}
use Rattle.records.specs.declared.record.Switch.{Switch}
use Rattle.flows.specs.FlowFormat.{port_number}
use Rattle.records.specs.Records.{judged_as}
use Rattle.records.specs.Formats.{packet_from, packet_record, packet_bytes, SoundPacket, arrival_from, arrival_record, arrival_bytes, SoundArrival, number_of_kind, number_record, ticks_from, ticks_record, ticks_bytes, SoundTicks, switch_from, switch_record, switch_bytes, SoundSwitch}

-- packets

steady_packet : Steady packet_from
unfolding packet_from
steady_packet =
    steady_then (kind_byte 3) _ (steady_kind 3) λ _.
    steady_then (number 2) _ (steady_number 2) λ flow.
    steady_then (number 1) _ (steady_number 1) λ size.
    steady_value (record { flow = flow; length = size })

packet_written : (p : Packet) → SoundPacket p → (at : ℕ) (rest : List ℕ) →
    packet_from (record { at = at; rest = packet_bytes p ++ rest }) ≡ read p (record { at = at + length (packet_bytes p); rest = rest })
unfolding packet_from
packet_written p sound at rest =
    let three : 3 < 256 = omega arith in
    let size : length (packet_bytes p) ≡ 4 = simp (length-append, length-bytes_of) refl in
    let places : at + 1 + 2 + 1 ≡ at + length (packet_bytes p) = omega arith in
    rw (
      append_assoc,
      kind_written 3 at _ three,
      append_assoc,
      number_written 2 p.flow (at + 1) _ sound.0,
      number_written 1 p.length (at + 1 + 2) rest sound.1,
    )
    (ap (λ n. read p (record { at = n; rest = rest })) places)

packet_told : (p : Packet) (c after : Cursor) → packet_from c ≡ read p after → Each IsByte c.rest → SoundPacket p × Told c after (packet_bytes p)
unfolding packet_from
packet_told p c after e bytes =
    let kind = both_read (kind_byte 3 c) _ p after e in
    let kind-is = kind_told 3 kind.0 c kind.1 kind.2 bytes in
    let flow = both_read (number 2 kind.1) _ p after kind.3 in
    let flow-is = number_told 2 flow.0 kind.1 flow.1 flow.2 kind-is.1.left in
    let size = both_read (number 1 flow.1) _ p after flow.3 in
    let size_is = number_told 1 size.0 flow.1 size.1 size.2 flow-is.1.left in
    let P : Packet → Cursor → Type 0 = λ q d. SoundPacket q × Told c d (packet_bytes q) in
    subst₂ P (same_value size.3) (same_place size.3) (
      (flow-is.0, size_is.0),
      told_then c kind.1 size.1 _ _ kind-is.1 (told_then kind.1 flow.1 size.1 _ _ flow-is.1 size_is.1),
    )

pub packet_format : Format SoundPacket packet_record packet_bytes
packet_format = format_of SoundPacket packet_from packet_bytes steady_packet packet_written packet_told

-- packets with the port by which they go on

steady_arrival : (ports : ℕ) → Steady (arrival_from ports)
unfolding arrival_from port_number
steady_arrival ports =
    steady_then packet_from _ steady_packet λ packet.
    steady_then (port_number ports) _ (steady_tested 1 (λ p. ltb p ports) 2) λ port.
    steady_value (record { packet = packet; port = port })

arrival_written : (ports : ℕ) → ports ≤ 64 → (a : Arrival) → SoundArrival ports a → (at : ℕ) (rest : List ℕ) →
    arrival_from ports (record { at = at; rest = arrival_bytes a ++ rest }) ≡ read a (record { at = at + length (arrival_bytes a); rest = rest })
unfolding arrival_from port_number
arrival_written ports few a sound at rest =
    let fits : a.port < 256 ^ 1 = omega (arith, sound.1) in
    let known = lt-ltb a.port ports sound.1 in
    let size : length (arrival_bytes a) ≡ length (packet_bytes a.packet) + 1 =
    length-append (packet_bytes a.packet) (bytes_of 1 a.port) ∙ ap (λ n. length (packet_bytes a.packet) + n) (length-bytes_of 1 a.port) in
    let places : at + length (packet_bytes a.packet) + 1 ≡ at + length (arrival_bytes a) = omega arith in
    rw (
      append_assoc (packet_bytes a.packet) (bytes_of 1 a.port) rest,
      packet_written a.packet sound.0 at (bytes_of 1 a.port ++ rest),
      tested_written 1 (λ p. ltb p ports) 2 a.port (at + length (packet_bytes a.packet)) rest fits known,
    )
    (ap (λ n. read a (record { at = n; rest = rest })) places)

arrival_told : (ports : ℕ) (a : Arrival) (c after : Cursor) → arrival_from ports c ≡ read a after → Each IsByte c.rest →
    SoundArrival ports a × Told c after (arrival_bytes a)
unfolding arrival_from port_number
arrival_told ports a c after e bytes =
    let packet = both_read (packet_from c) _ a after e in
    let packet-is = packet_told packet.0 c packet.1 packet.2 bytes in
    let port = both_read (port_number ports packet.1) _ a after packet.3 in
    let port-is = tested_told 1 (λ p. ltb p ports) 2 port.0 packet.1 port.1 port.2 packet-is.1.left in
    let P : Arrival → Cursor → Type 0 = λ q d. SoundArrival ports q × Told c d (arrival_bytes q) in
    subst₂ P (same_value port.3) (same_place port.3) (
      (packet-is.0, ltb-true port.0 ports port-is.0),
      told_then c packet.1 port.1 _ _ packet-is.1 port-is.2,
    )

pub arrival_format : (ports : ℕ) → ports ≤ 64 → Format (SoundArrival ports) (arrival_record ports) arrival_bytes
arrival_format ports few =
    format_of (SoundArrival ports) (arrival_from ports) arrival_bytes (steady_arrival ports) (arrival_written ports few) (arrival_told ports)

-- records of a kind and one number of k bytes

module _ {A : Type 0} (code k : ℕ) (made : ℕ → A) (number_of : A → ℕ) where
  abbrev single : Cursor → Outcome A
  single c = and_then (kind_byte code c) (λ _ d. and_then (number k d) (λ n after. read (made n) after))

  abbrev single_bytes : A → List ℕ
  single_bytes a = bytes_of 1 code ++ bytes_of k (number_of a)

  steady_single : Steady single
  steady_single = steady_then (kind_byte code) _ (steady_kind code) λ _. steady_then (number k) _ (steady_number k) λ n. steady_value (made n)

  single_written : code < 256 → ((a : A) → made (number_of a) ≡ a) → (a : A) → number_of a < 256 ^ k → (at : ℕ) (rest : List ℕ) →
      single (record { at = at; rest = single_bytes a ++ rest }) ≡ read a (record { at = at + length (single_bytes a); rest = rest })
  single_written small back a fits at rest =
      let size : length (single_bytes a) ≡ 1 + k = simp (length-append, length-bytes_of) refl in
      let places : at + 1 + k ≡ at + length (single_bytes a) = omega arith in
      rw (
        append_assoc (bytes_of 1 code) (bytes_of k (number_of a)) rest,
        kind_written code at _ small,
        number_written k (number_of a) (at + 1) rest fits,
        back a,
      )
      (ap (λ n. read a (record { at = n; rest = rest })) places)

  single_told : ((n : ℕ) → number_of (made n) ≡ n) → (a : A) (c after : Cursor) → single c ≡ read a after → Each IsByte c.rest →
      (number_of a < 256 ^ k) × Told c after (single_bytes a)
  single_told forth a c after e bytes =
      let kind = both_read (kind_byte code c) _ a after e in
      let kind-is = kind_told code kind.0 c kind.1 kind.2 bytes in
      let n = both_read (number k kind.1) _ a after kind.3 in
      let n-is = number_told k n.0 kind.1 n.1 n.2 kind-is.1.left in
      let same : n.0 ≡ number_of (made n.0) = sym (forth n.0) in
      let Fits : ℕ → Type 0 = λ m. m < 256 ^ k in
      let Bytes : ℕ → Type 0 = λ m. Told kind.1 n.1 (bytes_of k m) in
      let P : A → Cursor → Type 0 = λ b d. (number_of b < 256 ^ k) × Told c d (single_bytes b) in
      subst₂ P (same_value n.3) (same_place n.3)
      (subst Fits same n-is.0, told_then c kind.1 n.1 _ _ kind-is.1 (subst Bytes same n-is.1))

-- such a record is the record of its number, by which the value is made

made_closed : {A : Type 0} (made : ℕ → A) (whole : Bool) (o : Outcome ℕ) →
    closed whole (and_then o (λ n after. read (made n) after)) ≡ judged_as made (closed whole o)
made_closed made whole (fault n p) = refl
made_closed made whole (read n c) = ends (whole && eqb (length c.rest) 0)
  where
    ends : (b : Bool) → cond b (accepted (made n)) (refused 1 c.at) ≡ judged_as made (cond b (accepted n) (refused 1 c.at))
    ends true = refl
    ends false = refl

made_behind : {A : Type 0} (made : ℕ → A) (k : ℕ) (whole : Bool) (kind : Outcome ℕ) →
    closed whole (and_then kind (λ _ d. and_then (number k d) (λ n after. read (made n) after))) ≡ judged_as made (closed whole (and_then kind (λ _. number k)))
made_behind made k whole (fault n p) = refl
made_behind made k whole (read n c) = made_closed made whole (number k c)

pub ticks_of_number : (whole : Bool) (bs : List ℕ) → ticks_record whole bs ≡ judged_as (λ n. record { count = n }) (number_record 4 4 whole bs)
unfolding ticks_from number_of_kind
ticks_of_number whole bs = made_behind (λ n. record { count = n }) 4 whole (kind_byte 4 (start bs))

pub switch_of_number : (whole : Bool) (bs : List ℕ) → switch_record whole bs ≡ judged_as (λ n. record { number = n }) (number_record 5 1 whole bs)
unfolding switch_from number_of_kind
switch_of_number whole bs = made_behind (λ n. record { number = n }) 1 whole (kind_byte 5 (start bs))

pub ticks_format : Format SoundTicks ticks_record ticks_bytes
unfolding ticks_from
ticks_format =
    let make : ℕ → Ticks = λ n. record { count = n } in
    let number_of : Ticks → ℕ = λ t. t.count in
    format_of SoundTicks ticks_from ticks_bytes (steady_single 4 4 make number_of)
    (single_written 4 4 make number_of (omega arith) (λ t. refl)) (single_told 4 4 make number_of (λ n. refl))

pub switch_format : Format SoundSwitch switch_record switch_bytes
unfolding switch_from
switch_format =
    let make : ℕ → Switch = λ n. record { number = n } in
    let number_of : Switch → ℕ = λ s. s.number in
    format_of SoundSwitch switch_from switch_bytes (steady_single 5 1 make number_of)
    (single_written 5 1 make number_of (omega arith) (λ s. refl)) (single_told 5 1 make number_of (λ n. refl))
