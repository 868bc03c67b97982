-- The bytes of a net. Assumes nothing.
use Rattle.std.specs.Prelude.{ℕ, ◌+◌, ◌≤◌, max, Bool, List, [], ◌∷◌, ◌++◌, length}
use Rattle.std.specs.List.{flat_map}
use Rattle.record_bytes.specs.Reading.{Cursor, Outcome, Verdict, ◌>>=◌, ◌>>◌, pure, several, closed, start}
use Rattle.record_bytes.specs.Numbers.{number, ranged, kind_byte, bytes_of}
use Rattle.flows.specs.declared.port.Port.{Port}
use Rattle.flows.specs.Net.{NetModel, SoundNet}

-- a port: the switch it stands on, the switch where its wire ends, the ticks of the wire
unfoldable pub port_from : Cursor → Outcome Port
port_from = do
  switch ← number 1
  ends ← number 1
  wire ← ranged 2 0 1023
  pure (record { switch = switch; ends = ends; wire = wire })

-- how many switches there must be so that each has a number that ports name; at least that many as are asked for anyway
unfoldable pub needed : ℕ → List Port → ℕ
needed least [] = least
needed least (p ∷ ps) = needed (max (max least (p.switch + 1)) (p.ends + 1)) ps

-- its kind, the number of ports and each of them, the number of switches and the memory of each
unfoldable pub net_from : ℕ → Cursor → Outcome NetModel
net_from least = do
  kind_byte 2
  count ← ranged 1 0 64
  ports ← several count port_from
  switches ← ranged 1 (needed least ports) 255
  memories ← several switches (ranged 4 0 1048576)
  pure (record { ports = ports; memories = memories })

-- a net of at least so many switches, from all bytes of a record
abbrev pub net_record : ℕ → Bool → List ℕ → Verdict NetModel
net_record least whole bs = closed whole (net_from least (start bs))

abbrev pub port_bytes : Port → List ℕ
port_bytes p = bytes_of 1 p.switch ++ (bytes_of 1 p.ends ++ bytes_of 2 p.wire)

abbrev pub net_bytes : NetModel → List ℕ
net_bytes n =
    bytes_of 1 2 ++ (bytes_of 1 (length n.ports) ++ (flat_map port_bytes n.ports ++
    (bytes_of 1 (length n.memories) ++ flat_map (bytes_of 4) n.memories)))

-- a net of at least so many switches
abbrev pub SoundAtLeast : ℕ → NetModel → Type 0
SoundAtLeast least n = SoundNet n × (least ≤ length n.memories)
