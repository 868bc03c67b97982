-- Nets: ports, the wires they send into, and switches with their memory. Assumes nothing.
use Rattle.std.specs.Prelude.{ℕ, ◌+◌, ◌<◌, ◌≤◌, List, [], ◌∷◌, length, take, slice_index_or}
use Rattle.std.specs.List.{AllByRecursion as Each}
use Rattle.flows.specs.declared.port.Port.{Port}

-- ports are numbered from 0, and so are switches; of a switch its memory in ticks
pub record NetModel : Type 0 where
  pub ports : List Port
  pub memories : List ℕ

-- what stands for a port that the net has not
abbrev pub no_port : Port
no_port = record { switch = 0; ends = 0; wire = 0 }

abbrev pub port_at : NetModel → ℕ → Port
port_at net p = slice_index_or net.ports p no_port

-- a port stands on a switch that there is, its wire ends at one, and takes at most 1,023 ticks
abbrev pub SoundPort : ℕ → Port → Type 0
SoundPort switches p = (p.switch < switches) × (p.ends < switches) × (p.wire ≤ 1023)

-- at most 64 ports; at most 255 switches, each with at most 1,048,576 ticks of memory
pub record SoundNet (net : NetModel) : Type 0 where
  pub ports_few : length net.ports ≤ 64
  pub switches_few : length net.memories ≤ 255
  pub each_port : Each (SoundPort (length net.memories)) net.ports
  pub each_memory : Each (λ m. m ≤ 1048576) net.memories

-- a net in a table of 64 ports and one of 255 memories, of which the first count and the first switches are in use
abbrev pub net_model : List Port → ℕ → List ℕ → ℕ → NetModel
net_model ports count memory switches = record { ports = take count ports; memories = take switches memory }

-- no ports and no switches
abbrev pub no_net : NetModel
no_net = record { ports = []; memories = [] }

-- the memories of all switches together
unfoldable pub together : List ℕ → ℕ
together [] = 0
together (m ∷ ms) = m + together ms
