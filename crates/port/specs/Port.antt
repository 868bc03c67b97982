-- One port: how packets pass into its queues, are taken and sent, and leave. Assumes nothing.
use Rattle.std.specs.Prelude.{◌≡◌, ℕ, zero, suc, ◌+◌, ◌-◌, ◌*◌, ◌<◌, ◌≤◌, true, cond, List, [], ◌∷◌, ◌++◌, map, length, replicate, Some, None, Option, ◌==◌, slice_index_or, slice_set}
use Rattle.flows.specs.Flow.{FlowModel}
use Rattle.promises.specs.Promises.{den, over}

-- A packet that passed into a queue: the place of its flow in the list of flows, its length, and the tick of its pass.
pub record Packet : Type 0 where
  pub flow : ℕ
  pub len : ℕ
  pub into : ℕ

-- the packet being sent, and the tick at which its last bit leaves
pub record Sending : Type 0 where
  pub packet : Packet
  pub until : ℕ

-- a packet whose last bit has left, and the tick at which it left
pub record Gone : Type 0 where
  pub packet : Packet
  pub at : ℕ

-- what a flow's burst lacked right after its latest pass, in millionths of a tick, and the tick of that pass
pub record Level : Type 0 where
  pub deficit : ℕ
  pub last : ℕ

-- The state of a port for a list of flows: the tick, a queue for each of eight classes, what is being sent, a level for each flow, and what
-- has left, the latest first.
pub record PortModel : Type 0 where
  pub now : ℕ
  pub queues : List (List Packet)
  pub sending : Option Sending
  pub levels : List Level
  pub gone : List Gone

-- what stands at a place where the list has no flow
abbrev pub no_flow : FlowModel
no_flow = record { class = 0; longest = 0; burst = 0; rate = 0; deadline = 0; road = [] }

-- the flow at a place of the list
abbrev pub flow_at : List FlowModel → ℕ → FlowModel
flow_at fs k = slice_index_or fs k no_flow

-- the level of a flow of which nothing has passed: its burst lacks nothing
abbrev pub full : Level
full = record { deficit = 0; last = 0 }

-- what the burst of a flow lacks at tick t, not below 0
abbrev pub deficit_at : FlowModel → Level → ℕ → ℕ
deficit_at f l t = l.deficit - f.rate * (t - l.last)

-- the queue of class c
abbrev pub queue_of : List (List Packet) → ℕ → List Packet
queue_of qs c = slice_index_or qs c []

-- the state in which nothing has passed
abbrev pub empty : List FlowModel → PortModel
empty fs = record { now = 0; queues = replicate 8 []; sending = None; levels = map (λ _. full) fs; gone = [] }

-- A packet of flow k over port p may pass: it is no longer than the flow's longest, and the flow's ticks stay regular with it.
pub record MayPass (p : ℕ) (fs : List FlowModel) (s : PortModel) (k len : ℕ) : Type 0 where
  pub known : k < length fs
  pub crosses : over p (flow_at fs k) ≡ true
  pub some : 1 ≤ len
  pub short : len ≤ (flow_at fs k).longest
  pub regular : deficit_at (flow_at fs k) (slice_index_or s.levels k full) s.now + den * len ≤ den * (flow_at fs k).burst

-- it goes to the end of the queue of its class, and its flow's burst lacks as much more
abbrev pub passed : List FlowModel → PortModel → ℕ → ℕ → PortModel
passed fs s k len =
    record {
      now = s.now;
      queues =
          slice_set s.queues (flow_at fs k).class
          (queue_of s.queues (flow_at fs k).class ++ record { flow = k; len = len; into = s.now } ∷ []);
      sending = s.sending;
      levels =
          slice_set s.levels k
          (record { deficit = deficit_at (flow_at fs k) (slice_index_or s.levels k full) s.now + den * len; last = s.now });
      gone = s.gone;
    }

-- A port that is not sending may take the first packet of the lowest class that has one.
pub record MayTake (s : PortModel) (c : ℕ) (w : Packet) (rest : List Packet) : Type 0 where
  pub free : s.sending ≡ None
  pub first : queue_of s.queues c ≡ w ∷ rest
  pub lowest : (d : ℕ) → d < c → queue_of s.queues d ≡ []

-- it is sent whole: its last bit leaves as many ticks later as it is long
abbrev pub taken : PortModel → ℕ → Packet → List Packet → PortModel
taken s c w rest =
    record {
      now = s.now;
      queues = slice_set s.queues c rest;
      sending = Some (record { packet = w; until = s.now + w.len });
      levels = s.levels;
      gone = s.gone;
    }

-- A tick may end where the port is sending or nothing waits: it is never idle while something waits.
abbrev pub MayTick : PortModel → Type 0
MayTick s = s.sending ≡ None → (c : ℕ) → queue_of s.queues c ≡ []

-- what is still being sent at tick t, and what has left by then
abbrev pub still : ℕ → Option Sending → Option Sending
still t None = None
still t (Some x) = cond (x.until == t) None (Some x)

abbrev pub left : ℕ → Option Sending → List Gone → List Gone
left t None gs = gs
left t (Some x) gs = cond (x.until == t) (record { packet = x.packet; at = t } ∷ gs) gs

-- the next tick begins, and a packet whose last bit leaves in it is gone
abbrev pub ticked : PortModel → PortModel
ticked s =
    record {
      now = s.now + 1;
      queues = s.queues;
      sending = still (s.now + 1) s.sending;
      levels = s.levels;
      gone = left (s.now + 1) s.sending s.gone;
    }

-- one step of port p
pub data Step (p : ℕ) (fs : List FlowModel) (s t : PortModel) : Type 0 where
  passes : (k len : ℕ) → MayPass p fs s k len → t ≡ passed fs s k len → Step p fs s t
  takes : (c : ℕ) (w : Packet) (rest : List Packet) → MayTake s c w rest → t ≡ taken s c w rest → Step p fs s t
  ticks : MayTick s → t ≡ ticked s → Step p fs s t

-- the states that port p comes to by steps in any order
pub data Run (p : ℕ) (fs : List FlowModel) : PortModel → Type 0 where
  begins : Run p fs (empty fs)
  goes : {s t : PortModel} → Run p fs s → Step p fs s t → Run p fs t

-- ticks of packets
unfoldable pub ticks_of : List Packet → ℕ
ticks_of [] = 0
ticks_of (w ∷ ws) = w.len + ticks_of ws

-- ticks that wait in classes below n
unfoldable pub waiting_below : ℕ → List (List Packet) → ℕ
waiting_below zero qs = 0
waiting_below (suc n) qs = waiting_below n qs + ticks_of (queue_of qs n)

-- the packet being sent, as it will leave
abbrev pub leaving : Option Sending → List Gone
leaving None = []
leaving (Some x) = record { packet = x.packet; at = x.until } ∷ []

-- a packet, if it is of class c
abbrev pub of_class : List FlowModel → ℕ → Packet → List Packet
of_class fs c w = cond ((flow_at fs w.flow).class == c) (w ∷ []) []

-- those of class c among packets of which the last stands first, in their order
unfoldable pub gone_of : List FlowModel → ℕ → List Gone → List Packet
gone_of fs c [] = []
gone_of fs c (g ∷ gs) = gone_of fs c gs ++ of_class fs c g.packet

-- the packets of class c: those that have left, the one being sent, those that wait
abbrev pub line_of : List FlowModel → ℕ → PortModel → List Packet
line_of fs c s = gone_of fs c s.gone ++ (gone_of fs c (leaving s.sending) ++ queue_of s.queues c)

-- those of class c that passed in a run, in the order in which they passed
unfoldable pub passes_of : (p : ℕ) (fs : List FlowModel) (c : ℕ) {s : PortModel} → Run p fs s → List Packet
passes_of p fs c begins = []
passes_of p fs c (goes {s = s} run (passes k len may after)) = passes_of p fs c run ++ of_class fs c (record { flow = k; len = len; into = s.now })
passes_of p fs c (goes run (takes d w rest may after)) = passes_of p fs c run
passes_of p fs c (goes run (ticks may after)) = passes_of p fs c run
