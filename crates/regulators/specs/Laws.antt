-- Laws of what comes to a regulator in a tick. Assumes nothing.
use Rattle.std.specs.Prelude.{◌≡◌, ℕ, ◌+◌, ◌<◌, ◌≤◌, Bool, true, false, List, [], ◌∷◌, ◌++◌, map, length, replicate}
use Rattle.std.specs.List.{AllByRecursion as Each}
use Rattle.lines.specs.declared.packet.Packet.{Packet}
use Rattle.lines.specs.Ticks.{ticks_of}
use Rattle.levels.specs.Levels.{LevelModel, full_level}
use Rattle.gates.specs.Gates.{opened, may_go}
use Rattle.gates.specs.Laws.{AllMay, spent_by_all, queued_by_all, Regulates, packet_of}
use Rattle.regulators.specs.declared.coming.Coming.{Coming}
use Rattle.regulators.specs.Judged.{judged, inner_accepts, GateTick, edge_tick, inner_tick}

-- each that came is one of these or one of those, in the order in which they came
pub data Parts : List Coming → List Coming → List Coming → Type 0 where
  nobody : Parts [] [] []
  these : {coming accepted others : List Coming} (c : Coming) → Parts coming accepted others → Parts (c ∷ coming) (c ∷ accepted) others
  those : {coming accepted others : List Coming} (c : Coming) → Parts coming accepted others → Parts (c ∷ coming) accepted (c ∷ others)

abbrev pub packets_of : List Coming → List Packet
packets_of coming = map (λ c. c.packet) coming

-- what a tick at a regulator is
pub record TickDoes (tick_of : List Coming → GateTick) (room : ℕ) (at_edge : Bool) (classes : List ℕ) (tick : ℕ) (waits : List Packet) (levels : List LevelModel) (queues : List (List Packet)) (coming : List Coming) : Type 0 where
  pub accepted : List Coming
  pub others : List Coming
  pub parts : Parts coming accepted others
  -- those who were not accepted were refused
  pub numbers : (tick_of coming).refused ≡ map (λ c. c.number) others
  -- it lets pass who waited and then who was accepted: nobody is lost, and nobody overtakes
  pub regulates : Regulates room at_edge classes tick (waits ++ packets_of accepted) levels queues (tick_of coming).opened
  -- who was refused is as if it had never come
  pub alone : tick_of accepted ≡ record { refused = []; opened = (tick_of coming).opened }

-- who comes after others changes nothing of what becomes of these
abbrev pub Later : (List Coming → GateTick) → Type 0
Later tick_of = (before after : List Coming) → (more : List ℕ) × ((tick_of (before ++ after)).refused ≡ (tick_of before).refused ++ more)

-- one more that is refused, and one that is not
abbrev pub Refuses : (List Coming → GateTick) → List Coming → Coming → Type 0
Refuses tick_of before c =
    tick_of (before ++ c ∷ []) ≡ record { refused = (tick_of before).refused ++ c.number ∷ []; opened = (tick_of before).opened }

abbrev pub Accepts : (List Coming → GateTick) → List Coming → Coming → Type 0
Accepts tick_of before c = (tick_of (before ++ c ∷ [])).refused ≡ (tick_of before).refused

-- at the edge
pub record EdgeExact (room : ℕ) (classes : List ℕ) (tick : ℕ) (waits : List Packet) (levels : List LevelModel) (queues : List (List Packet)) : Type 0 where
  -- one is refused exactly if 64 still wait after what may pass has passed of those before it
  pub full : (before : List Coming) (c : Coming) → 64 ≤ length (edge_tick room classes tick waits levels queues before).opened.waits →
      Refuses (edge_tick room classes tick waits levels queues) before c
  pub free : (before : List Coming) (c : Coming) → length (edge_tick room classes tick waits levels queues before).opened.waits < 64 →
      Accepts (edge_tick room classes tick waits levels queues) before c
  -- where nobody of them still waits, and it may pass, it passes at once
  pub at_once : (before : List Coming) (c : Coming) →
      (edge_tick room classes tick waits levels queues before).opened.waits ≡ [] →
      may_go room classes tick c.packet (edge_tick room classes tick waits levels queues before).opened.levels (edge_tick room classes tick waits levels queues before).opened.queues ≡ true →
      Accepts (edge_tick room classes tick waits levels queues) before c × ((edge_tick room classes tick waits levels queues (before ++ c ∷ [])).opened.waits ≡ [])
  -- if with all who come at most 64 still wait, nobody is refused, and the gate is opened with all of them
  pub nobody : (coming : List Coming) → length (opened room true classes tick (waits ++ packets_of coming) levels queues).waits ≤ 64 →
      edge_tick room classes tick waits levels queues coming ≡
      record { refused = []; opened = opened room true classes tick (waits ++ packets_of coming) levels queues }
  -- so where nobody waits, any number may come and pass in one tick, if their levels and the queues let them
  pub all_at_once : (coming : List Coming) → waits ≡ [] → AllMay room true classes tick (packets_of coming) levels queues →
      edge_tick room classes tick waits levels queues coming ≡
      record {
        refused = [];
        opened =
            record {
              waits = [];
              levels = spent_by_all tick (packets_of coming) levels;
              queues = queued_by_all true classes tick (packets_of coming) queues;
            };
      }
  -- after the tick at most 64 wait
  pub few : (coming : List Coming) → length waits ≤ 64 → length (edge_tick room classes tick waits levels queues coming).opened.waits ≤ 64

-- inside, where each packet is at least a tick long
abbrev pub Long : List Packet → Type 0
Long = Each (λ p. 1 ≤ p.length)

pub record InnerExact (aside room : ℕ) (classes : List ℕ) (tick : ℕ) (waits : List Packet) (levels : List LevelModel) (queues : List (List Packet)) : Type 0 where
  -- one is refused exactly if what waits, what was accepted before it in this tick, and it are above what is set aside
  pub full : (before : List Coming) (c : Coming) → aside < ticks_of (judged (inner_accepts aside) waits before).waits + c.packet.length →
      Refuses (inner_tick aside room classes tick waits levels queues) before c
  pub free : (before : List Coming) (c : Coming) → Long waits → Long (packets_of before) →
      ticks_of (judged (inner_accepts aside) waits before).waits + c.packet.length ≤ aside →
      Accepts (inner_tick aside room classes tick waits levels queues) before c
  -- where all fits nobody is refused, and the gate is opened with all of them
  pub nobody : (coming : List Coming) → Long waits → Long (packets_of coming) → ticks_of waits + ticks_of (packets_of coming) ≤ aside →
      inner_tick aside room classes tick waits levels queues coming ≡
      record { refused = []; opened = opened room false classes tick (waits ++ packets_of coming) levels queues }
  -- no more ticks wait than are set aside, before anything passes and after it
  pub kept : (coming : List Coming) → ticks_of waits ≤ aside →
      (ticks_of (judged (inner_accepts aside) waits coming).waits ≤ aside) × (ticks_of (inner_tick aside room classes tick waits levels queues coming).opened.waits ≤ aside)

-- Worked, with a burst of one tick: where 64 wait at the edge the first of them passes, one that comes has its place, and the
-- next is refused.
abbrev pub coming_of : ℕ → ℕ → Coming
coming_of number length = record { number = number; packet = packet_of 0 length 0 }

abbrev pub two_come : GateTick
two_come =
    edge_tick 9 (0 ∷ []) 5 (replicate 64 (packet_of 0 1 0)) (full_level 1 1000 ∷ []) (replicate 8 []) (coming_of 7 1 ∷ coming_of 8 1 ∷ [])

abbrev pub EdgeWorked : Type 0
EdgeWorked = (two_come.refused ≡ 8 ∷ []) × (length two_come.opened.waits ≡ 64)

-- Inside, with three ticks set aside, of packets of two, two, one and one tick the second and the last are refused; the first
-- never passes, and the third waits behind it.
abbrev pub four_come : GateTick
four_come =
    inner_tick 3 9 (0 ∷ []) 5 [] (full_level 1 1000 ∷ []) (replicate 8 [])
    (coming_of 1 2 ∷ coming_of 2 2 ∷ coming_of 3 1 ∷ coming_of 4 1 ∷ [])

abbrev pub InnerWorked : Type 0
InnerWorked = (four_come.refused ≡ 2 ∷ 4 ∷ []) × (four_come.opened.waits ≡ packet_of 0 2 0 ∷ packet_of 0 1 0 ∷ [])

pub record EdgeLaws : Type 0 where
  pub does : (room : ℕ) (classes : List ℕ) (tick : ℕ) (waits : List Packet) (levels : List LevelModel) (queues : List (List Packet)) (coming : List Coming) →
      TickDoes (edge_tick room classes tick waits levels queues) room true classes tick waits levels queues coming
  pub later : (room : ℕ) (classes : List ℕ) (tick : ℕ) (waits : List Packet) (levels : List LevelModel) (queues : List (List Packet)) →
      Later (edge_tick room classes tick waits levels queues)
  pub exact : (room : ℕ) (classes : List ℕ) (tick : ℕ) (waits : List Packet) (levels : List LevelModel) (queues : List (List Packet)) →
      EdgeExact room classes tick waits levels queues
  pub worked : EdgeWorked

pub record InnerLaws : Type 0 where
  pub does : (aside room : ℕ) (classes : List ℕ) (tick : ℕ) (waits : List Packet) (levels : List LevelModel) (queues : List (List Packet)) (coming : List Coming) →
      TickDoes (inner_tick aside room classes tick waits levels queues) room false classes tick waits levels queues coming
  pub later : (aside room : ℕ) (classes : List ℕ) (tick : ℕ) (waits : List Packet) (levels : List LevelModel) (queues : List (List Packet)) →
      Later (inner_tick aside room classes tick waits levels queues)
  pub exact : (aside room : ℕ) (classes : List ℕ) (tick : ℕ) (waits : List Packet) (levels : List LevelModel) (queues : List (List Packet)) →
      InnerExact aside room classes tick waits levels queues
  pub worked : InnerWorked
