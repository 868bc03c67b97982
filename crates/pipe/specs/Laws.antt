-- Laws of a pipe with a regulator at its end. Assumes nothing.
use Rattle.std.specs.Prelude.{◌≡◌, ℕ, ◌+◌, ◌*◌, ◌<◌, ◌≤◌, ◌⊎◌, List, [], ◌∷◌, ◌++◌, Some, slice_index_or}
use Rattle.std.specs.List.{AllByRecursion as Each}
use Rattle.flows.specs.Flow.{FlowModel}
use Rattle.promises.specs.Promises.{den}
use Rattle.port.specs.Port.{full, flow_at}
use Rattle.pipe.specs.Pipe.{Packet, Passed, PipeModel, MayPass, MayTick, Run, line_of, enters_of}
use Rattle.pipe.specs.Examples.{WaitMet}

-- it holds of one of these
abbrev pub OneOf : (Passed → Type 0) → List Passed → Type 0
OneOf P [] = ⊥
OneOf P (g ∷ gs) = P g ⊎ OneOf P gs

-- By tick t a packet that passed at the first port at tick sent has taken no longer than m took to come: t - sent is at most came - sent of m.
abbrev pub NoLonger : ℕ → ℕ → Passed → Type 0
NoLonger t sent m = t + m.packet.sent ≤ m.came + sent

-- Each packet that has passed at the next port did so no later after its pass at the first than it, or some packet before it in the pipe, took to
-- come: the regulator delays nobody beyond what one of these took anyway.
abbrev pub CostsNothing : Type 0
CostsNothing =
    (fs : List FlowModel) (s : PipeModel) (newer : List Passed) (g : Passed) (older : List Passed) → Run fs s →
    s.passed ≡ newer ++ g ∷ older → OneOf (NoLonger g.at g.packet.sent) (g ∷ older)

-- every packet that has come did so within so many ticks of its pass at the first port
pub record CameWithin (bound : ℕ) (s : PipeModel) : Type 0 where
  pub waits : Each (λ w. (t : ℕ) → w.came ≡ Some t → t ≤ w.sent + bound) s.pipe
  pub gone : Each (λ g. g.came ≤ g.packet.sent + bound) s.passed

-- then every packet that has passed at the next port did so within as many, and every packet that waits in the regulator has its time still
abbrev pub WithinBound : Type 0
WithinBound =
    (fs : List FlowModel) (s : PipeModel) (bound : ℕ) → Run fs s → CameWithin bound s →
    Each (λ g. g.at ≤ g.packet.sent + bound) s.passed ×
    Each (λ w. (t : ℕ) → w.came ≡ Some t → s.now ≤ w.sent + bound) s.pipe

-- and where the tick may end, it has more than this tick
abbrev pub NobodyDue : Type 0
NobodyDue =
    (fs : List FlowModel) (s : PipeModel) (bound : ℕ) → Run fs s → CameWithin bound s → MayTick fs s →
    Each (λ w. (t : ℕ) → w.came ≡ Some t → s.now < w.sent + bound) s.pipe

-- no flow's burst lacks more at the next port than all of it
abbrev pub NextRegular : Type 0
NextRegular = (fs : List FlowModel) (s : PipeModel) (k : ℕ) → Run fs s → (slice_index_or s.next k full).deficit ≤ den * (flow_at fs k).burst

-- The packets that have passed at the next port and those in the pipe are, in this order, all that passed at the first, in the order in which
-- they passed there: none overtakes another, and none is lost.
abbrev pub NobodyOvertakes : Type 0
NobodyOvertakes = (fs : List FlowModel) (s : PipeModel) (run : Run fs s) → line_of s ≡ enters_of fs run

-- in every state the first of the pipe may pass or the tick may end
abbrev pub NeverStuck : Type 0
NeverStuck =
    (fs : List FlowModel) (s : PipeModel) → MayTick fs s ⊎ ((w : Packet) × (rest : List Packet) × (t : ℕ) × MayPass fs s w rest t)

-- all of these, and a wait that is as long as the first law lets it be
pub record PipeLaws : Type 0 where
  pub costless : CostsNothing
  pub within : WithinBound
  pub due : NobodyDue
  pub regular : NextRegular
  pub order : NobodyOvertakes
  pub moves : NeverStuck
  pub met : WaitMet
