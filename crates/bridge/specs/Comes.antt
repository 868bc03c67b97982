-- What comes to a port goes to the regulator that is its own. Assumes nothing.
use Rattle.std.specs.Prelude.{◌≡◌, ℕ, Bool, true, false, List, [], ◌∷◌, ◌++◌, Ok, Err, Result, ◌==◌, ◌&&◌}
use Rattle.std.specs.List.{AllByRecursion as Each}
use Rattle.regulators.specs.declared.coming.Coming.{Coming}
use Rattle.bridge.specs.declared.come_error.ComeError.{ComeError}
use Rattle.bridge.specs.declared.come_error.ComeError.TheVariants.{NoGate, OutOfMemory}
use Rattle.bridge.specs.declared.egress_port.EgressPort.{EgressPort}
use Rattle.bridge.specs.Ports.{Stand, edge, inside, GateState}

-- the regulator of a flow that enters the net here
abbrev pub of_source : ℕ → Stand → Bool
of_source flow (edge own) = own == flow
of_source flow (inside from class aside) = false

-- the regulator of what comes from a port in a class
abbrev pub of_port : ℕ → ℕ → Stand → Bool
of_port from class (edge flow) = false
of_port from class (inside own_from own_class aside) = own_from == from && own_class == class

-- no regulator is its own
abbrev pub NoneIs : (Stand → Bool) → List GateState → Type 0
NoneIs own gates = Each (λ g. own g.stand ≡ false) gates

-- one more comes to a regulator, behind those who come in this tick already
abbrev pub one_more : GateState → Coming → GateState
one_more g c = record { stand = g.stand; waits = g.waits; coming = g.coming ++ c ∷ [] }

-- it comes to the first regulator that is its own, and nothing changes at the others
pub record ComesTo (own : Stand → Bool) (c : Coming) (before after : List GateState) : Type 0 where
  pub earlier : List GateState
  pub gate : GateState
  pub later : List GateState
  pub found : before ≡ earlier ++ gate ∷ later
  pub own_is : own gate.stand ≡ true
  pub first : NoneIs own earlier
  pub comes : after ≡ earlier ++ one_more gate c ∷ later

abbrev pub ComeMeans : (Stand → Bool) → Coming → List GateState → List GateState → Result Unit ComeError → Type 0
ComeMeans own c before after (Ok _) = ComesTo own c before after
ComeMeans own c before after (Err NoGate) = NoneIs own before × (after ≡ before)
ComeMeans own c before after (Err (OutOfMemory error)) = after ≡ before

-- the queues, the levels and what is being sent
pub record RestAsBefore (before after : EgressPort) : Type 0 where
  pub levels : after.levels ≡ before.levels
  pub queues : after.queues ≡ before.queues
  pub sending : after.sending ≡ before.sending
