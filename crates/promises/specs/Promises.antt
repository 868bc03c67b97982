-- What ports promise, what flows are due, and what memory this needs: computed from net and flows alone. Assumes nothing.
use Rattle.std.specs.Prelude.{ℕ, ◌+◌, ◌-◌, ◌*◌, ◌/◌, max, Bool, false, cond, ◌&&◌, ◌||◌, List, [], ◌∷◌, ◌==◌, nat_le, nat_lt}
use Rattle.flows.specs.Net.{NetModel, port_at}
use Rattle.flows.specs.Flow.{FlowModel}
use Rattle.flows.specs.FlowFormat.{passes}

-- all of a port, in millionths
abbrev pub den : ℕ
den = 1000000

-- a flow goes over port p
abbrev pub over : ℕ → FlowModel → Bool
over p f = passes p f.road

-- the sum of the bursts of the flows over port p of class c or lower
unfoldable pub bursts : ℕ → ℕ → List FlowModel → ℕ
bursts p c [] = 0
bursts p c (f ∷ fs) = cond (over p f && nat_le f.class c) f.burst 0 + bursts p c fs

-- the sum of the rates of those of classes below c
unfoldable pub before : ℕ → ℕ → List FlowModel → ℕ
before p c [] = 0
before p c (f ∷ fs) = cond (over p f && nat_lt f.class c) f.rate 0 + before p c fs

-- the longest packet of those of classes above c
unfoldable pub long : ℕ → ℕ → List FlowModel → ℕ
long p c [] = 0
long p c (f ∷ fs) = max (cond (over p f && nat_lt c f.class) f.longest 0) (long p c fs)

-- what port p promises class c: ticks from passing the regulator to the last bit's leaving
abbrev pub promise : ℕ → ℕ → List FlowModel → ℕ
promise p c fs = (long p c fs + bursts p c fs) * den / (den - before p c fs)

-- the rates of all flows over port p; it is not promised more than all of itself
abbrev pub rates : ℕ → List FlowModel → ℕ
rates p fs = before p 8 fs

-- what a flow of class c is due up to each port of a road, where t ticks are due before it: promises and the wires between
unfoldable pub dues : NetModel → List FlowModel → ℕ → ℕ → List ℕ → List ℕ
dues net fs c t [] = []
dues net fs c t (p ∷ ps) = (t + promise p c fs) ∷ dues net fs c (t + promise p c fs + (port_at net p).wire) ps

-- what it is due over the whole road
unfoldable pub due_over : NetModel → List FlowModel → ℕ → List ℕ → ℕ
due_over net fs c [] = 0
due_over net fs c (p ∷ []) = promise p c fs
due_over net fs c (p ∷ q ∷ ps) = promise p c fs + (port_at net p).wire + due_over net fs c (q ∷ ps)

abbrev pub due : NetModel → List FlowModel → FlowModel → ℕ
due net fs f = due_over net fs f.class f.road

-- the queues of classes up to c of port p need so many ticks together
abbrev pub queue_need : ℕ → ℕ → List FlowModel → ℕ
queue_need p c fs = long p c fs + bursts p c fs

-- all queues of port p together
abbrev pub port_need : ℕ → List FlowModel → ℕ
port_need p fs = bursts p 7 fs

-- a road goes from port p directly to port q
unfoldable pub goes : ℕ → ℕ → List ℕ → Bool
goes p q [] = false
goes p q (x ∷ []) = false
goes p q (x ∷ y ∷ ys) = (x == p && y == q) || goes p q (y ∷ ys)

-- what the flows of class c that go from p to q may send into the regulator within a window of the promise, in millionths of ticks
unfoldable pub windowed : ℕ → ℕ → ℕ → ℕ → List FlowModel → ℕ
windowed p q c window [] = 0
windowed p q c window (f ∷ fs) =
    cond (f.class == c && goes p q f.road) (den * f.burst + f.rate * window) 0 + windowed p q c window fs

-- the regulator behind port p before port q for class c, in ticks, rounded up once
abbrev pub regulator_need : ℕ → ℕ → ℕ → List FlowModel → ℕ
regulator_need p q c fs = (windowed p q c (promise p c fs) fs + (den - 1)) / den
