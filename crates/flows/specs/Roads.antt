-- Whether a road leads through a net, as a test. Assumes nothing.
use Rattle.std.specs.Prelude.{◌≡◌, ℕ, Bool, true, not, ◌&&◌, List, [], ◌∷◌, length, ◌==◌, nat_lt}
use Rattle.flows.specs.Net.{NetModel, port_at}
use Rattle.flows.specs.Flow.{IsRoad}
use Rattle.flows.specs.FlowFormat.{passes}

-- the next port, if there is one, stands on the switch where the wire of port p ends
unfoldable pub goes_on : NetModel → ℕ → List ℕ → Bool
goes_on net p [] = true
goes_on net p (q ∷ qs) = (port_at net q).switch == (port_at net p).ends

-- port p is one of the net, does not come again, and goes on to the next
abbrev pub step_fits : NetModel → ℕ → List ℕ → Bool
step_fits net p ps = nat_lt p (length net.ports) && (not (passes p ps) && goes_on net p ps)

unfoldable pub leads : NetModel → List ℕ → Bool
leads net [] = true
leads net (p ∷ ps) = step_fits net p ps && leads net ps

-- the test is passed by roads, and by nothing else
abbrev pub LeadsExactly : Type 0
LeadsExactly = (net : NetModel) (road : List ℕ) → (leads net road ≡ true → IsRoad net road) × (IsRoad net road → leads net road ≡ true)
