-- The bytes of a flow. Assumes nothing.
use Rattle.std.specs.Prelude.{ℕ, zero, suc, Bool, true, false, cond, not, ◌&&◌, ◌||◌, List, [], ◌∷◌, ◌++◌, length, ◌==◌, nat_lt}
use Rattle.record_bytes.specs.Reading.{Cursor, Outcome, read, fault, Verdict, ◌>>=◌, ◌>>◌, pure, and_then, closed, start}
use Rattle.record_bytes.specs.Numbers.{number, tested, ranged, kind_byte, bytes_of}
use Rattle.flows.specs.Net.{NetModel, port_at}
use Rattle.flows.specs.Flow.{FlowModel}

-- port p stands on a road
unfoldable pub passes : ℕ → List ℕ → Bool
passes p [] = false
passes p (q ∷ qs) = p == q || passes p qs

-- port p may follow a road: it is the first, or stands on the switch where the wire of the last one ends
unfoldable pub joins : NetModel → List ℕ → ℕ → Bool
joins net [] p = true
joins net (q ∷ []) p = (port_at net q).ends == (port_at net p).switch
joins net (q ∷ r ∷ rs) p = joins net (r ∷ rs) p

-- one of so many ports; any other is fault 2
unfoldable pub port_number : ℕ → Cursor → Outcome ℕ
port_number ports = tested 1 (λ p. nat_lt p ports) 2

-- The next port of a road. One that the net has not is fault 2; one that is on the road already, or may not follow it, is 3.
unfoldable pub road_port : NetModel → List ℕ → Cursor → Outcome ℕ
road_port net road c =
    and_then (number 1 c) (λ p after.
    cond (nat_lt p (length net.ports))
    (cond (not (passes p road) && joins net road p) (read p after) (fault 3 c.at))
    (fault 2 c.at))

-- n more ports of a road
unfoldable pub road_from : NetModel → ℕ → List ℕ → Cursor → Outcome (List ℕ)
road_from net zero road = pure road
road_from net (suc n) road = road_port net road >>= λ p. road_from net n (road ++ p ∷ [])

-- its kind, class, longest packet, burst, rate, deadline, the number of ports and each of them
unfoldable pub flow_from : NetModel → Cursor → Outcome FlowModel
flow_from net = do
  kind_byte 1
  class ← ranged 1 0 7
  longest ← ranged 1 1 255
  burst ← ranged 2 longest 65535
  rate ← ranged 4 1 1000000
  deadline ← number 4
  hops ← ranged 1 1 16
  road ← road_from net hops []
  pure (record { class = class; longest = longest; burst = burst; rate = rate; deadline = deadline; road = road })

-- a flow of a net, from all bytes of a record
abbrev pub flow_record : NetModel → Bool → List ℕ → Verdict FlowModel
flow_record net whole bs = closed whole (flow_from net (start bs))

abbrev pub flow_bytes : FlowModel → List ℕ
flow_bytes f =
    bytes_of 1 1 ++ (bytes_of 1 f.class ++ (bytes_of 1 f.longest ++ (bytes_of 2 f.burst ++ (bytes_of 4 f.rate ++
    (bytes_of 4 f.deadline ++ (bytes_of 1 (length f.road) ++ f.road))))))
