-- Sums that are kept for a port instead of adding all flows again. Assumes nothing.
use Rattle.std.specs.Prelude.{ℕ, ◌+◌, ◌-◌, ◌*◌, ◌/◌, max, Bool, cond, ◌&&◌, List, [], ◌∷◌, take, drop, replicate, Some, None, Option, nat_le, nat_lt, slice_index, slice_index_or, slice_set}
use Rattle.flows.specs.Net.{NetModel, port_at}
use Rattle.flows.specs.Flow.{FlowModel}
use Rattle.promises.specs.Promises.{den, over, goes}

-- class by class: the sum of the bursts, the sum of the rates, the longest packet
pub record LoadModel : Type 0 where
  pub bursts : List ℕ
  pub rates : List ℕ
  pub longest : List ℕ

abbrev pub no_load : LoadModel
no_load = record { bursts = replicate 8 0; rates = replicate 8 0; longest = replicate 8 0 }

-- one flow more
abbrev pub load_with : LoadModel → FlowModel → LoadModel
load_with t f =
    record {
      bursts = slice_set t.bursts f.class (slice_index t.bursts f.class + f.burst);
      rates = slice_set t.rates f.class (slice_index t.rates f.class + f.rate);
      longest = slice_set t.longest f.class (max (slice_index t.longest f.class) f.longest);
    }

-- what the flows of a list ask of port p, on top of what was asked before
unfoldable pub load_of : ℕ → LoadModel → List FlowModel → LoadModel
load_of p t [] = t
load_of p t (f ∷ fs) = load_of p (cond (over p f) (load_with t f) t) fs

unfoldable pub total : List ℕ → ℕ
total [] = 0
total (x ∷ xs) = x + total xs

unfoldable pub largest : List ℕ → ℕ
largest [] = 0
largest (x ∷ xs) = max x (largest xs)

-- bursts of class c or lower, rates of classes below c, the longest packet of classes above c
abbrev pub load_bursts : LoadModel → ℕ → ℕ
load_bursts t c = total (take (c + 1) t.bursts)

abbrev pub load_before : LoadModel → ℕ → ℕ
load_before t c = total (take c t.rates)

abbrev pub load_long : LoadModel → ℕ → ℕ
load_long t c = largest (drop (c + 1) t.longest)

-- the promise, where there is one: a class before which all of the port is promised has none
abbrev pub load_promise : LoadModel → ℕ → Option ℕ
load_promise t c =
    cond (nat_lt (load_before t c) den)
    (Some ((load_long t c + load_bursts t c) * den / (den - load_before t c)))
    None

-- the longest that 32-bit sums of eight classes and a packet of a byte's length can give, with a millionth of the port left
abbrev pub longest_promise : ℕ
longest_promise = 34359738615000000

-- a flow more still fits 32 bits
abbrev pub load_fits : LoadModel → FlowModel → Bool
load_fits t f =
    nat_lt (slice_index t.bursts f.class + f.burst) 4294967296 && nat_lt (slice_index t.rates f.class + f.rate) 4294967296

-- A flow more at each port of a road, one after the other; None where a sum would pass 32 bits.
unfoldable pub loads_with : FlowModel → List ℕ → List LoadModel → Option (List LoadModel)
loads_with f [] ts = Some ts
loads_with f (p ∷ ps) ts =
    cond (load_fits (slice_index_or ts p no_load) f) (loads_with f ps (slice_set ts p (load_with (slice_index_or ts p no_load) f))) None

-- the same as far as it goes: where a sum would pass 32 bits, the ports before it have the flow, and no other
unfoldable pub loads_until : FlowModel → List ℕ → List LoadModel → List LoadModel
loads_until f [] ts = ts
loads_until f (p ∷ ps) ts =
    cond (load_fits (slice_index_or ts p no_load) f) (loads_until f ps (slice_set ts p (load_with (slice_index_or ts p no_load) f))) ts

-- a table that takes over what another says of the ports of a road
unfoldable pub loads_along : List ℕ → List LoadModel → List LoadModel → List LoadModel
loads_along [] us ts = ts
loads_along (p ∷ ps) us ts = loads_along ps us (slice_set ts p (slice_index_or us p no_load))

-- what port p promises class c by a table of all ports
abbrev pub loads_promise : List LoadModel → ℕ → ℕ → Option ℕ
loads_promise ts p c = cond (nat_le c 7) (load_promise (slice_index_or ts p no_load) c) None

-- the dues up to each port of a road, where t ticks are due before it; None where a port has no promise
abbrev pub behind_due : ℕ → Option (List ℕ) → Option (List ℕ)
behind_due d None = None
behind_due d (Some ds) = Some (d ∷ ds)

unfoldable pub loads_dues : NetModel → List LoadModel → ℕ → ℕ → List ℕ → Option (List ℕ)
loads_dues net ts c t [] = Some []
loads_dues net ts c t (p ∷ ps) =
    elim (loads_promise ts p c) [
      | None ↦ None
      | Some d ↦ behind_due (t + d) (loads_dues net ts c (t + d + (port_at net p).wire) ps)
    ]

-- what the flows of a list that go from port p directly to port q ask, on top of what was asked before
unfoldable pub pair_of : ℕ → ℕ → LoadModel → List FlowModel → LoadModel
pair_of p q t [] = t
pair_of p q t (f ∷ fs) = pair_of p q (cond (goes p q f.road) (load_with t f) t) fs

-- a table of tables: for each port, what goes on from it to each
abbrev pub pair_at : List (List LoadModel) → ℕ → ℕ → LoadModel
pair_at tables p q = slice_index_or (slice_index_or tables p []) q no_load

abbrev pub put_pair : List (List LoadModel) → ℕ → ℕ → LoadModel → List (List LoadModel)
put_pair tables p q t = slice_set tables p (slice_set (slice_index_or tables p []) q t)

-- A flow more from each port of a road to the next, one after the other; None where a sum would pass 32 bits.
unfoldable pub pairs_with : FlowModel → List ℕ → List (List LoadModel) → Option (List (List LoadModel))
pairs_with f [] tables = Some tables
pairs_with f (p ∷ []) tables = Some tables
pairs_with f (p ∷ q ∷ ps) tables =
    cond (load_fits (pair_at tables p q) f) (pairs_with f (q ∷ ps) (put_pair tables p q (load_with (pair_at tables p q) f))) None

-- the same as far as it goes
unfoldable pub pairs_until : FlowModel → List ℕ → List (List LoadModel) → List (List LoadModel)
pairs_until f [] tables = tables
pairs_until f (p ∷ []) tables = tables
pairs_until f (p ∷ q ∷ ps) tables =
    cond (load_fits (pair_at tables p q) f) (pairs_until f (q ∷ ps) (put_pair tables p q (load_with (pair_at tables p q) f))) tables

-- tables that take over what others say between each port of a road and the next
unfoldable pub pairs_along : List ℕ → List (List LoadModel) → List (List LoadModel) → List (List LoadModel)
pairs_along [] us tables = tables
pairs_along (p ∷ []) us tables = tables
pairs_along (p ∷ q ∷ ps) us tables = pairs_along (q ∷ ps) us (put_pair tables p q (pair_at us p q))
