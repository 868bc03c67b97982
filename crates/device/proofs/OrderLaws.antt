-- Regulators stand in the order in which they are opened. Assumes nothing.
use Rattle.std.proofs.Common.{◌≡◌, ℕ, zero, suc, ◌+◌, ◌<◌, ◌≤◌, Bool, true, false, cond, List, [], ◌∷◌, ◌++◌, refl, arith, inl, inr}
use Rattle.std.specs.List.{AllByRecursion as Each}
use Rattle.std.proofs.ByRecursion.{All-append, All-weaker}
use Rattle.flows.specs.Flow.{FlowModel}
use Rattle.promises.specs.Promises.{regulator_need}
use Rattle.bridge.specs.Ports.{Stand, edge, inside}
use Rattle.device.specs.Starts.{begins_at, some_goes, edge_one, edges_from, inside_one, inside_behind, inside_before}
use Rattle.device.specs.Laws.{Earlier, InOrder}

-- two rows in order, of which all of the first are earlier than all of the second
order-append : (xs ys : List Stand) → InOrder xs → InOrder ys → Each (λ x. Each (Earlier x) ys) xs → InOrder (xs ++ ys)
order-append [] ys first second across = second
order-append (x ∷ xs) ys first second across =
    (All-append (Earlier x) xs ys first.0 across.0, order-append xs ys first.1 second across.1)

-- at the edge, for a flow from place j on
abbrev EdgeFrom : ℕ → Stand → Type 0
EdgeFrom j (edge k) = j ≤ k
EdgeFrom j (inside q c aside) = ⊥

from-less : (i j : ℕ) → i ≤ j → (s : Stand) → EdgeFrom j s → EdgeFrom i s
from-less i j less (edge k) h = omega arith
from-less i j less (inside q c aside) h = h

edge-earlier : (j : ℕ) (s : Stand) → EdgeFrom (j + 1) s → Earlier (edge j) s
edge-earlier j (edge k) h = omega arith
edge-earlier j (inside q c aside) h = absurd h

edges-from : (port j : ℕ) (fs : List FlowModel) → Each (EdgeFrom j) (edges_from port j fs)
unfolding edges_from
edges-from port j [] = tt
edges-from port j (f ∷ fs) =
    All-append (EdgeFrom j) (edge_one port j f) (edges_from port (j + 1) fs) (by (begins_at port f.road))
    (All-weaker (EdgeFrom (j + 1)) (EdgeFrom j) (from-less j (j + 1) (omega arith)) (edges_from port (j + 1) fs) (edges-from port (j + 1) fs))
  where
    by : (b : Bool) → Each (EdgeFrom j) (cond b (edge j ∷ []) [])
    by true = (omega arith, tt)
    by false = tt

edges-order : (port j : ℕ) (fs : List FlowModel) → InOrder (edges_from port j fs)
unfolding edges_from
edges-order port j [] = tt
edges-order port j (f ∷ fs) = by (begins_at port f.road) (edges-order port (j + 1) fs)
  where
    by : (b : Bool) → InOrder (edges_from port (j + 1) fs) → InOrder (cond b (edge j ∷ []) [] ++ edges_from port (j + 1) fs)
    by true rest =
        (All-weaker (EdgeFrom (j + 1)) (Earlier (edge j)) (edge-earlier j) (edges_from port (j + 1) fs) (edges-from port (j + 1) fs), rest)
    by false rest = rest

-- inside, behind port q for a class below n
abbrev Behind : ℕ → ℕ → Stand → Type 0
Behind q n (edge k) = ⊥
Behind q n (inside r d aside) = (r ≡ q) × (d < n)

behind-more : (q n : ℕ) (s : Stand) → Behind q n s → Behind q (suc n) s
behind-more q n (edge k) h = h
behind-more q n (inside r d aside) h = let less = h.1 in (h.0, omega arith)

one-behind : (q port c : ℕ) (fs : List FlowModel) → Each (Behind q (suc c)) (inside_one q port c fs)
one-behind q port c fs = by (some_goes q port c fs)
  where
    by : (b : Bool) → Each (Behind q (suc c)) (cond b (inside q c (regulator_need q port c fs) ∷ []) [])
    by true = ((refl, omega arith), tt)
    by false = tt

all-behind : (q port n : ℕ) (fs : List FlowModel) → Each (Behind q n) (inside_behind q port fs n)
unfolding inside_behind
all-behind q port zero fs = tt
all-behind q port (suc n) fs =
    All-append (Behind q (suc n)) (inside_behind q port fs n) (inside_one q port n fs)
    (All-weaker (Behind q n) (Behind q (suc n)) (behind-more q n) (inside_behind q port fs n) (all-behind q port n fs)) (one-behind q port n fs)

class-earlier : (q port c : ℕ) (fs : List FlowModel) (s : Stand) → Behind q c s → Each (Earlier s) (inside_one q port c fs)
class-earlier q port c fs (edge k) h = absurd h
class-earlier q port c fs (inside r d aside) h = by (some_goes q port c fs)
  where
    by : (b : Bool) → Each (Earlier (inside r d aside)) (cond b (inside q c (regulator_need q port c fs) ∷ []) [])
    by true = (inr h, tt)
    by false = tt

one-order : (q port c : ℕ) (fs : List FlowModel) → InOrder (inside_one q port c fs)
one-order q port c fs = by (some_goes q port c fs)
  where
    by : (b : Bool) → InOrder (cond b (inside q c (regulator_need q port c fs) ∷ []) [])
    by true = (tt, tt)
    by false = tt

behind-order : (q port n : ℕ) (fs : List FlowModel) → InOrder (inside_behind q port fs n)
unfolding inside_behind
behind-order q port zero fs = tt
behind-order q port (suc n) fs =
    order-append (inside_behind q port fs n) (inside_one q port n fs) (behind-order q port n fs) (one-order q port n fs)
    (All-weaker (Behind q n) (λ s. Each (Earlier s) (inside_one q port n fs)) (class-earlier q port n fs) (inside_behind q port fs n) (all-behind q port n fs))

-- behind one of the first n ports
abbrev Before : ℕ → Stand → Type 0
Before n (edge k) = ⊥
Before n (inside r d aside) = r < n

before-more : (n : ℕ) (s : Stand) → Before n s → Before (suc n) s
before-more n (edge k) h = h
before-more n (inside r d aside) h = omega arith

behind-before : (n m : ℕ) (s : Stand) → Behind n m s → Before (suc n) s
behind-before n m (edge k) h = h
behind-before n m (inside r d aside) h = let is = h.0 in omega arith

all-before : (port n : ℕ) (fs : List FlowModel) → Each (Before n) (inside_before port fs n)
unfolding inside_before
all-before port zero fs = tt
all-before port (suc n) fs =
    All-append (Before (suc n)) (inside_before port fs n) (inside_behind n port fs 8)
    (All-weaker (Before n) (Before (suc n)) (before-more n) (inside_before port fs n) (all-before port n fs))
    (All-weaker (Behind n 8) (Before (suc n)) (behind-before n 8) (inside_behind n port fs 8) (all-behind n port 8 fs))

port-earlier : (n m : ℕ) (s : Stand) → Before n s → (t : Stand) → Behind n m t → Earlier s t
port-earlier n m (edge k) h t g = absurd h
port-earlier n m (inside r d aside) h (edge k) g = absurd g
port-earlier n m (inside r d aside) h (inside x y other) g = let is = g.0 in inl (omega arith)

before-order : (port n : ℕ) (fs : List FlowModel) → InOrder (inside_before port fs n)
unfolding inside_before
before-order port zero fs = tt
before-order port (suc n) fs =
    order-append (inside_before port fs n) (inside_behind n port fs 8) (before-order port n fs) (behind-order n port 8 fs)
    (All-weaker (Before n) (λ s. Each (Earlier s) (inside_behind n port fs 8))
    (λ s h. All-weaker (Behind n 8) (Earlier s) (port-earlier n 8 s h) (inside_behind n port fs 8) (all-behind n port 8 fs))
    (inside_before port fs n) (all-before port n fs))

edge-inside : (n j : ℕ) (s : Stand) → EdgeFrom j s → (t : Stand) → Before n t → Earlier s t
edge-inside n j (edge k) h (edge m) g = absurd g
edge-inside n j (edge k) h (inside r d aside) g = tt
edge-inside n j (inside r d aside) h t g = absurd h

pub stands_order : (port n : ℕ) (fs : List FlowModel) → InOrder (edges_from port 0 fs ++ inside_before port fs n)
stands_order port n fs =
    order-append (edges_from port 0 fs) (inside_before port fs n) (edges-order port 0 fs) (before-order port n fs)
    (All-weaker (EdgeFrom 0) (λ s. Each (Earlier s) (inside_before port fs n))
    (λ s h. All-weaker (Before n) (Earlier s) (edge-inside n 0 s h) (inside_before port fs n) (all-before port n fs))
    (edges_from port 0 fs) (edges-from port 0 fs))
