-- Laws of promises. Assumes nothing.
use Rattle.std.proofs.Common.{◌≡◌, ℕ, zero, suc, ◌+◌, ◌-◌, ◌*◌, ◌/◌, ◌<◌, ◌≤◌, max, List, [], ◌∷◌, ◌++◌, length, get_or, take, drop, replicate, Some, refl, ap, ◌∙◌, inl, inr, zero-add, div-mul-le_self, arith}
use Rattle.std.proofs.Math.Nat.{zero-max}
use Rattle.std.specs.List.{AllByRecursion as Each}
use Rattle.std.proofs.lemmas.Nat.{mul-le, le-div}
use Rattle.std.proofs.lemmas.Bool.{cases_lt, cases_Bool, lt-ltb, le-ltb, le-leb, lt-leb}
use Rattle.flows.specs.Net.{NetModel, port_at}
use Rattle.flows.specs.Flow.{FlowModel}
use Rattle.promises.specs.Promises.{den, over, bursts, before, long, promise, dues, due_over, goes, windowed}
use Rattle.promises.specs.Loads.{no_load, load_of, total, largest, load_before, load_bursts, load_long, loads_promise, behind_due, loads_dues}
use Rattle.promises.specs.Laws.{Classed, SumsKept, NeverShorter, PortCovers, DuesKept, LastIsDue, PromiseLaws}
use Rattle.promises.specs.Examples.{WorkedExamples}
use Rattle.flows.specs.FlowFormat.{passes}
use Rattle.promises.proofs.TableLaws.{table_kept}
use Rattle.promises.proofs.PairLaws.{pairs-kept}
use Rattle.promises.proofs.FollowLaws.{tables_follow, pairs_follow_lem}
use Rattle.promises.proofs.UntilLaws.{until_full, pairs_until_full, refusal_undone, pairs_undone_lem}
use Rattle.promises.proofs.WindowLaws.{window-kept}
use Rattle.promises.proofs.FitLaws.{sums_fit_lem, pairs_fit_lem}
use Rattle.promises.proofs.SumLaws.{sized_none, kept-bursts, kept-rates, kept-longest}

-- an empty table
pub total-none : (n m : ℕ) → total (take n (replicate m 0)) ≡ 0
unfolding total
total-none zero m = refl
total-none (suc n) zero = refl
total-none (suc n) (suc m) = rw (total-none n m) refl

largest-none : (n m : ℕ) → largest (drop n (replicate m 0)) ≡ 0
unfolding largest
largest-none zero zero = refl
largest-none zero (suc m) = rw (largest-none zero m) refl
largest-none (suc n) zero = refl
largest-none (suc n) (suc m) = largest-none n m

pub sums_kept : SumsKept
sums_kept p c fs low small room =
    let b : load_bursts (load_of p no_load fs) c ≡ bursts p c fs =
    kept-bursts p c no_load fs sized_none low ∙ ap (λ n. n + bursts p c fs) (total-none (c + 1) 8) ∙ zero-add (bursts p c fs) in
    let r : load_before (load_of p no_load fs) c ≡ before p c fs =
    kept-rates p c no_load fs sized_none low ∙ ap (λ n. n + before p c fs) (total-none c 8) ∙ zero-add (before p c fs) in
    let l : load_long (load_of p no_load fs) c ≡ long p c fs =
    kept-longest p c no_load fs sized_none low ∙ ap (λ n. max n (long p c fs)) (largest-none (c + 1) 8) ∙ zero-max (long p c fs) in
    rw (r, l, b, lt-ltb (before p c fs) den room) refl

-- a quotient grows with what is divided, and as the divisor shrinks
pub quotient_grows : (x y k m : ℕ) → x ≤ y → m ≤ k → 0 < m → x / k ≤ y / m
quotient_grows x y k m more less some =
    let whole = div-mul-le_self x k in
    let part = mul-le (x / k) m (x / k) k (omega arith) less in
    le-div (x / k) y m some (omega arith)

pub more-bursts : (p c : ℕ) (fs gs : List FlowModel) (f : FlowModel) → bursts p c (fs ++ gs) ≤ bursts p c (fs ++ f ∷ gs)
unfolding bursts
more-bursts p c [] gs f = omega arith
more-bursts p c (g ∷ fs) gs f = let more = more-bursts p c fs gs f in omega arith

more-before : (p c : ℕ) (fs gs : List FlowModel) (f : FlowModel) → before p c (fs ++ gs) ≤ before p c (fs ++ f ∷ gs)
unfolding before
more-before p c [] gs f = omega arith
more-before p c (g ∷ fs) gs f = let more = more-before p c fs gs f in omega arith

pub more-long : (p c : ℕ) (fs gs : List FlowModel) (f : FlowModel) → long p c (fs ++ gs) ≤ long p c (fs ++ f ∷ gs)
unfolding long
more-long p c [] gs f = omega arith
more-long p c (g ∷ fs) gs f = let more = more-long p c fs gs f in omega arith

pub never-shorter : NeverShorter
never-shorter p c fs gs f room =
    let b = more-bursts p c fs gs f in
    let r = more-before p c fs gs f in
    let l = more-long p c fs gs f in
    quotient_grows ((long p c (fs ++ gs) + bursts p c (fs ++ gs)) * den) ((long p c (fs ++ f ∷ gs) + bursts p c (fs ++ f ∷ gs)) * den)
    (den - before p c (fs ++ gs)) (den - before p c (fs ++ f ∷ gs)) (omega arith) (omega arith) (omega arith)

-- bursts of some classes are among those of all
some-bursts : (p c : ℕ) (fs : List FlowModel) → Each Classed fs → bursts p c fs ≤ bursts p 7 fs
unfolding bursts
some-bursts p c [] low = omega arith
some-bursts p c (f ∷ fs) low =
    let more = some-bursts p c fs low.1 in
    rw (le-leb f.class 7 low.0)
    (elim (cases_Bool (over p f)) [
      | inl on ↦ rw on (elim (cases_lt c f.class) [
        | inl above ↦ rw (lt-leb f.class c above) (omega arith)
        | inr below ↦ rw (le-leb f.class c below) (omega arith)
      ])
      | inr off ↦ rw off (omega arith)
    ])

pub port-covers : PortCovers
unfolding bursts long
port-covers p c [] low holds = omega arith
port-covers p c (f ∷ fs) low holds =
    let more = port-covers p c fs low.1 holds.1 in
    let some = some-bursts p c fs low.1 in
    let fits = holds.0 in
    rw (le-leb f.class 7 low.0)
    (elim (cases_Bool (over p f)) [
      | inl on ↦ rw on (elim (cases_lt c f.class) [
        | inl above ↦ rw (lt-leb f.class c above, lt-ltb c f.class above) (omega arith)
        | inr below ↦ rw (le-leb f.class c below, le-ltb c f.class below) (omega arith)
      ])
      | inr off ↦ rw off (omega arith)
    ])

pub dues-kept : DuesKept
unfolding loads_dues dues
dues-kept net ts fs c t [] kept low small known = refl
dues-kept net ts fs c t (p ∷ ps) kept low small known =
    let here : loads_promise ts p c ≡ Some (promise p c fs) =
    rw (le-leb c 7 small, kept p known.0.0) (sums_kept p c fs low small known.0.1) in
    let rest = dues-kept net ts fs c (t + promise p c fs + (port_at net p).wire) ps kept low small known.1 in
    rw (here, loads_dues) (ap (behind_due (t + promise p c fs)) rest)

-- dues with t ticks before them
later_due : (net : NetModel) (fs : List FlowModel) (c t p : ℕ) (ps : List ℕ) →
    get_or (dues net fs c t (p ∷ ps)) (length ps) 0 ≡ t + due_over net fs c (p ∷ ps)
unfolding dues due_over
later_due net fs c t p [] = refl
later_due net fs c t p (q ∷ ps) =
    let more = later_due net fs c (t + promise p c fs + (port_at net p).wire) q ps in
    more ∙ regroup t (promise p c fs) (port_at net p).wire (due_over net fs c (q ∷ ps))
  where
    regroup : (a b d e : ℕ) → a + b + d + e ≡ a + (b + d + e)
    regroup a b d e = omega arith

pub last_is_due : LastIsDue
last_is_due net fs c p ps = later_due net fs c 0 p ps ∙ zero-add (due_over net fs c (p ∷ ps))

pub worked-examples : WorkedExamples
unfolding bursts before long due_over goes windowed passes
worked-examples = (refl, (refl, (refl, (refl, (refl, (refl, (refl, (refl, (refl, (refl, (refl, tt)))))))))))

pub promise_laws : PromiseLaws
promise_laws = record { kept = sums_kept; table = table_kept; dues = dues-kept; last = last_is_due; pairs = pairs-kept; follow = tables_follow; pairs_follow = pairs_follow_lem; until = until_full; pairs_until = pairs_until_full; undone = refusal_undone; pairs_undone = pairs_undone_lem; sums_fit = sums_fit_lem; pairs_fit = pairs_fit_lem; window = window-kept; grows = never-shorter; covers = port-covers; examples = worked-examples }
