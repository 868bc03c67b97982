-- Flows that pass the tests fit, a refusal names the first rule that fails, and the sums that are kept give the same tests.
-- Assumes nothing.
use Rattle.std.proofs.Common.{◌≡◌, ℕ, zero, suc, ◌+◌, ◌-◌, ◌<◌, ◌≤◌, Bool, true, false, cond, eqb, ltb, ◌⊎◌, List, [], ◌∷◌, ◌++◌, length, get_or, take, Some, None, Option, sym, refl, ap, ◌∙◌, subst, ap₂, inl, inr, zero-add, arith}
use lib.ListN.{length-map}
use Rattle.std.specs.List.{AllByRecursion as Each}
use Rattle.std.specs.Option.{option_map}
use Rattle.std.proofs.ByRecursion.{All-weaker}
use Rattle.std.proofs.lemmas.Option.{none-some}
use Rattle.std.proofs.lemmas.List.{take_all}
use Rattle.std.proofs.lemmas.Bool.{cases_lt, ltb-true, ltb-false, le-ltb, eq-eqb, ne_eqb, or_from, or_left, or_right, and_from}
use Rattle.flows.specs.Net.{NetModel}
use Rattle.flows.specs.Flow.{FlowModel}
use Rattle.flows.specs.FlowFormat.{passes}
use Rattle.promises.specs.Promises.{den, over, before, rates, dues, due_over, due}
use Rattle.promises.specs.Loads.{LoadModel, no_load, load_of, total, loads_dues}
use Rattle.promises.specs.Laws.{Classed, Kept, PairsOf}
use Rattle.promises.proofs.SumLaws.{sized_none, kept-rates}
use Rattle.promises.proofs.PromiseLaws.{total-none, dues-kept, last_is_due}
use Rattle.memory.specs.Plans.{Rated}
use Rattle.memory.proofs.NeedLaws.{rates_in, rates_among, sized_of, needs_kept}
use Rattle.admission.specs.declared.refusal.Refusal.{Refusal}
use Rattle.admission.specs.declared.refusal.Refusal.TheVariants.{Crowded, Promised, Late, Memory}
use Rattle.admission.specs.Lowest.{lowest}
use Rattle.admission.specs.Tests.{NumberedModel, over_promised, late_by, is_late, first_late, is_short, first_reason, crowded}
use Rattle.admission.specs.Rules.{Routed, flows_of, switch_need, memory_of, Fits, FailsFirst, too_many, over_port, late_flow, short_switch, is_over, first_late_of, is_bare, refusal_of, JudgedByRules}
use Rattle.admission.specs.Laws.{AdmissionLaws}
use Rattle.admission.proofs.ExampleLaws.{worked-table}
use Rattle.admission.proofs.LowestLaws.{lowest_law}

-- what follows of each element from two facts of it
pub all_both : {X : Type 0} (P Q R : X → Type 0) → ((x : X) → P x → Q x → R x) → (xs : List X) → Each P xs → Each Q xs → Each R xs
all_both P Q R h [] a b = tt
all_both P Q R h (x ∷ xs) a b = (h x a.0 b.0, all_both P Q R h xs a.1 b.1)

-- the lowest of a range, by two tests that agree there, and where none passes
lowest_same : (a b : ℕ → Bool) (n k : ℕ) → ((i : ℕ) → k ≤ i → i < k + n → a i ≡ b i) → lowest a n k ≡ lowest b n k
unfolding lowest
lowest_same a b zero k same = refl
lowest_same a b (suc n) k same =
    ap₂ (λ x y. cond x (Some k) y) (same k (omega arith) (omega arith))
    (lowest_same a b n (k + 1) (λ i low high. same i (omega arith) (omega arith)))

lowest-none : (test : ℕ → Bool) (n k : ℕ) → ((i : ℕ) → k ≤ i → i < k + n → test i ≡ false) → lowest test n k ≡ None
unfolding lowest
lowest-none test zero k fails = refl
lowest-none test (suc n) k fails =
    ap₂ (λ x y. cond x (Some k) y) (fails k (omega arith) (omega arith))
    (lowest-none test n (k + 1) (λ i low high. fails i (omega arith) (omega arith)))

-- no port of a net is promised more than all of itself, and no switch has too little memory
none_over : (net : NetModel) (fs : List FlowModel) → lowest (is_over fs) (length net.ports) 0 ≡ None →
    (p : ℕ) → p < length net.ports → rates p fs ≤ den
none_over net fs none p port = ltb-false den (rates p fs) ((lowest_law (is_over fs) (length net.ports)).none none p port)

none_bare : (net : NetModel) (fs : List FlowModel) → lowest (is_bare net fs) (length net.memories) 0 ≡ None →
    (s : ℕ) → s < length net.memories → switch_need net fs s ≤ memory_of net s
none_bare net fs none s switch =
    ltb-false (memory_of net s) (switch_need net fs s) ((lowest_law (is_bare net fs) (length net.memories)).none none s switch)

-- the rates that are kept for a port
rates-kept : (p : ℕ) (fs : List FlowModel) → Each Classed fs → total (load_of p no_load fs).rates ≡ rates p fs
rates-kept p fs low =
    let size = (sized_of p no_load fs sized_none).rates in
    let all : take 8 (load_of p no_load fs).rates ≡ (load_of p no_load fs).rates = take_all 8 (load_of p no_load fs).rates (omega arith) in
    sym (ap total all) ∙ kept-rates p 8 no_load fs sized_none low ∙ ap (λ n. n + before p 8 fs) (total-none 8 8) ∙ zero-add (before p 8 fs)

-- no road passes a port beyond the net's
passes_none : (n p : ℕ) (ps : List ℕ) → n ≤ p → Each (λ q. q < n) ps → passes p ps ≡ false
unfolding passes
passes_none n p [] beyond known = refl
passes_none n p (q ∷ ps) beyond known =
    or_from (eqb p q) (passes p ps) (ne_eqb p q (λ e. omega (arith, known.0))) (passes_none n p ps beyond known.1)

rates-none : (net : NetModel) (p : ℕ) (fs : List FlowModel) → length net.ports ≤ p → Each (Routed net) fs → rates p fs ≡ 0
unfolding before
rates-none net p [] beyond sound = refl
rates-none net p (f ∷ fs) beyond sound =
    let more = rates-none net p fs beyond sound.1 in
    rw (passes_none (length net.ports) p f.road beyond sound.0.route.known) (omega arith)

-- a road passes each of its ports
road-passes : (ps : List ℕ) → Each (λ p. passes p ps ≡ true) ps
unfolding passes
road-passes [] = tt
road-passes (q ∷ ps) = (
  or_left (eqb q q) (passes q ps) (eq-eqb q q refl),
  All-weaker (λ p. passes p ps ≡ true) (λ p. passes p (q ∷ ps) ≡ true) (λ p on. or_right (eqb p q) (passes p ps) on) ps (road-passes ps),
)

-- the rate of each flow is among those of its class
abbrev pub Among : List FlowModel → FlowModel → Type 0
Among fs f = (p : ℕ) → over p f ≡ true → f.rate ≤ rates_in p f.class fs

pub each_among : (fs : List FlowModel) → Each (Among fs) fs
unfolding rates_in
each_among [] = tt
each_among (g ∷ fs) = (
  λ p on. rw (and_from (over p g) (eqb g.class g.class) on (eq-eqb g.class g.class refl)) (omega arith),
  All-weaker (Among fs) (Among (g ∷ fs)) (λ f among p on. let few = among p on in omega arith) fs (each_among fs),
)

-- the last of the dues along a road is the due over it
last-due : (net : NetModel) (fs : List FlowModel) (c : ℕ) (road : List ℕ) → 1 ≤ length road →
    get_or (dues net fs c 0 road) (length road - 1) 0 ≡ due_over net fs c road
last-due net fs c [] some = absurd (omega arith)
last-due net fs c (p ∷ ps) some =
    let e : length (p ∷ ps) - 1 ≡ length ps = omega arith in
    ap (λ n. get_or (dues net fs c 0 (p ∷ ps)) n 0) e ∙ last_is_due net fs c p ps

-- for flows with roads through a net
module _ (net : NetModel) (fs : List FlowModel) (sound : Each (Routed net) fs) where
  low : Each Classed fs
  low = All-weaker (Routed net) Classed (λ f h. h.class_low) fs sound

  rated : Each Rated fs
  rated = All-weaker (Routed net) Rated (λ f h. h.rate_some) fs sound

  -- no port at all is promised more than all of itself, as none of the net is
  pub room_everywhere : ((p : ℕ) → p < length net.ports → rates p fs ≤ den) → (p : ℕ) → rates p fs ≤ den
  room_everywhere room p =
      elim (cases_lt p (length net.ports)) [
        | inl port ↦ room p port
        | inr beyond ↦ let none = rates-none net p fs beyond sound in omega arith
      ]

  -- what a flow is due, by the sums that are kept and by the flows
  pub dues_same : (loads : List LoadModel) → length net.ports ≤ 64 → Kept loads fs → ((p : ℕ) → rates p fs ≤ den) →
      (f : FlowModel) → Routed net f → Among fs f →
      loads_dues net loads f.class 0 f.road ≡ Some (dues net fs f.class 0 f.road)
  dues_same loads few kept room f is among =
      let known : Each (λ p. (p < 64) × (before p f.class fs < den)) f.road =
      all_both (λ p. p < length net.ports) (λ p. passes p f.road ≡ true) (λ p. (p < 64) × (before p f.class fs < den))
      (λ p port on. (omega arith, promises p on)) f.road is.route.known (road-passes f.road) in
      dues-kept net loads fs f.class 0 f.road kept low is.class_low known
    where
      promises : (p : ℕ) → passes p f.road ≡ true → before p f.class fs < den
      promises p on =
          let own = among p on in
          let all = rates_among p f.class fs low in
          let most = room p in
          let some = is.rate_some in
          omega arith

-- by tables that are kept for flows of a net
module _ (net : NetModel) (loads : List LoadModel) (pairs : List (List LoadModel)) (fs : List FlowModel) (few : length net.ports ≤ 64)
    (sound : Each (Routed net) fs) (kept : Kept loads fs) (between : PairsOf pairs fs) where
  -- 4: by the sums and by the flows
  over_same : (p : ℕ) → p < length net.ports → over_promised loads p ≡ is_over fs p
  over_same p port = ap (ltb den) (ap (λ (t : LoadModel). total t.rates) (kept p (omega arith)) ∙ rates-kept p fs (low net fs sound))

  module _ (room : (p : ℕ) → rates p fs ≤ den) where
    -- 5
    late_same : (f : FlowModel) → Routed net f → Among fs f → is_late net loads f ≡ ltb f.deadline (due net fs f)
    late_same f is among =
        ap (late_by f.deadline (length f.road)) (dues_same net fs sound loads few kept room f is among)
        ∙ ap (ltb f.deadline) (last-due net fs f.class f.road is.road_some)

    -- 6
    bare_same : (s : ℕ) → is_short net loads pairs (length net.ports) s ≡ is_bare net fs s
    bare_same s = ap (ltb (memory_of net s)) (needs_kept net loads pairs fs kept between (low net fs sound) (rated net fs sound) room s (length net.ports) few)

-- two lists of tests of which the first agree, and the others where the first pass
first_same : (v : ℕ → Refusal) (x y : Option ℕ) (a b : Option Refusal) → x ≡ y → (y ≡ None → a ≡ b) →
    first_reason (option_map v x) a ≡ first_reason (option_map v y) b
first_same v x y a b same rest = ap (λ o. first_reason (option_map v o) a) same ∙ by y rest
  where
    by : (o : Option ℕ) → (o ≡ None → a ≡ b) → first_reason (option_map v o) a ≡ first_reason (option_map v o) b
    by None then = then refl
    by (Some k) then = refl

first_late_same : (net : NetModel) (loads : List LoadModel) (fs : List FlowModel) (gs : List NumberedModel) →
    Each (λ f. is_late net loads f ≡ ltb f.deadline (due net fs f)) (flows_of gs) → first_late net loads gs ≡ first_late_of net fs gs
unfolding first_late first_late_of
first_late_same net loads fs [] same = refl
first_late_same net loads fs (g ∷ gs) same = ap₂ (λ x y. cond x (Some g.number) y) same.0 (first_late_same net loads fs gs same.1)

judged_by_rules : JudgedByRules
judged_by_rules net loads pairs gs few sound kept between =
    ap (first_reason (crowded (length gs)))
    (first_same Promised _ _ _ _
    (lowest_same (over_promised loads) (is_over fs) (length net.ports) 0 (λ p low port. over_same net loads pairs fs few sound kept between p (omega arith)))
    (λ none. others (room_everywhere net fs sound (none_over net fs none))))
  where
    fs : List FlowModel
    fs = flows_of gs

    others : ((p : ℕ) → rates p fs ≤ den) →
        first_reason (option_map Late (first_late net loads gs)) (option_map Memory (lowest (is_short net loads pairs (length net.ports)) (length net.memories) 0)) ≡
        first_reason (option_map Late (first_late_of net fs gs)) (option_map Memory (lowest (is_bare net fs) (length net.memories) 0))
    others room =
        first_same Late _ _ _ _
        (first_late_same net loads fs gs
        (all_both (Routed net) (Among fs) (λ f. is_late net loads f ≡ ltb f.deadline (due net fs f))
        (λ f is among. late_same net loads pairs fs few sound kept between room f is among) fs sound (each_among fs)))
        (λ none. ap (option_map Memory)
        (lowest_same (is_short net loads pairs (length net.ports)) (is_bare net fs) (length net.memories) 0
        (λ s low high. bare_same net loads pairs fs few sound kept between room s)))

-- which of two refusals it is
first-none : (a b : Option Refusal) → first_reason a b ≡ None → (a ≡ None) × (b ≡ None)
first-none None b e = (refl, e)
first-none (Some r) b e = absurd (none-some r (sym e))

first_some : (a b : Option Refusal) (r : Refusal) → first_reason a b ≡ Some r → (a ≡ Some r) ⊎ ((a ≡ None) × (b ≡ Some r))
first_some None b r e = inr (refl, e)
first_some (Some x) b r e = inl e

mapped_none : (v : ℕ → Refusal) (o : Option ℕ) → option_map v o ≡ None → o ≡ None
mapped_none v None e = refl
mapped_none v (Some k) e = absurd (none-some (v k) (sym e))

mapped_some : (v : ℕ → Refusal) (o : Option ℕ) (r : Refusal) → option_map v o ≡ Some r → (k : ℕ) × (o ≡ Some k) × (v k ≡ r)
mapped_some v None r e = absurd (none-some r e)
mapped_some v (Some k) r e = let same : v k ≡ r = cc in (k, refl, same)

crowded-none : (n : ℕ) → crowded n ≡ None → n ≤ 256
crowded-none n e = by (ltb 256 n) refl e
  where
    by : (b : Bool) → ltb 256 n ≡ b → cond b (Some Crowded) None ≡ None → n ≤ 256
    by true many e = absurd (none-some Crowded (sym e))
    by false few e = ltb-false 256 n few

crowded-some : (n : ℕ) (r : Refusal) → crowded n ≡ Some r → (256 < n) × (Crowded ≡ r)
crowded-some n r e = by (ltb 256 n) refl e
  where
    by : (b : Bool) → ltb 256 n ≡ b → cond b (Some Crowded) None ≡ Some r → (256 < n) × (Crowded ≡ r)
    by true many e = let same : Crowded ≡ r = cc in (ltb-true 256 n many, same)
    by false few e = absurd (none-some r e)

-- a flow is due at its deadline or before
abbrev Punctual : NetModel → List FlowModel → FlowModel → Type 0
Punctual net fs f = due net fs f ≤ f.deadline

late-none : (net : NetModel) (fs : List FlowModel) (gs : List NumberedModel) → first_late_of net fs gs ≡ None → Each (Punctual net fs) (flows_of gs)
unfolding first_late_of
late-none net fs [] e = tt
late-none net fs (g ∷ gs) e = by (ltb g.flow.deadline (due net fs g.flow)) refl e (late-none net fs gs)
  where
    by : (b : Bool) → ltb g.flow.deadline (due net fs g.flow) ≡ b → cond b (Some g.number) (first_late_of net fs gs) ≡ None →
        (first_late_of net fs gs ≡ None → Each (Punctual net fs) (flows_of gs)) → Each (Punctual net fs) (flows_of (g ∷ gs))
    by true late got more = absurd (none-some g.number (sym got))
    by false early got more = (ltb-false g.flow.deadline (due net fs g.flow) early, more got)

none-late : (net : NetModel) (fs : List FlowModel) (gs : List NumberedModel) → Each (Punctual net fs) (flows_of gs) → first_late_of net fs gs ≡ None
unfolding first_late_of
none-late net fs [] all = refl
none-late net fs (g ∷ gs) all =
    ap₂ (λ x y. cond x (Some g.number) y) (le-ltb g.flow.deadline (due net fs g.flow) all.0) (none-late net fs gs all.1)

-- the flow of this number is late, and those ahead of it are not
record LateAt (net : NetModel) (fs : List FlowModel) (gs : List NumberedModel) (number : ℕ) : Type 0 where
  ahead : List NumberedModel
  behind : List NumberedModel
  here : NumberedModel
  split : gs ≡ ahead ++ here ∷ behind
  named : here.number ≡ number
  late : here.flow.deadline < due net fs here.flow
  punctual : Each (Punctual net fs) (flows_of ahead)

late-some : (net : NetModel) (fs : List FlowModel) (gs : List NumberedModel) (k : ℕ) → first_late_of net fs gs ≡ Some k → LateAt net fs gs k
unfolding first_late_of
late-some net fs [] k e = absurd (none-some k e)
late-some net fs (g ∷ gs) k e = by (ltb g.flow.deadline (due net fs g.flow)) refl e (late-some net fs gs k)
  where
    by : (b : Bool) → ltb g.flow.deadline (due net fs g.flow) ≡ b → cond b (Some g.number) (first_late_of net fs gs) ≡ Some k →
        (first_late_of net fs gs ≡ Some k → LateAt net fs gs k) → LateAt net fs (g ∷ gs) k
    by true after got more =
        let same : g.number ≡ k = cc in
        record { ahead = []; behind = gs; here = g; split = refl; named = same; late = ltb-true g.flow.deadline (due net fs g.flow) after; punctual = tt }
    by false early got more =
        let rest = more got in
        record {
          ahead = g ∷ rest.ahead;
          behind = rest.behind;
          here = rest.here;
          split = ap (λ xs. g ∷ xs) rest.split;
          named = rest.named;
          late = rest.late;
          punctual = (ltb-false g.flow.deadline (due net fs g.flow) early, rest.punctual);
        }

-- the four tests of flows
module _ (net : NetModel) (gs : List NumberedModel) where
  abbrev fs : List FlowModel
  fs = flows_of gs

  abbrev overs : Option ℕ
  overs = lowest (is_over fs) (length net.ports) 0

  abbrev lates : Option ℕ
  lates = first_late_of net fs gs

  abbrev bares : Option ℕ
  bares = lowest (is_bare net fs) (length net.memories) 0

  abbrev from5 : Option Refusal
  from5 = first_reason (option_map Late lates) (option_map Memory bares)

  abbrev from4 : Option Refusal
  from4 = first_reason (option_map Promised overs) from5

  fits-passed : refusal_of net gs ≡ None → Fits net fs
  fits-passed e =
      let at7 = first-none (crowded (length gs)) from4 e in
      let at4 = first-none (option_map Promised overs) from5 at7.1 in
      let at5 = first-none (option_map Late lates) (option_map Memory bares) at4.1 in
      record {
        few = rw (length-map gs (λ (g : NumberedModel). g.flow)) (crowded-none (length gs) at7.0);
        promised = none_over net fs (mapped_none Promised overs at4.0);
        punctual = late-none net fs gs (mapped_none Late lates at5.0);
        roomy = none_bare net fs (mapped_none Memory bares at5.1);
      }

  passed-fits : Fits net fs → refusal_of net gs ≡ None
  passed-fits fits =
      let few : length gs ≤ 256 = rw (length-map gs (λ (g : NumberedModel). g.flow)) at fits.few in
      let not-over : overs ≡ None =
      lowest-none (is_over fs) (length net.ports) 0 (λ p low port. le-ltb den (rates p fs) (fits.promised p (omega arith))) in
      let not_late : lates ≡ None = none-late net fs gs fits.punctual in
      let not-bare : bares ≡ None =
      lowest-none (is_bare net fs) (length net.memories) 0
      (λ s low switch. le-ltb (memory_of net s) (switch_need net fs s) (fits.roomy s (omega arith))) in
      rw (le-ltb 256 (length gs) few, not-over, not_late, not-bare) refl

  fails_first : (r : Refusal) → refusal_of net gs ≡ Some r → FailsFirst net gs r
  fails_first r e = by7 (first_some (crowded (length gs)) from4 r e)
    where
      by6 : length gs ≤ 256 → overs ≡ None → lates ≡ None → option_map Memory bares ≡ Some r → FailsFirst net gs r
      by6 few not-over not_late got =
          let found = mapped_some Memory bares r got in
          let s = found.0 in
          let law = lowest_law (is_bare net fs) (length net.memories) in
          let here = law.passes s found.1 in
          subst (FailsFirst net gs) found.2
          (short_switch s few (none_over net fs not-over) (late-none net fs gs not_late) here.0
          (ltb-true (memory_of net s) (switch_need net fs s) here.1)
          (λ q below. ltb-false (memory_of net q) (switch_need net fs q) (law.first q s found.1 below)))

      by5 : length gs ≤ 256 → overs ≡ None →
          (option_map Late lates ≡ Some r) ⊎ ((option_map Late lates ≡ None) × (option_map Memory bares ≡ Some r)) → FailsFirst net gs r
      by5 few not-over (inl got) =
          let found = mapped_some Late lates r got in
          let at = late-some net fs gs found.0 found.1 in
          subst (FailsFirst net gs) (ap Late at.named ∙ found.2)
          (late_flow at.ahead at.behind at.here at.split few (none_over net fs not-over) at.late at.punctual)
      by5 few not-over (inr rest) = by6 few not-over (mapped_none Late lates rest.0) rest.1

      by4 : length gs ≤ 256 → (option_map Promised overs ≡ Some r) ⊎ ((option_map Promised overs ≡ None) × (from5 ≡ Some r)) → FailsFirst net gs r
      by4 few (inl got) =
          let found = mapped_some Promised overs r got in
          let p = found.0 in
          let law = lowest_law (is_over fs) (length net.ports) in
          let here = law.passes p found.1 in
          subst (FailsFirst net gs) found.2
          (over_port p few here.0 (ltb-true den (rates p fs) here.1)
          (λ q below. ltb-false den (rates q fs) (law.first q p found.1 below)))
      by4 few (inr rest) =
          by5 few (mapped_none Promised overs rest.0) (first_some (option_map Late lates) (option_map Memory bares) r rest.1)

      by7 : (crowded (length gs) ≡ Some r) ⊎ ((crowded (length gs) ≡ None) × (from4 ≡ Some r)) → FailsFirst net gs r
      by7 (inl got) = let many = crowded-some (length gs) r got in subst (FailsFirst net gs) many.1 (too_many many.0)
      by7 (inr rest) = by4 (crowded-none (length gs) rest.0) (first_some (option_map Promised overs) from5 r rest.1)

pub admission_laws : AdmissionLaws
admission_laws = record { exact = λ net gs. (fits-passed net gs, passed-fits net gs); first = fails_first; judged = judged_by_rules; examples = worked-table }
