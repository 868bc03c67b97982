-- The test of a road is passed by roads, and by nothing else. Assumes nothing.
use Rattle.std.proofs.Common.{◌≡◌, ℕ, ◌<◌, ◌≤◌, true, false, not, ◌&&◌, eqb, ltb, List, [], ◌∷◌, length, get_or, sym, refl, ap, ◌∙◌, inl, inr, arith}
use Rattle.std.specs.List.{AllByRecursion as Each}
use Rattle.std.proofs.lemmas.Bool.{and_parts, and_from, ltb-true, lt-ltb, eqb-true, eqb-false, eq-eqb, ne_eqb, not-true, not_from_false, or_parts, or_from}
use Rattle.std.proofs.lemmas.Bool.Decides.{eqb_tells}
use Rattle.flows.specs.Net.{NetModel, port_at}
use Rattle.flows.specs.Flow.{Joined, IsRoad}
use Rattle.flows.specs.FlowFormat.{passes}
use Rattle.flows.specs.Roads.{goes_on, step_fits, leads, LeadsExactly}

apart_all : (p : ℕ) (ps : List ℕ) → passes p ps ≡ false → Each (λ q. q ≡ p → ⊥) ps
unfolding passes
apart_all p [] apart = tt
apart_all p (q ∷ qs) apart =
    let parts = or_parts (eqb p q) (passes p qs) apart in
    ((λ e. eqb-false p q parts.0 (sym e)), apart_all p qs parts.1)

all_apart : (p : ℕ) (ps : List ℕ) → Each (λ q. q ≡ p → ⊥) ps → passes p ps ≡ false
unfolding passes
all_apart p [] apart = refl
all_apart p (q ∷ qs) apart = or_from (eqb p q) (passes p qs) (ne_eqb p q (λ e. apart.0 (sym e))) (all_apart p qs apart.1)

goes_joined : (net : NetModel) (p : ℕ) (ps : List ℕ) → goes_on net p ps ≡ true → Joined net ps → Joined net (p ∷ ps)
unfolding goes_on
goes_joined net p [] goes joined = tt
goes_joined net p (q ∷ qs) goes joined = (eqb-true _ _ goes, joined)

joined_goes : (net : NetModel) (p : ℕ) (ps : List ℕ) → Joined net (p ∷ ps) → (goes_on net p ps ≡ true) × Joined net ps
unfolding goes_on
joined_goes net p [] joined = (refl, tt)
joined_goes net p (q ∷ qs) joined = (eq-eqb _ _ joined.0, joined.1)

leads-road : (net : NetModel) (road : List ℕ) → leads net road ≡ true → IsRoad net road
unfolding leads
leads-road net [] is = record { known = tt; once = tt; connected = tt }
leads-road net (p ∷ ps) is =
    let parts = and_parts (step_fits net p ps) (leads net ps) is in
    let step = and_parts (ltb p (length net.ports)) (not (passes p ps) && goes_on net p ps) parts.0 in
    let on = and_parts (not (passes p ps)) (goes_on net p ps) step.1 in
    let more = leads-road net ps parts.1 in
    record {
      known = (ltb-true p (length net.ports) step.0, more.known);
      once = (apart_all p ps (not-true (passes p ps) on.0), more.once);
      connected = goes_joined net p ps on.1 more.connected;
    }

road-leads : (net : NetModel) (road : List ℕ) → IsRoad net road → leads net road ≡ true
unfolding leads
road-leads net [] is = refl
road-leads net (p ∷ ps) is =
    let on = joined_goes net p ps is.connected in
    let more = road-leads net ps (record { known = is.known.1; once = is.once.1; connected = on.1 }) in
    and_from (step_fits net p ps) (leads net ps)
    (and_from _ _ (lt-ltb p (length net.ports) is.known.0)
    (and_from _ _ (not_from_false (passes p ps) (all_apart p ps is.once.0)) on.0))
    more

pub leads_exactly : LeadsExactly
leads_exactly net road = (leads-road net road, road-leads net road)

pub goes_none : (net : NetModel) (p : ℕ) (behind : List ℕ) → length behind ≤ 0 → true ≡ goes_on net p behind
unfolding goes_on
goes_none net p [] none = refl
goes_none net p (q ∷ qs) none = absurd (omega arith)

turned : (a b : ℕ) → eqb a b ≡ eqb b a
turned a b =
    elim (eqb_tells a b) [
      | inl same ↦ same.0 ∙ sym (eq-eqb b a (sym same.1))
      | inr apart ↦ apart.0 ∙ sym (ne_eqb b a (λ e. apart.1 (sym e)))
    ]

pub goes_first : (net : NetModel) (p next : ℕ) (behind : List ℕ) → 0 < length behind → next ≡ get_or behind 0 next →
    eqb (port_at net p).ends (port_at net next).switch ≡ goes_on net p behind
unfolding goes_on
goes_first net p next [] some is = absurd (omega arith)
goes_first net p next (q ∷ qs) some is =
    turned (port_at net p).ends (port_at net next).switch ∙ ap (λ x. eqb (port_at net x).switch (port_at net p).ends) is
