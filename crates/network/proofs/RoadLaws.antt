-- Which ports stand before which on a road. Assumes nothing.
use Rattle.std.proofs.Common.{◌<◌, ◌≤◌, ◌≡◌, ℕ, true, false, eqb, List, [], ◌∷◌, ◌++◌, sym, refl, ◌∙◌, subst, ◌⊎◌, inl, inr, arith}
use Rattle.std.specs.List.{AllByRecursion as Each}
use Rattle.std.specs.Prelude.{◌≢◌}
use Rattle.std.proofs.lemmas.Bool.{cases_Bool, cases_eq, eq-eqb, ne_eqb}
use Rattle.flows.specs.Flow.{Once}
use Rattle.promises.specs.Promises.{goes}
use Rattle.flows.specs.FlowFormat.{passes}
use Rattle.network.specs.Network.{starts, port_before}

-- a road goes from each port to the next
pub goes_next : (front : List ℕ) (x y : ℕ) (rest : List ℕ) → goes x y (front ++ x ∷ y ∷ rest) ≡ true
unfolding goes
goes_next [] x y rest = rw (eq-eqb x x refl, eq-eqb y y refl) refl
goes_next (z ∷ []) x y rest = grind (arith, goes_next [] x y rest)
goes_next (z ∷ z' ∷ front) x y rest = grind (arith, goes_next (z' ∷ front) x y rest)

-- a port that stands on it no more is not gone to
goes-never : (p q y : ℕ) (ys : List ℕ) → Each (λ z. z ≢ q) ys → goes p q (y ∷ ys) ≡ true → ⊥
unfolding goes
goes-never p q y [] each on = let never : true ≡ false = sym on in cc
goes-never p q y (z ∷ zs) each on =
    elim (cases_eq y p) [
      | inl is ↦ goes-never p q z zs each.1 (sym (rw (eq-eqb y p is, ne_eqb z q each.0) refl) ∙ on)
      | inr not ↦ goes-never p q z zs each.1 (sym (rw (ne_eqb y p not) refl) ∙ on)
    ]

-- nor is the first
pub starts_none : (p q : ℕ) (road : List ℕ) → Once road → starts q road ≡ true → goes p q road ≡ true → ⊥
unfolding starts goes
starts_none p q [] once first on = let never : true ≡ false = sym first in cc
starts_none p q (x ∷ xs) once first on = by (cases_eq x q)
  where
    by : (x ≡ q) ⊎ (x ≡ q → ⊥) → ⊥
    by (inl is) = goes-never p q x xs (subst (λ r. Each (λ z. z ≢ r) xs) is once.0) on
    by (inr not) = let never : true ≡ false = sym first ∙ ne_eqb x q not in cc

-- a port is gone to from one port only
pub goes_once : (p p' q : ℕ) (road : List ℕ) → Once road → goes p q road ≡ true → goes p' q road ≡ true → p ≡ p'
unfolding goes
goes_once p p' q [] once on also = let never : true ≡ false = sym on in cc
goes_once p p' q (x ∷ []) once on also = let never : true ≡ false = sym on in cc
goes_once p p' q (x ∷ y ∷ ys) once on also =
    elim (cases_eq y q) [
      | inl is ↦ sym (first p is on) ∙ first p' is also
      | inr not ↦ goes_once p p' q (y ∷ ys) once.1 (later p not on) (later p' not also)
    ]
  where
    first : (r : ℕ) → y ≡ q → goes r q (x ∷ y ∷ ys) ≡ true → x ≡ r
    first r is goes-on =
        elim (cases_eq x r) [
          | inl same ↦ same
          | inr not ↦ absurd (goes-never r q y ys (subst (λ s. Each (λ z. z ≢ s) ys) is once.1.0) (sym (rw (ne_eqb x r not) refl) ∙ goes-on))
        ]

    later : (r : ℕ) → (y ≡ q → ⊥) → goes r q (x ∷ y ∷ ys) ≡ true → goes r q (y ∷ ys) ≡ true
    later r not goes-on =
        elim (cases_Bool (eqb x r)) [
          | inl same ↦ sym (rw (same, ne_eqb y q not) refl) ∙ goes-on
          | inr other ↦ sym (rw other refl) ∙ goes-on
        ]

-- the port before on it is that one
pub before_is : (p q : ℕ) (road : List ℕ) → Once road → goes p q road ≡ true → port_before q road ≡ p
unfolding goes port_before
before_is p q [] once on = let never : true ≡ false = sym on in cc
before_is p q (x ∷ []) once on = let never : true ≡ false = sym on in cc
before_is p q (x ∷ y ∷ ys) once on =
    elim (cases_eq y q) [
      | inl is ↦ rw (eq-eqb y q is)
          (goes_once x p q (x ∷ y ∷ ys) once (subst (λ r. goes x r (x ∷ y ∷ ys) ≡ true) is (goes_next [] x y ys)) on)
      | inr not ↦ rw (ne_eqb y q not) (before_is p q (y ∷ ys) once.1 (later not))
    ]
  where
    later : (y ≡ q → ⊥) → goes p q (y ∷ ys) ≡ true
    later not =
        elim (cases_Bool (eqb x p)) [
          | inl same ↦ sym (rw (same, ne_eqb y q not) refl) ∙ on
          | inr other ↦ sym (rw other refl) ∙ on
        ]

-- a port that is gone to stands on the road
pub goes_stands : (p q : ℕ) (road : List ℕ) → goes p q road ≡ true → passes q road ≡ true
unfolding goes passes
goes_stands p q [] on = let never : true ≡ false = sym on in cc
goes_stands p q (x ∷ []) on = let never : true ≡ false = sym on in cc
goes_stands p q (x ∷ y ∷ ys) on =
    elim (cases_eq y q) [
      | inl is ↦ rw (eq-eqb q y (sym is)) (elim (cases_Bool (eqb q x)) [ inl a ↦ rw a refl | inr b ↦ rw b refl ])
      | inr not ↦
          let rest : passes q (y ∷ ys) ≡ true = goes_stands p q (y ∷ ys)
          (elim (cases_Bool (eqb x p)) [
            | inl same ↦ sym (rw (same, ne_eqb y q not) refl) ∙ on
            | inr other ↦ sym (rw other refl) ∙ on
          ]) in
          elim (cases_Bool (eqb q x)) [ inl a ↦ rw a refl | inr b ↦ rw b rest ]
    ]

-- and so does the first
pub starts_stands : (q : ℕ) (road : List ℕ) → starts q road ≡ true → passes q road ≡ true
unfolding starts passes
starts_stands q [] first = let never : true ≡ false = sym first in cc
starts_stands q (x ∷ xs) first =
    elim (cases_eq x q) [
      | inl is ↦ rw (eq-eqb q x (sym is)) refl
      | inr not ↦ let never : true ≡ false = sym first ∙ ne_eqb x q not in cc
    ]

-- a port past all of a road's does not
pub past-none : (n p : ℕ) (road : List ℕ) → n ≤ p → Each (λ q. q < n) road → passes p road ≡ false
unfolding passes
past-none n p [] past each = refl
past-none n p (x ∷ xs) past each = rw (ne_eqb p x (λ e. omega (arith, each.0))) (past-none n p xs past each.1)
