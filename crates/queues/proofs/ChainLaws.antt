-- Places that are linked in the lent memory, and what a write changes of them. Assumes nothing.
use Rattle.std.proofs.Common.{◌≡◌, ℕ, zero, suc, ◌+◌, ◌-◌, ◌<◌, ◌≤◌, cond, eqb, ◌≢◌, ◌⊎◌, List, [], ◌∷◌, ◌++◌, map, length, get_or, set, sym, refl, ap, ◌∙◌, subst, inl, inr, add-zero, zero-add, add-one, arith}
use Rattle.std.proofs.lemmas.List.{get_or-set_same, get_or-set_other, set_past}
use Rattle.std.proofs.lemmas.Bool.{cases_eq, cases_lt, eq-eqb, ne_eqb}
use Rattle.lines.specs.declared.packet.Packet.{Packet}
use Rattle.queues.specs.declared.cell.Cell.{Cell}
use Rattle.queues.specs.Lines.{sum_to, sum_over}
use Rattle.queues.specs.Held.{no_cell, packet_at, next_at, places, last_of, occurs}

pub occurs_here : (x : ℕ) (ys : List ℕ) → occurs x (x ∷ ys) ≡ 1 + occurs x ys
unfolding occurs
occurs_here x ys = ap (λ b. cond b 1 0 + occurs x ys) (eq-eqb x x refl)

pub occurs_other : (x y : ℕ) (ys : List ℕ) → x ≢ y → occurs x (y ∷ ys) ≡ occurs x ys
unfolding occurs
occurs_other x y ys differs = ap (λ b. cond b 1 0 + occurs x ys) (ne_eqb x y differs) ∙ zero-add (occurs x ys)

pub occurs-more : (x y : ℕ) (ys : List ℕ) → occurs x (y ∷ ys) ≡ occurs x (y ∷ []) + occurs x ys
unfolding occurs
occurs-more x y ys = ap (λ n. n + occurs x ys) (sym (add-zero (cond (eqb x y) 1 0)))

pub occurs_push : (x y : ℕ) (ys : List ℕ) → occurs x (ys ++ y ∷ []) ≡ occurs x ys + occurs x (y ∷ [])
unfolding occurs
occurs_push x y [] = sym (zero-add _)
occurs_push x y (z ∷ ys) = omega (arith, occurs_push x y ys)

-- a place that does not occur is none of them
pub not_first : (x y : ℕ) (ys : List ℕ) → occurs x (y ∷ ys) ≡ 0 → y ≢ x
not_first x y ys none same =
    let here : occurs x (y ∷ ys) ≡ 1 + occurs x ys = ap (λ z. occurs x (z ∷ ys)) same ∙ occurs_here x ys in
    omega (arith, here)

pub not_rest : (x y : ℕ) (ys : List ℕ) → occurs x (y ∷ ys) ≡ 0 → occurs x ys ≡ 0
not_rest x y ys none = omega (arith, occurs-more x y ys)

pub length-places : (cells : List Cell) (i k : ℕ) → length (places cells i k) ≡ k
unfolding places
length-places cells i zero = refl
length-places cells i (suc k) = ap suc (length-places cells (next_at cells i) k)

-- a write elsewhere changes neither the places nor the packets there
pub places_other : (cells : List Cell) (p : ℕ) (v : Cell) (i k : ℕ) → occurs p (places cells i k) ≡ 0 → places (set cells p v) i k ≡ places cells i k
unfolding places
places_other cells p v i zero none = refl
places_other cells p v i (suc k) none =
    let rest : List ℕ = places cells (next_at cells i) k in
    let same : next_at (set cells p v) i ≡ next_at cells i = ap (λ x. x.next) (get_or-set_other cells p i v no_cell (not_first p i rest none)) in
    ap (λ j. i ∷ places (set cells p v) j k) same ∙ ap (λ ps. i ∷ ps) (places_other cells p v (next_at cells i) k (not_rest p i rest none))

pub packets_other : (cells : List Cell) (p : ℕ) (v : Cell) (ps : List ℕ) → occurs p ps ≡ 0 → map (packet_at (set cells p v)) ps ≡ map (packet_at cells) ps
packets_other cells p v [] none = refl
packets_other cells p v (x ∷ ps) none =
    let same : packet_at (set cells p v) x ≡ packet_at cells x = ap (λ y. y.packet) (get_or-set_other cells p x v no_cell (not_first p x ps none)) in
    let more = packets_other cells p v ps (not_rest p x ps none) in
    cc

-- a write of the next place alone changes no packet
pub packet-next : (cells : List Cell) (p n x : ℕ) → packet_at (set cells p (record { packet = packet_at cells p; next = n })) x ≡ packet_at cells x
packet-next cells p n x =
    elim (cases_eq x p) [
      | inr differs ↦ ap (λ y. y.packet) (get_or-set_other cells p x _ no_cell differs)
      | inl same ↦ ap (packet_at (set cells p v)) same ∙ here (cases_lt p (length cells)) ∙ ap (packet_at cells) (sym same)
    ]
  where
    v : Cell
    v = record { packet = packet_at cells p; next = n }

    here : (p < length cells) ⊎ (length cells ≤ p) → packet_at (set cells p v) p ≡ packet_at cells p
    here (inl within) = ap (λ y. y.packet) (get_or-set_same cells p v no_cell within)
    here (inr past) = ap (λ ys. packet_at ys p) (set_past cells p v past)

pub packets_next : (cells : List Cell) (p n : ℕ) (ps : List ℕ) → map (packet_at (set cells p (record { packet = packet_at cells p; next = n }))) ps ≡ map (packet_at cells) ps
packets_next cells p n [] = refl
packets_next cells p n (x ∷ ps) =
    let more = packets_next cells p n ps in
    let same = packet-next cells p n x in
    cc

-- the first of them
pub places-first : (cells : List Cell) (i k : ℕ) → 0 < k → places cells i k ≡ i ∷ places cells (next_at cells i) (k - 1)
unfolding places
places-first cells i zero some = absurd (omega arith)
places-first cells i (suc k) some = let e : suc k - 1 ≡ k = omega arith in ap (λ n. i ∷ places cells (next_at cells i) n) (sym e)

pub places-more : (cells : List Cell) (i k : ℕ) → places cells i (k + 1) ≡ i ∷ places cells (next_at cells i) k
unfolding places
places-more cells i k = rw add-one refl

-- the last of them, which stands there
pub last_there : (d : ℕ) (x : ℕ) (xs : List ℕ) → 0 < occurs (last_of d (x ∷ xs)) (x ∷ xs)
unfolding last_of
last_there d x [] = omega (arith, occurs_here x [])
last_there d x (y ∷ xs) = omega (arith, last_there d y xs, occurs-more (last_of y xs) x (y ∷ xs))

pub last_push : (d y : ℕ) (xs : List ℕ) → last_of d (xs ++ y ∷ []) ≡ y
unfolding last_of
last_push d y [] = refl
last_push d y (x ∷ xs) = last_push x y xs

-- without the first
pub last_rest : (d x : ℕ) (xs : List ℕ) → last_of d (x ∷ xs) ≡ d → last_of d xs ≡ d
unfolding last_of
last_rest d x [] ends = refl
last_rest d x (y ∷ xs) ends = ends

-- where the last of them gets a next place, there is one place more
pub places_link : (cells : List Cell) (l : ℕ) (v : Cell) → l < length cells → (d i k : ℕ) → last_of d (places cells i (suc k)) ≡ l → occurs l (places cells i (suc k)) ≤ 1 →
    places (set cells l v) i (suc (suc k)) ≡ places cells i (suc k) ++ v.next ∷ []
unfolding places last_of
places_link cells l v within d i zero ends single =
    let here : next_at (set cells l v) i ≡ v.next = ap (next_at (set cells l v)) ends ∙ ap (λ x. x.next) (get_or-set_same cells l v no_cell within) in
    ap (λ j. i ∷ j ∷ []) here
places_link cells l v within d i (suc k) ends single =
    let j : ℕ = next_at cells i in
    let there : 0 < occurs l (places cells j (suc k)) = subst (λ x. 0 < occurs x (places cells j (suc k))) ends (last_there i j (places cells (next_at cells j) k)) in
    let differs : i ≢ l = λ same. let twice : occurs l (i ∷ places cells j (suc k)) ≡ 1 + occurs l (places cells j (suc k)) = ap (λ x. occurs l (x ∷ places cells j (suc k))) same ∙ occurs_here l _ in omega (arith, twice) in
    let next : next_at (set cells l v) i ≡ j = ap (λ x. x.next) (get_or-set_other cells l i v no_cell differs) in
    let more = places_link cells l v within i j k ends (omega (arith, occurs-more l i (places cells j (suc k)))) in
    ap (λ n. i ∷ places (set cells l v) n (suc (suc k))) next ∙ ap (λ ps. i ∷ ps) more

pub places_push : (cells : List Cell) (l : ℕ) (v : Cell) → l < length cells → (d i k : ℕ) → 0 < k → last_of d (places cells i k) ≡ l → occurs l (places cells i k) ≤ 1 →
    places (set cells l v) i (k + 1) ≡ places cells i k ++ v.next ∷ []
places_push cells l v within d i zero some ends single = absurd (omega arith)
places_push cells l v within d i (suc k) some ends single = ap (places (set cells l v) i) (add-one (suc k)) ∙ places_link cells l v within d i k ends single

-- the last of some places stands among them
pub last-placed : (cells : List Cell) (d i k : ℕ) → 0 < k → 0 < occurs (last_of d (places cells i k)) (places cells i k)
unfolding places
last-placed cells d i zero some = absurd (omega arith)
last-placed cells d i (suc k) some = last_there d i (places cells (next_at cells i) k)

pub no_places : (cells : List Cell) (i k : ℕ) → k ≡ 0 → places cells i k ≡ []
unfolding places
no_places cells i k none = ap (places cells i) none

-- sums of which one term changes
pub sum_same : (n : ℕ) (f g : ℕ → ℕ) → ((d : ℕ) → d < n → f d ≡ g d) → sum_to n f ≡ sum_to n g
unfolding sum_to
sum_same zero f g same = refl
sum_same (suc n) f g same = omega (arith, sum_same n f g (λ d h. same d (omega arith)), same n (omega arith))

pub sum_change : (n : ℕ) (f g : ℕ → ℕ) (c a b : ℕ) → c < n → ((d : ℕ) → d < n → d ≢ c → f d ≡ g d) → f c + a ≡ g c + b → sum_to n f + a ≡ sum_to n g + b
unfolding sum_to
sum_change zero f g c a b within same here = absurd (omega arith)
sum_change (suc n) f g c a b within same here =
    elim (cases_eq n c) [
      | inl is ↦
          let below = sum_same n f g (λ d h. same d (omega arith) (λ e. absurd (omega arith))) in
          let fc = ap f is in
          let gc = ap g is in
          omega (arith, below, fc, gc)
      | inr not ↦
          let below = sum_change n f g c a b (omega arith) (λ d h. same d (omega arith)) here in
          omega (arith, below, same n (omega arith) not)
    ]

pub sum_one : (n : ℕ) (f : ℕ → ℕ) (c : ℕ) → c < n → f c ≤ sum_to n f
unfolding sum_to
sum_one zero f c within = absurd (omega arith)
sum_one (suc n) f c within =
    elim (cases_eq n c) [
      | inl is ↦ let fc = ap f is in omega (arith, fc)
      | inr not ↦ omega (arith, sum_one n f c (omega arith))
    ]

pub sum_two : (n : ℕ) (f : ℕ → ℕ) (c d : ℕ) → c < n → d < n → d ≢ c → f c + f d ≤ sum_to n f
unfolding sum_to
sum_two zero f c d within other differs = absurd (omega arith)
sum_two (suc n) f c d within other differs =
    elim (cases_eq n c) [
      | inl is ↦ let fc = ap f is in omega (arith, fc, sum_one n f d (omega (arith, differs)))
      | inr not ↦
          elim (cases_eq n d) [
            | inl is ↦ let fd = ap f is in omega (arith, fd, sum_one n f c (omega arith))
            | inr nor ↦ omega (arith, sum_two n f c d (omega arith) (omega arith) differs)
          ]
    ]

pub sum_front : (n : ℕ) (f : ℕ → ℕ) → sum_to (suc n) f ≡ f 0 + sum_to n (λ c. f (suc c))
unfolding sum_to
sum_front zero f = omega arith
sum_front (suc n) f = omega (arith, sum_front n f)

-- what is added up line by line
pub sum_over_lem : (f : List Packet → ℕ) (lines : List (List Packet)) → sum_over f lines ≡ sum_to (length lines) (λ c. f (get_or lines c []))
unfolding sum_over sum_to
sum_over_lem f [] = refl
sum_over_lem f (line ∷ lines) = omega (arith, sum_over_lem f lines, sum_front (length lines) (λ c. f (get_or (line ∷ lines) c [])))
