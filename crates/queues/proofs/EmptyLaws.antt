-- Queues with no packet, and what waits in queues. Assumes nothing.
use Rattle.std.proofs.Common.{◌≡◌, ℕ, zero, suc, ◌+◌, ◌<◌, ◌≤◌, cond, ltb, min, ◌⊎◌, List, [], ◌∷◌, map, fold, length, get_or, replicate, sym, refl, ap, ◌∙◌, subst, inl, inr, zero-add, arith}
use Rattle.std.specs.List.{AllByRecursion as Each}
use Rattle.std.proofs.lemmas.List.{get_or-replicate}
use Rattle.std.proofs.lemmas.Bool.{cases_eq, cases_lt, lt-ltb, le-ltb}
use Rattle.lines.specs.declared.packet.Packet.{Packet}
use Rattle.queues.specs.declared.cell.Cell.{Cell}
use Rattle.queues.specs.declared.queues_of.Queue.{Queue}
use Rattle.queues.specs.declared.queues_of.Queues.{Queues}
use Rattle.queues.specs.Lines.{ticks_of, sum_to, ticks_in}
use Rattle.queues.specs.Held.{packet_at, next_at, places, last_of, occurs, queue_of, places_of, free_places, size, no_queue, Holds}
use Rattle.queues.proofs.ChainLaws.{occurs_here, occurs_other, no_places, sum_same, sum_front, sum_over_lem}
use Rattle.queues.proofs.PutLaws.{ticks-few}

-- places of which each is the one after the one before
module _ (cells : List Cell) (n : ℕ) (linked : (k : ℕ) → k < n → next_at cells k ≡ k + 1) (x : ℕ) where
  outside : (i k : ℕ) → i + k ≤ n → (x < i) ⊎ (i + k ≤ x) → occurs x (places cells i k) ≡ 0
  unfolding places occurs
  outside i zero fits out = refl
  outside i (suc k) fits out =
      occurs_other x i _ (elim out [ inl low ↦ omega arith | inr high ↦ omega arith ])
      ∙ ap (λ j. occurs x (places cells j k)) (linked i (omega arith))
      ∙ outside (i + 1) k (omega arith) (elim out [ inl low ↦ inl (omega arith) | inr high ↦ inr (omega arith) ])

  inside : (i k : ℕ) → i + k ≤ n → i ≤ x → x < i + k → occurs x (places cells i k) ≡ 1
  unfolding places
  inside i zero fits low high = absurd (omega arith)
  inside i (suc k) fits low high =
      let next : places cells (next_at cells i) k ≡ places cells (i + 1) k = ap (λ j. places cells j k) (linked i (omega arith)) in
      elim (cases_eq x i) [
        | inl same ↦
            ap (λ j. occurs x (j ∷ places cells (next_at cells i) k)) (sym same)
            ∙ occurs_here x (places cells (next_at cells i) k)
            ∙ ap (λ ps. 1 + occurs x ps) next
            ∙ ap (λ m. 1 + m) (outside (i + 1) k (omega arith) (inl (omega arith)))
        | inr differs ↦
            occurs_other x i _ differs
            ∙ ap (occurs x) next
            ∙ inside (i + 1) k (omega arith) (omega arith) (omega arith)
      ]

  all_once : occurs x (places cells 0 n) ≡ cond (ltb x n) 1 0
  all_once =
      elim (cases_lt x n) [
        | inl below ↦ inside 0 n (omega arith) (omega arith) (omega arith) ∙ sym (ap (λ b. cond b 1 0) (lt-ltb x n below))
        | inr above ↦ outside 0 n (omega arith) (inr (omega arith)) ∙ sym (ap (λ b. cond b 1 0) (le-ltb x n above))
      ]

-- queues in which nothing waits, and all cells are free
pub unused_holds : (q : Queues) (cells : List Cell) → ((c : ℕ) → c < 8 → (queue_of q c).count ≡ 0) → ((c : ℕ) → c < 8 → (queue_of q c).ticks ≡ 0) →
    q.free ≡ 0 → q.free_count ≡ size cells → ((k : ℕ) → k < q.free_count → next_at cells k ≡ k + 1) → Holds q cells (replicate 8 [])
unfolding sum_to last_of ticks_of occurs
unused_holds q cells counts ticks free is linked =
    record {
      eight = refl;
      line = λ c h. none c h ∙ sym (ap (map (packet_at cells)) (nowhere c h));
      counted = λ c h. ticks c h ∙ ap ticks_of (sym (none c h));
      ends = λ c h. ap (last_of (queue_of q c).last) (nowhere c h);
      short = λ c h. subst (Each (λ p. p.length ≤ 255)) (sym (none c h)) tt;
      once = λ x.
          ap (λ n. n + occurs x (free_places q cells)) (sum_same 8 (λ c. occurs x (places_of q cells c)) (λ c. 0) (λ c h. ap (occurs x) (nowhere c h)))
          ∙ zero-add _
          ∙ ap (λ i. occurs x (places cells i q.free_count)) free
          ∙ all_once cells q.free_count linked x
          ∙ ap (λ n. cond (ltb x n) 1 0) is;
      whole = ap (λ n. n + q.free_count) (sum_same 8 (λ c. (queue_of q c).count) (λ c. 0) counts) ∙ zero-add _ ∙ is;
    }
  where
    nowhere : (c : ℕ) → c < 8 → places_of q cells c ≡ []
    nowhere c h = no_places cells _ _ (counts c h)

    none : (c : ℕ) → c < 8 → ◌≡◌ {A = List Packet} (get_or (replicate 8 []) c []) []
    none c h = get_or-replicate 8 c [] [] h

-- the counted ticks together
pub ticks-together : (q : Queues) (cells : List Cell) (lines : List (List Packet)) → Holds q cells lines → sum_to 8 (λ c. (queue_of q c).ticks) ≡ ticks_in lines
ticks-together q cells lines held =
    sum_same 8 (λ c. (queue_of q c).ticks) (λ c. ticks_of (get_or lines c [])) held.counted
    ∙ ap (λ n. sum_to n (λ c. ticks_of (get_or lines c []))) (sym held.eight)
    ∙ sym (sum_over_lem ticks_of lines)

pub ticks_fit_all : (q : Queues) (cells : List Cell) (lines : List (List Packet)) → Holds q cells lines → sum_to 8 (λ c. (queue_of q c).ticks) < 18446744073709551615
unfolding sum_to
ticks_fit_all q cells lines held =
    let few = ticks-few q cells lines held in
    omega (arith, few 0 (omega arith), few 1 (omega arith), few 2 (omega arith), few 3 (omega arith), few 4 (omega arith), few 5 (omega arith), few 6 (omega arith), few 7 (omega arith))

-- ticks of one queue after the other, added up to at most the largest number of 64 bits
pub ticks_added : (xs : List Queue) (a : ℕ) → a ≤ 18446744073709551615 →
    fold (λ n x. min (n + x.ticks) 18446744073709551615) a xs ≡ min (a + sum_to (length xs) (λ c. (get_or xs c no_queue).ticks)) 18446744073709551615
unfolding sum_to
ticks_added [] a fits = omega (arith, fits)
ticks_added (x ∷ xs) a fits =
    omega (arith, ticks_added xs (min (a + x.ticks) 18446744073709551615) (omega arith), sum_front (length xs) (λ c. (get_or (x ∷ xs) c no_queue).ticks))
