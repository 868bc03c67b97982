-- What queues owe their users. Assumes nothing.
use Rattle.std.proofs.Common.{◌≡◌, ℕ, zero, suc, ◌+◌, ◌<◌, List, [], ◌∷◌, ◌++◌, length, get_or, set, sym, refl, ap, ◌∙◌, subst, arith}
use Rattle.std.proofs.lemmas.List.{ext_get_or, length_push}
use Rattle.lines.specs.declared.packet.Packet.{Packet}
use Rattle.queues.specs.declared.cell.Cell.{Cell}
use Rattle.queues.specs.declared.queues_of.Queues.{Queues}
use Rattle.queues.specs.declared.queues_of.Taken.TheVariants.{Packet as taken, Nothing}
use Rattle.queues.specs.Lines.{put_in, taken_from, left_by, packets_in, ticks_in, ticks_of, sum_over}
use Rattle.queues.specs.Held.{Holds}
use Rattle.queues.specs.Laws.{IsFirst, QueueLaws}
use Rattle.queues.proofs.PutLaws.{ticks_push}

pub one_reading : (q : Queues) (cells : List Cell) (lines others : List (List Packet)) → Holds q cells lines → Holds q cells others → lines ≡ others
one_reading q cells lines others held also =
    ext_get_or [] lines others (held.eight ∙ sym also.eight)
    (λ c h. let class : c < 8 = omega (arith, held.eight) in held.line c class ∙ sym (also.line c class))

-- the queues begin with that of class b
record Found (b : ℕ) (lines : List (List Packet)) (c : ℕ) (packet : Packet) : Type 0 where
  place : ℕ
  is : b + place ≡ c
  first : IsFirst lines place packet

found : (b : ℕ) (lines : List (List Packet)) (c : ℕ) (packet : Packet) → taken_from b lines ≡ taken c packet → Found b lines c packet
unfolding taken_from left_by
found b [] c packet e = cc
found b ([] ∷ lines) c packet e =
    let more = found (b + 1) lines c packet e in
    let first = more.first in
    record {
      place = suc more.place;
      is = omega (arith, more.is);
      first = record { within = omega (arith, first.within); below = below first; others = first.others; line = first.line; left = ap (λ ls. [] ∷ ls) first.left };
    }
  where
    below : {k : ℕ} → IsFirst lines k packet → (d : ℕ) → d < suc k → get_or ([] ∷ lines) d [] ≡ []
    below first zero h = refl
    below first (suc d) h = first.below d (omega arith)
found b ((x ∷ xs) ∷ lines) c packet e =
    let class : b ≡ c = cc in
    let same : x ≡ packet = cc in
    record {
      place = 0;
      is = omega arith;
      first = record { within = omega arith; below = λ d h. absurd (omega arith); others = xs; line = ap (λ p. p ∷ xs) same; left = refl };
    }

pub first_taken : (lines : List (List Packet)) (c : ℕ) (packet : Packet) → taken_from 0 lines ≡ taken c packet → IsFirst lines c packet
first_taken lines c packet e =
    let it = found 0 lines c packet e in
    let class : it.place ≡ c = omega (arith, it.is) in
    subst (λ k. IsFirst lines k packet) class it.first

none_found : (b : ℕ) (lines : List (List Packet)) → taken_from b lines ≡ Nothing → (left_by lines ≡ lines) × ((c : ℕ) → get_or lines c [] ≡ [])
unfolding taken_from left_by
none_found b [] e = (refl, λ c. refl)
none_found b ([] ∷ lines) e = let more = none_found (b + 1) lines e in (ap (λ ls. [] ∷ ls) more.0, below more.1)
  where
    below : ((c : ℕ) → get_or lines c [] ≡ []) → (c : ℕ) → get_or ([] ∷ lines) c [] ≡ []
    below rest zero = refl
    below rest (suc c) = rest c
none_found b ((x ∷ xs) ∷ lines) e = cc

-- one line is replaced
sum_set : (f : List Packet → ℕ) (lines : List (List Packet)) (c : ℕ) (new : List Packet) → c < length lines →
    sum_over f (set lines c new) + f (get_or lines c []) ≡ sum_over f lines + f new
unfolding sum_over
sum_set f [] c new within = absurd (omega arith)
sum_set f (line ∷ lines) zero new within = omega arith
sum_set f (line ∷ lines) (suc c) new within = omega (arith, sum_set f lines c new (omega arith))

pub packets_put : (lines : List (List Packet)) (c : ℕ) (packet : Packet) → c < length lines → packets_in (put_in lines c packet) ≡ packets_in lines + 1
packets_put lines c packet within =
    let old : List Packet = get_or lines c [] in
    omega (arith, sum_set length lines c (old ++ packet ∷ []) within, length_push old packet)

pub ticks_put : (lines : List (List Packet)) (c : ℕ) (packet : Packet) → c < length lines → ticks_in (put_in lines c packet) ≡ ticks_in lines + packet.length
ticks_put lines c packet within =
    let old : List Packet = get_or lines c [] in
    omega (arith, sum_set ticks_of lines c (old ++ packet ∷ []) within, ticks_push old packet)

pub packets_left : (lines : List (List Packet)) (c : ℕ) (packet : Packet) → taken_from 0 lines ≡ taken c packet → packets_in (left_by lines) + 1 ≡ packets_in lines
packets_left lines c packet e =
    let it = first_taken lines c packet e in
    omega (arith, ap packets_in it.left, ap length it.line, sum_set length lines c it.others it.within)

pub ticks-left : (lines : List (List Packet)) (c : ℕ) (packet : Packet) → taken_from 0 lines ≡ taken c packet → ticks_in (left_by lines) + packet.length ≡ ticks_in lines
unfolding ticks_of
ticks-left lines c packet e =
    let it = first_taken lines c packet e in
    omega (arith, ap ticks_in it.left, ap ticks_of it.line, sum_set ticks_of lines c it.others it.within)

pub queue_laws : QueueLaws
queue_laws =
    record {
      reading = one_reading;
      first = first_taken;
      nothing = none_found 0;
      more-packets = packets_put;
      more-ticks = ticks_put;
      fewer-packets = packets_left;
      fewer-ticks = ticks-left;
    }
