-- How many wait in a line. Assumes nothing.
use Rattle.std.proofs.Common.{◌≡◌, ℕ, zero, suc, ◌-◌, ◌<◌, ◌≤◌, List, [], ◌∷◌, ◌++◌, length, drop, sym, refl, ap, ◌∙◌, arith}
use lib.Seq.{drop-nil}
use Rattle.std.proofs.lemmas.List.{length-take-le, length-append}
use Rattle.lines.specs.declared.line.Line.{Line}
use Rattle.lines.specs.declared.packet.Packet.{Packet}
use Rattle.lines.specs.Lines.{waits, Fits, tail_of}
use Rattle.lines.specs.Means.{Shorter}
use Rattle.lines.specs.Ticks.{ticks_of}

pub count_waits : {X : Type 0} (cells : List X) (line : Line) → Fits cells line → length (waits cells line) ≡ line.count
count_waits cells line fits =
    let whole = length-append (drop line.first cells) cells in
    length-take-le line.count (drop line.first cells ++ cells) (omega arith)

drop_tail : {X : Type 0} (n : ℕ) (xs : List X) → drop n (tail_of xs) ≡ drop (suc n) xs
drop_tail n [] = drop-nil n
drop_tail n (x ∷ xs) = refl

length_tail : {X : Type 0} (xs : List X) → length (tail_of xs) ≡ length xs - 1
length_tail [] = refl
length_tail (x ∷ xs) = omega arith

-- without the first, so many are still the same
pub rest-left : {X : Type 0} (cells : List X) (line next : Line) (n : ℕ) → Fits cells line → Shorter cells line next → n < line.count →
    drop (next.count - n) (waits cells next) ≡ drop (line.count - n) (waits cells line)
rest-left cells line next n fits shorter more =
    let fewer : next.count ≡ line.count - 1 = sym (count_waits cells next shorter.fits) ∙ ap length shorter.order
    ∙ length_tail (waits cells line) ∙ ap (λ k. k - 1) (count_waits cells line fits) in
    let one : line.count - n ≡ suc (next.count - n) = omega arith in
    ap (drop (next.count - n)) shorter.order ∙ drop_tail (next.count - n) (waits cells line) ∙ ap (λ k. drop k (waits cells line)) (sym one)

-- fewer ticks wait in what is left
pub ticks_drop : (n : ℕ) (ps : List Packet) → ticks_of (drop n ps) ≤ ticks_of ps
ticks_drop n [] = rw (drop-nil {A = Packet} n) (omega arith)
ticks_drop zero (p ∷ ps) = omega arith
ticks_drop (suc n) (p ∷ ps) = let fewer = ticks_drop n ps in omega arith
