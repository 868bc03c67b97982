-- The ticks of sending that wait, after a push and a drop. Assumes nothing.
use Rattle.std.proofs.Common.{◌≡◌, suc, ◌+◌, ◌-◌, false, List, [], ◌∷◌, ◌++◌, length, None, Option, sym, refl, ap, ◌∙◌, inl, inr, arith}
use Rattle.std.proofs.lemmas.Bool.{cases_lt, cases_Bool}
use Rattle.lines.specs.declared.counted.Counted.{Counted}
use Rattle.lines.specs.declared.line.Line.{Line}
use Rattle.lines.specs.declared.packet.Packet.{Packet}
use Rattle.lines.specs.Lines.{waiting, waits, Fits, head_of, tail_of, some_wait, first_waiting}
use Rattle.lines.specs.Ticks.{ticks_of, Counts, countable, counted_push, counted_cells, first_ticks, counted_drop, PushCounts, DropCounts}
use Rattle.lines.proofs.Rounds.{first-waits}
use Rattle.lines.proofs.Meanings.{room, no_room, some-wait, none-wait, some_fits, longer_means, shorter_means}

ticks_push : (ps : List Packet) (p : Packet) → ticks_of (ps ++ p ∷ []) ≡ ticks_of ps + p.length
ticks_push [] p = omega arith
ticks_push (q ∷ qs) p = let more = ticks_push qs p in omega arith

ticks_tail : (ps : List Packet) → ticks_of (tail_of ps) ≡ ticks_of ps - first_ticks (head_of ps)
ticks_tail [] = refl
ticks_tail (p ∷ ps) = omega arith

pub push_counts : (cells after : List Packet) (counted : Counted) (packet : Packet) (r : Option Counted) →
    r ≡ counted_push (length cells) counted packet → after ≡ counted_cells cells counted packet → Fits cells counted.line →
    Counts cells counted → PushCounts cells after counted packet r
push_counts cells after counted packet r answer written fits counts =
    elim (cases_Bool (countable counted packet)) [
      | inl can ↦
          elim (cases_lt counted.line.count (length cells)) [
            | inl less ↦
                let has = room cells counted.line fits less in
                let means = longer_means cells counted.line fits packet less in
                rw (answer, written, can, has) (
                  means,
                  ap (λ n. n + packet.length) counts ∙ sym (ticks_push (waits cells counted.line) packet) ∙ sym (ap ticks_of means.order),
                )
            | inr all ↦ let has = no_room cells counted.line fits all in rw (answer, written, can, has) refl
          ]
      | inr cannot ↦ rw (answer, written, cannot) refl
    ]

pub drop_counts : (cells : List Packet) (counted : Counted) (r : Option Counted) → r ≡ counted_drop cells counted →
    Fits cells counted.line → Counts cells counted → DropCounts cells counted r
drop_counts cells counted r answer fits counts =
    elim (cases_lt 0 counted.line.count) [
      | inl some ↦
          let has = some-wait cells counted.line fits some in
          let means = shorter_means cells counted.line fits some in
          rw (answer, has) (
            means,
            ap (λ n. n - first_ticks (head_of (waits cells counted.line))) counts ∙
                sym (ticks_tail (waits cells counted.line)) ∙ sym (ap ticks_of means.order),
          )
      | inr none ↦ let has = none-wait cells counted.line fits none in rw (answer, has) (omega arith)
    ]

-- where there is no first, nothing waits
none_first : (cells : List Packet) (line : Line) → None ≡ first_waiting cells line → some_wait (length cells) line ≡ false
none_first cells line nobody =
    elim (cases_Bool (some_wait (length cells) line)) [
      | inl some ↦
          let known = some_fits cells line some in
          let whole : suc (line.count - 1) ≡ line.count = omega arith in
          let somebody = first-waits cells line.first known.0.0 (line.count - 1) (record { flow = 0; length = 0; edge = 0 }) in
          let here = ap (λ n. head_of (waiting cells line.first n)) whole in
          let gone : None ≡ head_of (waits cells line) = rw some at nobody in
          cc
      | inr none ↦ none
    ]

pub drop-none : (cells : List Packet) (counted : Counted) → None ≡ first_waiting cells counted.line → None ≡ counted_drop cells counted
drop-none cells counted nobody = let none = none_first cells counted.line nobody in rw none refl
