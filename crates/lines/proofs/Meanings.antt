-- What the answers of a line say of what waits. Assumes nothing.
use Rattle.std.proofs.Common.{◌≡◌, suc, ◌-◌, ◌<◌, ◌≤◌, true, false, ◌&&◌, ltb, leb, List, length, set, Option, refl, ap, ◌∙◌, inl, inr, arith}
use Rattle.std.proofs.lemmas.List.{length-set}
use Rattle.std.proofs.lemmas.Bool.{cases_lt, lt-ltb, le-ltb, le-leb, ltb-true, leb-true, and_from, and_right, and_parts}
use Rattle.lines.specs.declared.line.Line.{Line}
use Rattle.lines.specs.Lines.{waiting, Fits, tail_of, place_after, some_wait, has_room, end_place, longer, pushed_line, pushed_cells, shorter, dropped_line}
use Rattle.lines.specs.Means.{Longer, PushMeans, Shorter, DropMeans}
use Rattle.lines.proofs.Rounds.{push_waits, drop-waits}

-- what the tests say of a line that fits
module _ {X : Type 0} (cells : List X) (line : Line) (fits : Fits cells line) where
  pub room : line.count < length cells → has_room (length cells) line ≡ true
  room less =
      and_from (ltb line.first (length cells)) (ltb line.count (length cells))
      (lt-ltb line.first (length cells) fits.0) (lt-ltb line.count (length cells) less)

  pub no_room : length cells ≤ line.count → has_room (length cells) line ≡ false
  no_room all = and_right (ltb line.first (length cells)) (ltb line.count (length cells)) (le-ltb line.count (length cells) all)

  pub some-wait : 0 < line.count → some_wait (length cells) line ≡ true
  some-wait some =
      and_from (ltb line.first (length cells)) (leb line.count (length cells) && ltb 0 line.count)
      (lt-ltb line.first (length cells) fits.0)
      (and_from (leb line.count (length cells)) (ltb 0 line.count) (le-leb line.count (length cells) fits.1) (lt-ltb 0 line.count some))

  pub none-wait : line.count ≤ 0 → some_wait (length cells) line ≡ false
  none-wait none =
      and_right (ltb line.first (length cells)) (leb line.count (length cells) && ltb 0 line.count)
      (and_right (leb line.count (length cells)) (ltb 0 line.count) (le-ltb 0 line.count none))

  -- one more
  pub longer_means : (value : X) → line.count < length cells →
      Longer cells (set cells (end_place (length cells) line) value) line (longer line) value
  longer_means value less =
      let same = length-set cells (end_place (length cells) line) value in
      record {
        room = less;
        order = push_waits cells line.first fits.0 line.count value less;
        fits = (omega arith, omega arith);
        cells = same;
      }

  -- one less
  next-within : place_after (length cells) line.first 1 < length cells
  next-within =
      elim (cases_lt 1 (length cells - line.first)) [
        | inl before ↦ rw (lt-ltb 1 (length cells - line.first) before) (omega arith)
        | inr round ↦ rw (le-ltb 1 (length cells - line.first) round) (omega arith)
      ]

  pub shorter_means : 0 < line.count → Shorter cells line (shorter (length cells) line)
  shorter_means some =
      let whole : suc (line.count - 1) ≡ line.count = omega arith in
      let few : line.count - 1 ≤ length cells = omega arith in
      record {
        some = some;
        order = drop-waits cells line.first fits.0 (line.count - 1) few ∙ ap (λ n. tail_of (waiting cells line.first n)) whole;
        fits = (next-within, few);
      }

-- what a push answers
pub push_means : {X : Type 0} (cells after : List X) (line : Line) (value : X) (r : Option Line) →
    r ≡ pushed_line (length cells) line → after ≡ pushed_cells cells line value → Fits cells line → PushMeans cells after line value r
push_means cells after line value r answer written fits =
    elim (cases_lt line.count (length cells)) [
      | inl less ↦ let has = room cells line fits less in rw (answer, written, has) (longer_means cells line fits value less)
      | inr all ↦ let has = no_room cells line fits all in rw (answer, written, has) (record { full = omega arith; cells = refl })
    ]

-- and a drop
pub drop_means : {X : Type 0} (cells : List X) (line : Line) (r : Option Line) →
    r ≡ dropped_line (length cells) line → Fits cells line → DropMeans cells line r
drop_means cells line r answer fits =
    elim (cases_lt 0 line.count) [
      | inl some ↦ let has = some-wait cells line fits some in rw (answer, has) (shorter_means cells line fits some)
      | inr none ↦ let has = none-wait cells line fits none in rw (answer, has) (omega arith)
    ]

-- a line in which something waits fits
pub some_fits : {X : Type 0} (cells : List X) (line : Line) → some_wait (length cells) line ≡ true → Fits cells line × (0 < line.count)
some_fits cells line some =
    let begins = and_parts (ltb line.first (length cells)) (leb line.count (length cells) && ltb 0 line.count) some in
    let rest = and_parts (leb line.count (length cells)) (ltb 0 line.count) begins.1 in
    ((ltb-true line.first (length cells) begins.0, leb-true line.count (length cells) rest.0), ltb-true 0 line.count rest.1)
