-- Laws of lines: nothing that waits is lost, doubled or reordered. Assumes nothing.
use Rattle.std.specs.Prelude.{◌≡◌, ℕ, ◌+◌, ◌-◌, ◌≤◌, cond, List, [], ◌∷◌, ◌++◌, map, length, drop, replicate, Some, None, Option}
use Rattle.std.specs.Option.{unwrap_or}
use Rattle.lines.specs.declared.line.Line.{Line}
use Rattle.lines.specs.Lines.{waits, Fits, empty_line, has_room, pushed_line, pushed_cells, first_waiting, dropped_line}

-- a line and its cells
pub record Queue (X : Type 0) : Type 0 where
  pub cells : List X
  pub line : Line

abbrev pub queued : {X : Type 0} → Queue X → List X
queued q = waits q.cells q.line

abbrev pub Sound : {X : Type 0} → Queue X → Type 0
Sound q = Fits q.cells q.line

-- one comes, or the first goes
pub data Step (X : Type 0) : Type 0 where
  comes : X → Step X
  goes : Step X

-- what is refused changes nothing
abbrev pub after : {X : Type 0} → Queue X → Step X → Queue X
after q (comes value) =
    record {
      cells = pushed_cells q.cells q.line value;
      line = unwrap_or (pushed_line (length q.cells) q.line) q.line;
    }
after q goes = record { cells = q.cells; line = unwrap_or (dropped_line (length q.cells) q.line) q.line }

-- who was let in by a step, and who left by it
abbrev pub entered : {X : Type 0} → Queue X → Step X → List X
entered q (comes value) = cond (has_room (length q.cells) q.line) (value ∷ []) []
entered q goes = []

abbrev pub as_list : {X : Type 0} → Option X → List X
as_list None = []
as_list (Some x) = x ∷ []

abbrev pub left : {X : Type 0} → Queue X → Step X → List X
left q (comes value) = []
left q goes = as_list (first_waiting q.cells q.line)

-- and by a row of steps
abbrev pub after_all : {X : Type 0} → Queue X → List (Step X) → Queue X
after_all q [] = q
after_all q (step ∷ steps) = after_all (after q step) steps

abbrev pub all_entered : {X : Type 0} → Queue X → List (Step X) → List X
all_entered q [] = []
all_entered q (step ∷ steps) = entered q step ++ all_entered (after q step) steps

abbrev pub all_left : {X : Type 0} → Queue X → List (Step X) → List X
all_left q [] = []
all_left q (step ∷ steps) = left q step ++ all_left (after q step) steps

-- those who left, and then those who wait, are those who waited, and then those who were let in
abbrev pub NothingLost : Type 0 → Type 0
NothingLost X =
    (q : Queue X) (steps : List (Step X)) → Sound q →
    all_left q steps ++ queued (after_all q steps) ≡ queued q ++ all_entered q steps

-- in an empty line nothing waits
abbrev pub EmptyWaits : Type 0 → Type 0
EmptyWaits X = (cells : List X) → waits cells empty_line ≡ []

-- values that come to an empty line wait as they came
abbrev pub AllWait : Type 0 → Type 0
AllWait X =
    (cells values : List X) → length values ≤ length cells →
    queued (after_all (record { cells = cells; line = empty_line }) (map comes values)) ≡ values

-- those who come after some have gone wait after the rest
abbrev pub RestThenNew : Type 0 → Type 0
RestThenNew X =
    (q : Queue X) (gone : ℕ) (values : List X) → Sound q → (q.line.count - gone) + length values ≤ length q.cells →
    queued (after_all q (replicate gone goes ++ map comes values)) ≡ drop gone (queued q) ++ values

-- worked: three come to three cells, one more is refused, one goes, and the next takes its cell
abbrev pub round : Queue ℕ
round =
    after_all (record { cells = 0 ∷ 0 ∷ 0 ∷ []; line = empty_line })
    (comes 11 ∷ comes 12 ∷ comes 13 ∷ comes 14 ∷ goes ∷ comes 15 ∷ [])

abbrev pub RoundWorked : Type 0
RoundWorked = (round.cells ≡ 15 ∷ 12 ∷ 13 ∷ []) × (queued round ≡ 12 ∷ 13 ∷ 15 ∷ [])

-- all of these
pub record LineLaws (X : Type 0) : Type 0 where
  pub lost : NothingLost X
  pub empty : EmptyWaits X
  pub pushes : AllWait X
  pub rest : RestThenNew X
  pub worked : RoundWorked
