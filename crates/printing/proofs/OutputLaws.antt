-- What is printed, record by record and line by line. Assumes nothing.
use Rattle.std.proofs.Common.{◌≡◌, ℕ, List, ◌∷◌, ◌++◌, ◌+◌, ◌<◌, ◌≤◌, length, get_or, drop, add-zero, Some, None, codes, Option, sym, ap, ◌∙◌, append_assoc, append-nil, MatchOption}
use Rattle.std.proofs.lemmas.List.{at_drop_more, at_drop_all, drop-drop, get_or-drop}
use Rattle.record_bytes.specs.Row.{Extent, finished, found, next_record, row}
use Rattle.record_bytes.proofs.Row.{row_next, row_end}
use Rattle.admission.specs.Plans.{PlanModel}
use Rattle.script.specs.declared.line.Line.{Line}
use Rattle.printing.specs.declared.printout.Printout.{Printout}
use Rattle.script.specs.Lines.{port_text, ports_text}
use Rattle.script.specs.Session.{Standing, Done, step, after_all, closing}
use Rattle.printing.specs.Output.{printed, printed_if_said, printed_all, output_from}
use Rattle.printing.specs.Parts.{to_come, still_to_come}

module _ (plan : PlanModel) (text after whole : List ℕ) where
  -- the line of a record is printed, if it has one
  pub print_next : (s : Standing) (done : Done) (bs rest : List ℕ) (e : Extent) → found e rest ≡ next_record bs → done ≡ step s e →
      after ≡ text ++ printed_if_said plan done.0 → text ++ output_from plan s (row bs) ≡ whole → after ++ output_from plan done.1 (row rest) ≡ whole
  unfolding output_from
  print_next s done bs rest e is stepped added all =
      let head : output_from plan s (row bs) ≡ printed_if_said plan (step s e).0 ++ output_from plan (step s e).1 (row rest) = ap (output_from plan s) (row_next bs rest e is) in
      ap (λ xs. xs ++ output_from plan done.1 (row rest)) added
      ∙ append_assoc text (printed_if_said plan done.0) (output_from plan done.1 (row rest))
      ∙ ap (λ (d : Done). text ++ (printed_if_said plan d.0 ++ output_from plan d.1 (row rest))) stepped
      ∙ ap (λ xs. text ++ xs) (sym head) ∙ all

  -- all records are taken, and what is said at the end is printed
  pub print_end : (s : Standing) (bs : List ℕ) (said : List Line) → finished ≡ next_record bs → said ≡ closing s →
      after ≡ text ++ printed_all plan said → text ++ output_from plan s (row bs) ≡ whole → after ≡ whole
  unfolding output_from
  print_end s bs said none is added all =
      added ∙ ap (λ ls. text ++ printed_all plan ls) is ∙ ap (λ xs. text ++ xs) (sym (ap (output_from plan s) (row_end bs none))) ∙ all

  -- one line of a list is printed
  pub print_line : (l : Line) (ls : List Line) → after ≡ text ++ printed plan l → text ++ printed_all plan (l ∷ ls) ≡ whole → after ++ printed_all plan ls ≡ whole
  unfolding printed_all
  print_line l ls added all = ap (λ xs. xs ++ printed_all plan ls) added ∙ append_assoc text (printed plan l) (printed_all plan ls) ∙ all

-- a part and what comes after it
pub told_on : (text : List ℕ) (rest : Option Printout) (whole : List ℕ) →
    MatchOption rest (text ≡ whole) (λ p. text ++ to_come p ≡ whole) → text ++ still_to_come rest ≡ whole
told_on text None whole all = append-nil text ∙ all
told_on text (Some p) whole all = all

-- after what was said before, a part and what comes after it
pub told_after : (said text : List ℕ) (before rest : Option Printout) (p : Printout) (whole : List ℕ) → before ≡ Some p →
    MatchOption rest (text ≡ to_come p) (λ q. text ++ to_come q ≡ to_come p) → said ++ still_to_come before ≡ whole → said ++ (text ++ still_to_come rest) ≡ whole
told_after said text before rest p whole is told all =
    ap (λ xs. said ++ xs) (told_on text rest (to_come p) told) ∙ ap (λ o. said ++ still_to_come o) (sym is) ∙ all

-- one record after the other
pub all_next : (s : Standing) (done : Done) (bs rest : List ℕ) (e : Extent) (whole : Standing) → found e rest ≡ next_record bs →
    done ≡ step s e → after_all s (row bs) ≡ whole → after_all done.1 (row rest) ≡ whole
unfolding after_all
all_next s done bs rest e whole is stepped all =
    let head : after_all s (row bs) ≡ after_all (step s e).1 (row rest) = ap (after_all s) (row_next bs rest e is) in
    ap (λ (d : Done). after_all d.1 (row rest)) stepped ∙ sym head ∙ all

pub all_end : (s : Standing) (bs : List ℕ) (whole : Standing) → finished ≡ next_record bs → after_all s (row bs) ≡ whole → s ≡ whole
unfolding after_all
all_end s bs whole is all = sym (ap (after_all s) (row_end bs is)) ∙ all

-- the dues of one port more
module _ (text after whole separator road ticks : List ℕ) where
  pub print_port : (i port due : ℕ) → i < length road → port ≡ get_or road i 0 → due ≡ get_or ticks i 0 →
      after ≡ text ++ port_text separator port due → text ++ ports_text separator (drop i road) (drop i ticks) ≡ whole →
      after ++ ports_text (codes ",") (drop (i + 1) road) (drop (i + 1) ticks) ≡ whole
  unfolding ports_text
  print_port i port due within of_road of_ticks added all =
      let rest = ports_text (codes ",") (drop (i + 1) road) (drop (i + 1) ticks) in
      let one : after ≡ text ++ port_text separator (get_or road i 0) (get_or (drop i ticks) 0 0) =
      added ∙ ap (λ p. text ++ port_text separator p due) of_road
      ∙ ap (λ d. text ++ port_text separator (get_or road i 0) d) (of_ticks ∙ sym (get_or-drop i ticks 0 0 ∙ ap (λ k. get_or ticks k 0) (add-zero i))) in
      let next = at_drop_more (λ ps. text ++ ports_text separator ps (drop i ticks)) road i 0 within in
      rw one (append_assoc text (port_text separator (get_or road i 0) (get_or (drop i ticks) 0 0)) rest ∙ rw (← (drop-drop 1 i ticks)) (sym next ∙ all))

-- the dues of all ports are printed
pub ports_end : (text whole separator road ticks : List ℕ) (n : ℕ) → length road ≤ n → text ++ ports_text separator (drop n road) (drop n ticks) ≡ whole → text ≡ whole
unfolding ports_text
ports_end text whole separator road ticks n all is = sym (append-nil text) ∙ sym (at_drop_all (λ ps. text ++ ports_text separator ps (drop n ticks)) road n all) ∙ is
