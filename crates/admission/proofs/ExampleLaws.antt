-- The worked examples compute to what they are. Assumes nothing.
use Rattle.std.proofs.Common.{List, [], ◌∷◌, ◌++◌, refl}
use Rattle.flows.specs.FlowFormat.{passes}
use Rattle.promises.specs.Promises.{bursts, before, long, due_over, goes, windowed}
use Rattle.promises.specs.Examples.{Row, examples, Hold}
use Rattle.promises.proofs.PromiseLaws.{worked-examples}
use Rattle.memory.specs.Plans.{class_plan, regulator_plan, switch_plan}
use Rattle.admission.specs.Lowest.{lowest}
use Rattle.admission.specs.Rules.{first_late_of}
use Rattle.admission.specs.Examples.{fitting, too_much, too_late, too_short, in_order, WorkedTable}

hold_both : (rs ss : List Row) → Hold rs → Hold ss → Hold (rs ++ ss)
hold_both [] ss a b = b
hold_both (r ∷ rs) ss a b = (a.0, hold_both rs ss a.1 b)

fits : Hold fitting
unfolding passes bursts before long due_over goes windowed class_plan regulator_plan switch_plan lowest first_late_of
fits = (refl, (refl, (refl, (refl, (refl, tt)))))

too_much_lem : Hold too_much
unfolding passes bursts before long due_over goes windowed class_plan regulator_plan switch_plan lowest first_late_of
too_much_lem = (refl, (refl, (refl, (refl, (refl, tt)))))

too_late_lem : Hold too_late
unfolding passes bursts before long due_over goes windowed class_plan regulator_plan switch_plan lowest first_late_of
too_late_lem = (refl, (refl, (refl, (refl, (refl, (refl, tt))))))

too_short_lem : Hold too_short
unfolding passes bursts before long due_over goes windowed class_plan regulator_plan switch_plan lowest first_late_of
too_short_lem = (refl, (refl, (refl, (refl, tt))))

in_order_lem : Hold in_order
unfolding passes bursts before long due_over goes windowed class_plan regulator_plan switch_plan lowest first_late_of
in_order_lem = (refl, (refl, (refl, (refl, tt))))

pub worked-table : WorkedTable
worked-table =
    let from-short = hold_both too_short in_order too_short_lem in_order_lem in
    let from-late = hold_both too_late (too_short ++ in_order) too_late_lem from-short in
    let from-much = hold_both too_much (too_late ++ too_short ++ in_order) too_much_lem from-late in
    let from-fitting = hold_both fitting (too_much ++ too_late ++ too_short ++ in_order) fits from-much in
    hold_both examples (fitting ++ too_much ++ too_late ++ too_short ++ in_order) worked-examples from-fitting
