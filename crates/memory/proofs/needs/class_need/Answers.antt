use Rattle.std.proofs.Common.{inl, inr, rules}
use Rattle.std.proofs.lemmas.Bool.{cases_lt}
use Rattle.memory.proofs.needs.class_need.Goals as goal

pub returns-clause-value : goal.returns-clause-value
returns-clause-value c =
    elim (cases_lt c.args.class 8) [
      | inl low ↦ search (rules, low)
      | inr high ↦
          let none = c.of_class-asked.ensures.none high in
          elim c.else-asked-eq0.either [
            | inl w ↦ absurd (w.1 none.1)
            | inr w ↦ search (rules, none, w)
          ]
    ]
