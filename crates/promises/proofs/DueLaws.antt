-- Dues along a road, port by port. Assumes nothing.
use Rattle.std.proofs.Common.{◌≡◌, ℕ, ◌+◌, ◌<◌, ◌≤◌, List, [], ◌∷◌, ◌++◌, length, get_or, take, drop, set, Some, None, Option, sym, refl, ap, ◌∙◌, append_assoc, arith}
use Rattle.std.proofs.lemmas.List.{take_more_set, append-nil, at_drop_more, at_drop_all}
use Rattle.flows.specs.Net.{NetModel, port_at}
use Rattle.promises.specs.Loads.{LoadModel, loads_promise, behind_due, loads_dues}

-- what was found before, and then the rest
abbrev pub after : List ℕ → Option (List ℕ) → Option (List ℕ)
after done None = None
after done (Some ds) = Some (done ++ ds)

after-behind : (done : List ℕ) (d : ℕ) (o : Option (List ℕ)) → after done (behind_due d o) ≡ after (done ++ d ∷ []) o
after-behind done d None = refl
after-behind done d (Some ds) = ap (λ xs. Some xs) (sym (append_assoc done (d ∷ []) ds))

module _ (net : NetModel) (ts : List LoadModel) (c t i : ℕ) (table road : List ℕ) (whole : Option (List ℕ)) where
  -- i dues are in the table, and t ticks are due before the port at i
  abbrev pub Adds : Type 0
  Adds = after (take i table) (loads_dues net ts c t (drop i road)) ≡ whole

  pub adds_on : (d : ℕ) → i < length road → i < length table → Some d ≡ loads_promise ts (get_or road i 0) c → Adds →
      after (take (i + 1) (set table i (t + d))) (loads_dues net ts c (t + d + (port_at net (get_or road i 0)).wire) (drop (i + 1) road)) ≡ whole
  unfolding loads_dues
  adds_on d more room is adds =
      let p = get_or road i 0 in
      let rest = loads_dues net ts c (t + d + (port_at net p).wire) (drop (i + 1) road) in
      let split = at_drop_more (λ ps. after (take i table) (loads_dues net ts c t ps)) road i 0 more in
      let step : loads_dues net ts c t (p ∷ drop (i + 1) road) ≡ behind_due (t + d) rest = rw (← is, loads_dues) refl in
      ap (λ xs. after xs rest) (take_more_set table i (t + d) room)
      ∙ sym (after-behind (take i table) (t + d) rest)
      ∙ sym (ap (after (take i table)) step)
      ∙ sym split ∙ adds

  pub adds_none : i < length road → None ≡ loads_promise ts (get_or road i 0) c → Adds → None ≡ whole
  unfolding loads_dues
  adds_none more is adds =
      let p = get_or road i 0 in
      let split = at_drop_more (λ ps. after (take i table) (loads_dues net ts c t ps)) road i 0 more in
      let step : loads_dues net ts c t (p ∷ drop (i + 1) road) ≡ None = rw (← is, loads_dues) refl in
      sym (ap (after (take i table)) step) ∙ sym split ∙ adds

  pub adds_end : length road ≤ i → i ≤ length road → Adds → Some (take (length road) table) ≡ whole
  unfolding loads_dues
  adds_end all most adds =
      let same : length road ≡ i = omega arith in
      let end = at_drop_all (λ ps. after (take i table) (loads_dues net ts c t ps)) road i all in
      ap (λ n. Some (take n table)) same ∙ ap (λ xs. Some xs) (sym (append-nil (take i table))) ∙ sym end ∙ adds
