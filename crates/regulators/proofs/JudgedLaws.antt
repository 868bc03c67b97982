-- What is judged one after the other, whatever the test. Assumes nothing.
use Rattle.std.proofs.Common.{◌≡◌, ℕ, Bool, true, false, List, [], ◌∷◌, ◌++◌, map, refl, sym, ap, ◌∙◌, subst, inl, inr}
use Rattle.std.specs.List.{AllByRecursion as Each}
use Rattle.std.proofs.lemmas.List.{append_assoc, append-nil}
use Rattle.std.proofs.lemmas.Bool.{cases_Bool}
use Rattle.lines.specs.declared.packet.Packet.{Packet}
use Rattle.levels.specs.Levels.{LevelModel}
use Rattle.gates.specs.Gates.{opened}
use Rattle.gates.specs.Laws.{Regulates}
use Rattle.gates.proofs.GateLaws.{gate_laws}
use Rattle.regulators.specs.declared.coming.Coming.{Coming}
use Rattle.regulators.specs.Judged.{Judged, refusing, judged, GateTick, gate_tick}
use Rattle.regulators.specs.Ticked.{judged_behind}
use Rattle.regulators.specs.Laws.{Parts, nobody, these, those, packets_of, TickDoes, Later}

pub each-append : (P : Packet → Type 0) (ps qs : List Packet) → Each P ps → Each P qs → Each P (ps ++ qs)
each-append P [] qs hold also = also
each-append P (p ∷ ps) qs hold also = (hold.0, each-append P ps qs hold.1 also)

module _ (accepts : List Packet → Packet → Bool) where
  -- who comes after others is judged behind these
  pub judged-append : (before after : List Coming) (ws : List Packet) →
      judged accepts ws (before ++ after) ≡ judged_behind (judged accepts ws before).refused (judged accepts (judged accepts ws before).waits after)
  unfolding judged
  judged-append [] after ws = refl
  judged-append (c ∷ before) after ws =
      elim (cases_Bool (accepts ws c.packet)) [
        | inl taken ↦ rw taken (judged-append before after (ws ++ c.packet ∷ []))
        | inr refused ↦ rw refused (ap (refusing c.number) (judged-append before after ws))
      ]

  -- what holds of all who waited and of all who come holds of all who wait then
  pub judged_each : (P : Packet → Type 0) (coming : List Coming) (ws : List Packet) → Each P ws → Each P (packets_of coming) →
      Each P (judged accepts ws coming).waits
  unfolding judged
  judged_each P [] ws waiting comes = waiting
  judged_each P (c ∷ coming) ws waiting comes =
      elim (cases_Bool (accepts ws c.packet)) [
        | inl taken ↦ rw taken (judged_each P coming (ws ++ c.packet ∷ []) (each-append P ws (c.packet ∷ []) waiting (comes.0, tt)) comes.1)
        | inr refused ↦ rw refused (judged_each P coming ws waiting comes.1)
      ]

  -- where nobody is refused all who come wait behind the others
  pub all_accepted : (coming : List Coming) (ws : List Packet) → (judged accepts ws coming).refused ≡ [] →
      judged accepts ws coming ≡ record { waits = ws ++ packets_of coming; refused = [] }
  unfolding judged
  all_accepted [] ws none = ap (λ (xs : List Packet). let j : Judged = record { waits = xs; refused = [] } in j) (sym (append-nil ws))
  all_accepted (c ∷ coming) ws none =
      elim (cases_Bool (accepts ws c.packet)) [
        | inl taken ↦
            let rest = all_accepted coming (ws ++ c.packet ∷ []) (rw taken at none) in
            rw taken (rest
            ∙ ap (λ (xs : List Packet). let j : Judged = record { waits = xs; refused = [] } in j) (append_assoc ws (c.packet ∷ []) (packets_of coming)))
        | inr refused ↦ let some : c.number ∷ (judged accepts ws coming).refused ≡ [] = rw refused at none in cc
      ]

  pub one_accepted : (ws : List Packet) (c : Coming) → accepts ws c.packet ≡ true →
      judged accepts ws (c ∷ []) ≡ record { waits = ws ++ c.packet ∷ []; refused = [] }
  unfolding judged
  one_accepted ws c taken = rw taken refl

  pub one_refused : (ws : List Packet) (c : Coming) → accepts ws c.packet ≡ false →
      judged accepts ws (c ∷ []) ≡ record { waits = ws; refused = c.number ∷ [] }
  unfolding judged
  one_refused ws c refused = rw refused refl

  -- what becomes of those who come
  pub record Judges (ws : List Packet) (coming : List Coming) (j : Judged) : Type 0 where
    pub accepted : List Coming
    pub others : List Coming
    pub parts : Parts coming accepted others
    pub order : j.waits ≡ ws ++ packets_of accepted
    pub numbers : j.refused ≡ map (λ c. c.number) others
    pub alone : judged accepts ws accepted ≡ record { waits = j.waits; refused = [] }

  pub judges : (coming : List Coming) (ws : List Packet) → Judges ws coming (judged accepts ws coming)
  unfolding judged
  judges [] ws = record { accepted = []; others = []; parts = nobody; order = sym (append-nil ws); numbers = refl; alone = refl }
  judges (c ∷ coming) ws =
      elim (cases_Bool (accepts ws c.packet)) [
        | inl taken ↦
            let rest = judges coming (ws ++ c.packet ∷ []) in
            rw taken (record {
              accepted = c ∷ rest.accepted;
              others = rest.others;
              parts = these c rest.parts;
              order = rest.order ∙ append_assoc ws (c.packet ∷ []) (packets_of rest.accepted);
              numbers = rest.numbers;
              alone = rw taken rest.alone;
            })
        | inr refused ↦
            let rest = judges coming ws in
            rw refused (record {
              accepted = rest.accepted;
              others = c ∷ rest.others;
              parts = those c rest.parts;
              order = rest.order;
              numbers = ap (λ ns. c.number ∷ ns) rest.numbers;
              alone = rest.alone;
            })
      ]

  module _ (room : ℕ) (at_edge : Bool) (classes : List ℕ) (tick : ℕ) (ws : List Packet) (levels : List LevelModel) (ls : List (List Packet)) where
    abbrev tick_of : List Coming → GateTick
    tick_of = gate_tick accepts room at_edge classes tick ws levels ls

    abbrev then_opened : Judged → GateTick
    then_opened j = record { refused = j.refused; opened = opened room at_edge classes tick j.waits levels ls }

    pub tick_does : (coming : List Coming) → TickDoes tick_of room at_edge classes tick ws levels ls coming
    tick_does coming =
        let j = judges coming ws in
        record {
          accepted = j.accepted;
          others = j.others;
          parts = j.parts;
          numbers = j.numbers;
          regulates =
              subst (λ xs. Regulates room at_edge classes tick xs levels ls (tick_of coming).opened) j.order
              (gate_laws.regulates room at_edge classes tick (judged accepts ws coming).waits levels ls);
          alone = ap then_opened j.alone;
        }

    pub tick-all : (coming : List Coming) → (judged accepts ws coming).refused ≡ [] →
        tick_of coming ≡ record { refused = []; opened = opened room at_edge classes tick (ws ++ packets_of coming) levels ls }
    tick-all coming none = ap then_opened (all_accepted coming ws none)

    pub tick_later : Later tick_of
    tick_later before after =
        ((judged accepts (judged accepts ws before).waits after).refused, ap (λ (j : Judged). j.refused) (judged-append before after ws))

    -- one more that is refused, and one that is accepted
    pub last-refused : (before : List Coming) (c : Coming) → accepts (judged accepts ws before).waits c.packet ≡ false →
        tick_of (before ++ c ∷ []) ≡ record { refused = (tick_of before).refused ++ c.number ∷ []; opened = (tick_of before).opened }
    last-refused before c refused =
        ap then_opened (judged-append before (c ∷ []) ws)
        ∙ ap (λ (j : Judged). then_opened (judged_behind (judged accepts ws before).refused j)) (one_refused (judged accepts ws before).waits c refused)

    pub last-accepted : (before : List Coming) (c : Coming) → accepts (judged accepts ws before).waits c.packet ≡ true →
        tick_of (before ++ c ∷ []) ≡
        record { refused = (tick_of before).refused; opened = opened room at_edge classes tick ((judged accepts ws before).waits ++ c.packet ∷ []) levels ls }
    last-accepted before c taken =
        ap then_opened (judged-append before (c ∷ []) ws)
        ∙ ap (λ (j : Judged). then_opened (judged_behind (judged accepts ws before).refused j)) (one_accepted (judged accepts ws before).waits c taken)
        ∙ ap
        (λ (rs : List ℕ). let u : GateTick = record { refused = rs; opened = opened room at_edge classes tick ((judged accepts ws before).waits ++ c.packet ∷ []) levels ls } in u)
        (append-nil (judged accepts ws before).refused)
