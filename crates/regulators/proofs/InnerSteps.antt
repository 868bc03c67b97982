-- A gate inside the net: what comes is judged one after the other, and then it is opened. Assumes nothing.
use Rattle.std.proofs.Common.{◌≡◌, ℕ, ◌+◌, ◌-◌, false, List, [], ◌∷◌, ◌++◌, map, length, drop, sym, ap, ◌∙◌, subst, arith}
use lib.Seq.{drop-append_seam}
use Rattle.std.proofs.lemmas.List.{append_assoc, append-nil, length-append}
use Rattle.lines.specs.declared.counted.Counted.{Counted}
use Rattle.lines.specs.declared.line.Line.{Line}
use Rattle.lines.specs.declared.packet.Packet.{Packet}
use Rattle.lines.specs.Lines.{waits}
use Rattle.lines.specs.Ticks.{ticks_of}
use Rattle.levels.specs.declared.level.Level.{Level}
use Rattle.levels.specs.Models.{level_model}
use Rattle.queues.specs.declared.cell.Cell.{Cell}
use Rattle.queues.specs.declared.queues_of.Queues.{Queues}
use Rattle.gates.specs.Gates.{Opened, opened}
use Rattle.gates.specs.Opens.{Opens}
use Rattle.gates.proofs.GateLaws.{gate_laws}
use Rattle.regulators.specs.declared.coming.Coming.{Coming}
use Rattle.regulators.specs.Judged.{Judged, judged, inner_accepts, inner_tick}
use Rattle.regulators.specs.Ticked.{behind, judged_behind, Ticked, Sound, InnerEnds, Accepted, Refused, LeftOf}
use Rattle.regulators.proofs.WaitLaws.{count_waits, ticks_drop}

module _ (aside : ℕ) (cells after : List Packet) (counted : Counted) (before : List ℕ) (c : Coming) (cs : List Coming) (j : Judged)
    (ends : judged_behind before (judged (inner_accepts aside) (waits cells counted.line) (c ∷ cs)) ≡ j) where
  -- it is put behind
  pub put-ends : (next : Counted) → Accepted aside cells after counted next c.packet → InnerEnds aside after next before cs j
  unfolding judged
  put-ends next accepted =
      record {
        sound = accepted.sound;
        ends =
            ap (λ ws. judged_behind before (judged (inner_accepts aside) ws cs)) accepted.order
            ∙ rw accepted.accepts at ends;
      }

  -- it is refused
  pub refused-ends : (told : List ℕ) → Sound aside cells counted → Refused aside cells after counted c.packet → told ≡ before ++ c.number ∷ [] →
      InnerEnds aside after counted told cs j
  unfolding judged
  refused-ends told sound refused is =
      record {
        sound = subst (λ x. Sound aside x counted) (sym refused.cells) sound;
        ends =
            ap (λ ns. judged_behind ns (judged (inner_accepts aside) (waits after counted.line) cs)) is
            ∙ ap (λ x. judged_behind (before ++ c.number ∷ []) (judged (inner_accepts aside) (waits x counted.line) cs)) refused.cells
            ∙ more before (c.number ∷ []) (judged (inner_accepts aside) (waits cells counted.line) cs)
            ∙ rw refused.refuses at ends;
      }
    where
      more : (ns ms : List ℕ) (k : Judged) → judged_behind (ns ++ ms) k ≡ judged_behind ns (judged_behind ms k)
      more ns ms k = ap (λ (rs : List ℕ). let u : Judged = record { waits = k.waits; refused = rs } in u) (append_assoc ns ms k.refused)

-- a line of which only the last are left is still counted rightly
pub left-sound : (aside : ℕ) (cells : List Packet) (counted left : Counted) (n : ℕ) → Sound aside cells counted → LeftOf cells counted n left →
    Sound aside cells left
left-sound aside cells counted left n sound is =
    let fewer = ticks_drop (counted.line.count - n) (waits cells counted.line) in
    let same : ticks_of (waits cells left.line) ≡ ticks_of (drop (counted.line.count - n) (waits cells counted.line)) = ap ticks_of is.order in
    let here : left.ticks ≡ ticks_of (waits cells left.line) = is.counts in
    let there : counted.ticks ≡ ticks_of (waits cells counted.line) = sound.counts in
    record { fits = is.fits; counts = is.counts; many = sound.many; kept = omega (arith, sound.kept) }

-- what is left of the line is what still waits when the gate has been opened
pub inner-end : (aside room : ℕ) (classes : List ℕ) (tick : ℕ) (cells : List Packet) (counted left : Counted) (line : Line) (refused : List ℕ)
    (before : List ℕ) (ws : List Packet) (cs : List Coming) (levels : List Level) (ls : List (List Packet))
    (less : List Level) (queues : Queues) (memory : List Cell) →
    InnerEnds aside cells counted refused [] (judged_behind before (judged (inner_accepts aside) ws cs)) →
    Opens cells line less queues memory (opened room false classes tick (waits cells counted.line) (map level_model levels) ls) →
    LeftOf cells counted line.count left →
    Ticked cells left.line less queues memory refused (behind before (inner_tick aside room classes tick ws (map level_model levels) ls cs))
unfolding judged
inner-end aside room classes tick cells counted left line refused before ws cs levels ls less queues memory ends opens is =
    let does = gate_laws.regulates room false classes tick (waits cells counted.line) (map level_model levels) ls in
    let o : Opened = opened room false classes tick (waits cells counted.line) (map level_model levels) ls in
    let after : waits cells counted.line ≡ (judged (inner_accepts aside) ws cs).waits = ap (λ (j : Judged). j.waits) ends.ends in
    let told : refused ++ [] ≡ before ++ (judged (inner_accepts aside) ws cs).refused = ap (λ (j : Judged). j.refused) ends.ends in
    let all : length does.passed + length o.waits ≡ length (waits cells counted.line) = sym (length-append does.passed o.waits) ∙ ap length does.order in
    let rest : line.count ≡ length o.waits = sym (count_waits cells line opens.fits) ∙ ap length opens.left in
    let whole : length (waits cells counted.line) ≡ counted.line.count = count_waits cells counted.line ends.sound.fits in
    let gone : counted.line.count - line.count ≡ length does.passed = omega arith in
    let left-waits : waits cells left.line ≡ o.waits = is.order ∙ ap (λ n. drop n (waits cells counted.line)) gone
    ∙ ap (drop (length does.passed)) (sym does.order) ∙ drop-append_seam does.passed o.waits in
    record {
      opens = subst (λ xs. Opens cells left.line less queues memory (opened room false classes tick xs (map level_model levels) ls)) after
          (record { left = left-waits; fits = is.fits; spent = opens.spent; held = opens.held });
      numbers = sym (append-nil refused) ∙ told;
    }
