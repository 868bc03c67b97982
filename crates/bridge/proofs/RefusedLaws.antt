-- Inside nobody is refused who comes as promised. Assumes nothing.
use Rattle.std.proofs.Common.{◌≡◌, ℕ, zero, suc, ◌+◌, ◌<◌, ◌≤◌, List, [], ◌∷◌, ◌++◌, map, length, get_or, refl, sym, ap, ◌∙◌, subst, arith}
use Rattle.std.proofs.ByRecursion.{All-get_or, All-weaker}
use Rattle.std.proofs.lemmas.List.{length-map}
use Rattle.std.specs.List.{AllByRecursion as Each}
use Rattle.lines.specs.declared.packet.Packet.{Packet}
use Rattle.lines.specs.Ticks.{ticks_of}
use Rattle.queues.specs.Lines.{ticks_of as queue_ticks}
use Rattle.levels.specs.Levels.{LevelModel}
use Rattle.regulators.specs.declared.coming.Coming.{Coming}
use Rattle.regulators.specs.Judged.{GateTick}
use Rattle.regulators.specs.Laws.{packets_of, Long}
use Rattle.regulators.proofs.InnerExactLaws.{inner_laws, ticks-append}
use Rattle.egress.specs.Egress.{GateModel, no_gate as no_model, gate_at, put_rows, come_phase}
use Rattle.egress.specs.Plays.{Belongs, Plays, left, came, comes}
use Rattle.egress.proofs.ApartLaws.{come-by-row}
use Rattle.egress.proofs.GoesLaws.{Kind, goes_on}
use Rattle.egress.proofs.PlaceLaws.{each-apart}
use Rattle.egress.proofs.WindowLaws.{regulator-kept}
use Rattle.bridge.specs.Ports.{Stand, inside, is_edge, GateState, tick_at}
use Rattle.bridge.specs.Runs.{gate_model, egress_of}
use Rattle.bridge.specs.Laws.{no_gate, all_rows, all_come, NobodyRefused}

same_ticks : (ps : List Packet) → queue_ticks ps ≡ ticks_of ps
unfolding queue_ticks
same_ticks [] = refl
same_ticks (p ∷ ps) = ap (λ n. p.length + n) (same_ticks ps)

-- who waits at a regulator when all have come
put_at : (gates : List GateState) (k : ℕ) → k < length gates →
    get_or (put_rows (all_rows gates) (map gate_model gates)) k no_model ≡
    record { at_edge = is_edge (get_or gates k no_gate).stand; waits = (get_or gates k no_gate).waits ++ packets_of (get_or gates k no_gate).coming }
unfolding put_rows
put_at [] k within = absurd (omega arith)
put_at (g ∷ gates) zero within = refl
put_at (g ∷ gates) (suc k) within = put_at gates k (omega arith)

none_refused : (room : ℕ) (classes : List ℕ) (tick from class aside : ℕ) (stand : Stand) (ws : List Packet) (coming : List Coming) (levels : List LevelModel) (ls : List (List Packet)) →
    stand ≡ inside from class aside → Long ws → Long (packets_of coming) → ticks_of ws + ticks_of (packets_of coming) ≤ aside →
    (tick_at room classes tick stand ws levels ls coming).refused ≡ []
none_refused room classes tick from class aside stand ws coming levels ls is long also fits =
    rw is (ap (λ (t : GateTick). t.refused) ((inner_laws.exact aside room classes tick ws levels ls).nobody coming long also fits))

pub nobody_refused : NobodyRefused
nobody_refused a tick s plays some to k from class aside wire sent levels queues enough within stands need promised =
    let e = come_phase (all_come s) (egress_of tick s) in
    let all : Plays a came e = comes (all_come s) plays some in
    let g = get_or s.gates k no_gate in
    let legal = goes_on a came e enough all in
    let rows = come-by-row (all_rows s.gates) (map gate_model s.gates) in
    let here : gate_at e.gates k ≡ record { at_edge = is_edge g.stand; waits = g.waits ++ packets_of g.coming } =
    ap (λ gs. gate_at gs k) rows ∙ put_at s.gates k within in
    let many : length a.edges ≡ length s.gates =
    sym (ap length (goes_on a left (egress_of tick s) enough plays).edges)
    ∙ length-map (map gate_model s.gates) (λ (x : GateModel). x.at_edge) ∙ length-map s.gates gate_model in
    let as_many : length a.edges ≡ length e.gates = sym (ap length legal.edges) ∙ length-map e.gates (λ (x : GateModel). x.at_edge) in
    let belong : Each (Belongs a (is_edge g.stand)) (g.waits ++ packets_of g.coming) =
    subst (Kind a) here (All-get_or (Kind a) e.gates k no_model (omega (arith, many, as_many, within)) legal.belong) in
    let long = each-apart (λ p. 1 ≤ p.length) g.waits (packets_of g.coming)
    (All-weaker (Belongs a (is_edge g.stand)) (λ p. 1 ≤ p.length) (λ p fits. fits.0.some) (g.waits ++ packets_of g.coming) belong) in
    let kept = regulator-kept a came e all to k from class wire sent enough (omega (arith, many, within)) promised.directed promised.here promised.before promised.late in
    let ticks : queue_ticks (gate_at e.gates k).waits ≡ ticks_of g.waits + ticks_of (packets_of g.coming) =
    ap (λ (x : GateModel). queue_ticks x.waits) here ∙ same_ticks (g.waits ++ packets_of g.coming) ∙ ticks-append g.waits (packets_of g.coming) in
    none_refused a.room a.classes tick from class aside g.stand g.waits g.coming levels queues stands long.0 long.1 (omega (arith, kept, ticks, need))
