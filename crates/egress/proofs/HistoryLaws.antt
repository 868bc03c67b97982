-- What passes of a flow is regular, and who waits could not pass. Assumes nothing.
use Rattle.std.proofs.Common.{◌≡◌, ℕ, zero, suc, ◌+◌, ◌<◌, Bool, true, false, eqb, List, [], ◌∷◌, ◌++◌, map, length, get_or, Some, None, Option, sym, refl, ap, ◌∙◌, subst, inl, inr, arith}
use Rattle.std.specs.List.{AllByRecursion as Each}
use Rattle.std.proofs.lemmas.List.{get_or-map, length-map, length-set, append_assoc, append-nil, append_cancel_right}
use Rattle.std.proofs.lemmas.Bool.{cases_Bool}
use Rattle.lines.specs.declared.packet.Packet.{Packet}
use Rattle.lines.specs.Lines.{head_of}
use Rattle.levels.specs.Levels.{LevelModel, full_level, may_pass}
use Rattle.levels.specs.Regular.{Pass, NotBefore, Regular}
use Rattle.levels.proofs.RowLaws.{regular-none}
use Rattle.levels.proofs.LevelLaws.{rows_are_levels}
use Rattle.gates.specs.Gates.{no_level, level_of, marked, may_go, queued_by, opened}
use Rattle.gates.specs.Laws.{of_flow, of_class, passing, Regulates, RegularFlow, queued_by_all}
use Rattle.gates.proofs.GateLaws.{gate_laws, gate_regulates, gate_behind}
use Rattle.port.specs.Port.{flow_at, no_flow}
use Rattle.machine.specs.declared.sending.Sending.{Sending}
use Rattle.machine.specs.Joint.{MachineModel}
use Rattle.machine.specs.Runs.{Fitting, after_open, after_taking}
use Rattle.egress.specs.Egress.{GateModel, gate_at, open_one, open_all, passers, passers_of, all_passers, pass_phase}
use Rattle.egress.specs.Plays.{Setup, Belongs, left, came, passed, took, begins, comes, passes, takes, leaves}
use Rattle.egress.specs.Histories.{in_turn, entering, passed_in}
use Rattle.egress.specs.Laws.{QueuedInTurn, AlwaysRegular, NoLongerThanRows}
use Rattle.egress.proofs.GoesLaws.{Kind, goes_on}
use Rattle.egress.proofs.TickLaws.{same_tick}
use Rattle.egress.proofs.OrderLaws.{pass_before}
use Rattle.egress.proofs.HeldLaws.{nobody_put_off}
use Rattle.egress.proofs.RoomLaws.{listed, by_level}

-- those who pass are those of the laws of a regulator
passers_are : (room : ℕ) (b : Bool) (classes : List ℕ) (tick : ℕ) (ws : List Packet) (levels : List LevelModel) (ls : List (List Packet)) →
    passers room b classes tick ws levels ls ≡ (gate_regulates room b classes tick ws levels ls).passed
passers_are room b classes tick ws levels ls =
    let does : Regulates room b classes tick ws levels ls (opened room b classes tick ws levels ls) = gate_regulates room b classes tick ws levels ls in
    append_cancel_right (passers room b classes tick ws levels ls) does.passed (opened room b classes tick ws levels ls).waits
    (pass_before room classes b tick ws levels ls ∙ sym does.order)

-- in the queues
length-queued : (b : Bool) (classes : List ℕ) (tick : ℕ) (ps : List Packet) (ls : List (List Packet)) → length (queued_by_all b classes tick ps ls) ≡ length ls
unfolding queued_by_all
length-queued b classes tick [] ls = refl
length-queued b classes tick (p ∷ ps) ls = length-queued b classes tick ps (queued_by b classes tick p ls) ∙ simp length-set

turn : (room : ℕ) (classes : List ℕ) (gates : List GateModel) (s : MachineModel) (class : ℕ) → class < length s.queues →
    get_or (open_all room classes gates s).machine.queues class [] ≡ get_or s.queues class [] ++ entering classes class s.tick gates (all_passers room classes gates s)
unfolding open_all all_passers entering
turn room classes [] s class within = sym (append-nil (get_or s.queues class []))
turn room classes (g ∷ gs) s class within =
    let does : Regulates room g.at_edge classes s.tick g.waits s.levels s.queues (open_one room classes g s) = gate_regulates room g.at_edge classes s.tick g.waits s.levels s.queues in
    let row = passers_are room g.at_edge classes s.tick g.waits s.levels s.queues in
    let here : get_or (open_one room classes g s).queues class [] ≡ get_or s.queues class [] ++ map (marked g.at_edge s.tick) (of_class classes class (passers_of room classes g s)) =
    ap (λ qs. get_or qs class []) does.queued
    ∙ gate_behind g.at_edge classes s.tick does.passed s.queues class within
    ∙ ap (λ ps. get_or s.queues class [] ++ map (marked g.at_edge s.tick) (of_class classes class ps)) (sym row) in
    let still : class < length (open_one room classes g s).queues = omega (arith, ap length does.queued, length-queued g.at_edge classes s.tick does.passed s.queues) in
    turn room classes gs (after_open s (open_one room classes g s)) class still
    ∙ ap (λ q. q ++ entering classes class s.tick gs (all_passers room classes gs (after_open s (open_one room classes g s)))) here
    ∙ append_assoc (get_or s.queues class []) (map (marked g.at_edge s.tick) (of_class classes class (passers_of room classes g s)))
    (entering classes class s.tick gs (all_passers room classes gs (after_open s (open_one room classes g s))))

pub queued_in_turn : QueuedInTurn
queued_in_turn room classes e class within = turn room classes e.gates e.machine class within

-- those of a flow among two rows, and a history with both
pub of_both : (flow : ℕ) (xs ys : List Packet) → of_flow flow (xs ++ ys) ≡ of_flow flow xs ++ of_flow flow ys
unfolding of_flow
of_both flow [] ys = refl
of_both flow (x ∷ xs) ys =
    elim (cases_Bool (eqb x.flow flow)) [
      | inl is ↦ rw is (ap (λ l. x ∷ l) (of_both flow xs ys))
      | inr not ↦ rw not (of_both flow xs ys)
    ]

pub pass_both : (tick : ℕ) (xs ys : List Packet) (h : List Pass) → passing tick (xs ++ ys) h ≡ passing tick ys (passing tick xs h)
unfolding passing
pass_both tick [] ys h = refl
pass_both tick (x ∷ xs) ys h = pass_both tick xs ys (record { at = tick; len = x.length } ∷ h)

open_regular : (room : ℕ) (classes : List ℕ) (gates : List GateModel) (s : MachineModel) (flow burst rate : ℕ) (h : List Pass) →
    RegularFlow s.levels flow burst rate s.tick h →
    RegularFlow (open_all room classes gates s).machine.levels flow burst rate s.tick (passing s.tick (of_flow flow (in_turn (all_passers room classes gates s))) h)
unfolding open_all all_passers in_turn of_flow passing
open_regular room classes [] s flow burst rate h regular = regular
open_regular room classes (g ∷ gs) s flow burst rate h regular =
    let does : Regulates room g.at_edge classes s.tick g.waits s.levels s.queues (open_one room classes g s) = gate_regulates room g.at_edge classes s.tick g.waits s.levels s.queues in
    let row : List Packet = passers_of room classes g s in
    let rows : List Packet = in_turn (all_passers room classes gs (after_open s (open_one room classes g s))) in
    let here : RegularFlow (open_one room classes g s).levels flow burst rate s.tick (passing s.tick (of_flow flow row) h) =
    subst (λ ps. RegularFlow (open_one room classes g s).levels flow burst rate s.tick (passing s.tick (of_flow flow ps) h))
    (sym (passers_are room g.at_edge classes s.tick g.waits s.levels s.queues))
    (gate_laws.regular room g.at_edge classes s.tick g.waits s.levels s.queues (open_one room classes g s) does flow burst rate h regular) in
    subst (λ x. RegularFlow (open_all room classes gs (after_open s (open_one room classes g s))).machine.levels flow burst rate s.tick x)
    (sym (ap (λ ps. passing s.tick ps h) (of_both flow row rows) ∙ pass_both s.tick (of_flow flow row) (of_flow flow rows) h))
    (open_regular room classes gs (after_open s (open_one room classes g s)) flow burst rate (passing s.tick (of_flow flow row) h) here)

taking-regular : (s : MachineModel) (o : Option Sending) (flow burst rate : ℕ) (h : List Pass) → RegularFlow s.levels flow burst rate s.tick h →
    RegularFlow (after_taking s o).levels flow burst rate (after_taking s o).tick h
taking-regular s None flow burst rate h regular = regular
taking-regular s (Some x) flow burst rate h regular = regular

later : (h : List Pass) (t : ℕ) → NotBefore h t → NotBefore h (t + 1)
later [] t before = tt
later (p ∷ ps) t before = omega arith

pub always_regular : AlwaysRegular
unfolding passed_in
always_regular a _ _ begins flow within =
    record {
      within = simp length-map within;
      level = get_or-map (λ f. full_level f.burst f.rate) a.flows flow no_flow no_level within;
      order = tt;
      last = tt;
      regular = regular-none (flow_at a.flows flow).burst (flow_at a.flows flow).rate;
    }
always_regular a _ _ (comes {e = e} cs plays some) flow within = always_regular a left e plays flow within
always_regular a _ _ (passes {e = e} plays) flow within =
    let sofar = always_regular a came e plays flow within in
    subst (λ t. RegularFlow (open_all a.room a.classes e.gates e.machine).machine.levels flow (flow_at a.flows flow).burst (flow_at a.flows flow).rate t
    (passing e.machine.tick (of_flow flow (in_turn (all_passers a.room a.classes e.gates e.machine))) (passed_in a flow plays)))
    (sym (same_tick a.room a.classes e.gates e.machine))
    (open_regular a.room a.classes e.gates e.machine flow (flow_at a.flows flow).burst (flow_at a.flows flow).rate (passed_in a flow plays) sofar)
always_regular a _ _ (takes {e = e} plays clock) flow within =
    taking-regular e.machine e.machine.sending flow (flow_at a.flows flow).burst (flow_at a.flows flow).rate (passed_in a flow plays)
    (always_regular a passed e plays flow within)
always_regular a _ _ (leaves {e = e} plays) flow within =
    let sofar = always_regular a took e plays flow within in
    record {
      within = sofar.within;
      level = sofar.level;
      order = sofar.order;
      last = later (passed_in a flow plays) e.machine.tick sofar.last;
      regular = sofar.regular;
    }

-- the first that waits is a packet of its kind
head_each : (P : Packet → Type 0) (ws : List Packet) (w : Packet) → Each P ws → head_of ws ≡ Some w → P w
head_each P [] w each first = cc
head_each P (x ∷ xs) w each first = let same : x ≡ w = cc in subst P same each.0

pub first-fits : (a : Setup) (gates : List GateModel) (k : ℕ) (w : Packet) → Each (Kind a) gates → head_of (gate_at gates k).waits ≡ Some w → Fitting a.port a.flows a.classes w
first-fits a [] k w each first = cc
first-fits a (g ∷ gs) zero w each first = (head_each (Belongs a g.at_edge) g.waits w each.0 first).0
first-fits a (g ∷ gs) (suc k) w each first = first-fits a gs k w each.1 first

-- by the level, and so by the rows
not_regular : (a : Setup) (s : MachineModel) (w : Packet) (h : List Pass) → may_pass (level_of s.levels w) s.tick w.length ≡ false →
    RegularFlow s.levels w.flow (flow_at a.flows w.flow).burst (flow_at a.flows w.flow).rate s.tick h →
    Regular (flow_at a.flows w.flow).burst (flow_at a.flows w.flow).rate (record { at = s.tick; len = w.length } ∷ h) → ⊥
not_regular a s w h held regular row =
    let may = (rows_are_levels (flow_at a.flows w.flow).burst (flow_at a.flows w.flow).rate h s.tick w.length regular.order regular.last regular.regular).1 row in
    let never : true ≡ false = sym may ∙ ap (λ l. may_pass l s.tick w.length) (sym regular.level) ∙ held in
    cc

pub no_longer : NoLongerThanRows
no_longer a _ (passes {e = e} plays) k w enough first row =
    let goes = goes_on a passed (pass_phase a.room a.classes e) enough (passes plays) in
    let fits = first-fits a (pass_phase a.room a.classes e).gates k w goes.belong first in
    let put_off = nobody_put_off a.room a.classes e k w first in
    let after : MachineModel = (pass_phase a.room a.classes e).machine in
    let tick = same_tick a.room a.classes e.gates e.machine in
    let held : may_pass (level_of after.levels w) after.tick w.length ≡ false =
    sym (by_level a after w enough goes.reached fits) ∙ ap (λ t. may_go a.room a.classes t w after.levels after.queues) tick ∙ put_off in
    not_regular a after w (passed_in a w.flow (passes plays)) held
    (always_regular a passed (pass_phase a.room a.classes e) (passes plays) w.flow (listed a.port a.flows w.flow fits.crosses)) row
