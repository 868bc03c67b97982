use Rattle.std.proofs.Common.{sym, refl, ◌∙◌, rules}
use Rattle.queues.specs.Held.{size}
use Rattle.gates.proofs.StepLaws.{opens_none, opens_refused, ends-rest}
use Rattle.gates.proofs.regulator.Regulator.pass_first.Goals as goal

pub returns-in_err-first-clause-step : goal.returns-in_err-first-clause-step
returns-in_err-first-clause-step c ls fits held =
    rw c.from_residual.ensures
    (opens_none (size c.args.memory.now) c.args.self.now.at_edge c.args.self.now.classes.now c.args.self.now.tick
    c.args.waiting.now c.args.gate c.args.levels.now c.args.queues.now c.args.memory.now ls fits held
    (sym c.in_err-first.was ∙ c.first.ensures.means fits))

pub returns-in_err-pass-clause-step : goal.returns-in_err-pass-clause-step
returns-in_err-pass-clause-step c ls fits held =
    let head = sym c.in_ok-first.was ∙ c.first.ensures.means fits in
    rw c.from_residual-in_err-pass.ensures
    (opens_refused (size c.args.memory.now) c.args.self.now.at_edge c.args.self.now.classes.now c.args.self.now.tick
    c.args.waiting.now c.args.gate c.args.levels.now c.args.queues.now c.args.memory.now ls fits held
    c.in_ok-first.first c.pass.new.levels c.pass.new.queues c.pass.new.memory
    head (c.in_err-pass.ensures.answer ls held) (search rules))

pub returns-clause-step : goal.returns-clause-step
returns-clause-step c ls fits held =
    let head = sym c.in_ok-first.was ∙ c.first.ensures.means fits in
    ends-rest (size c.args.memory.now) c.args.self.now.at_edge c.args.self.now.classes.now c.args.self.now.tick
    c.args.waiting.now c.args.gate c.args.levels.now c.args.queues.now c.args.memory.now ls fits held
    c.in_ok-first.first c.in_ok-rest.rest c.pass.new.levels c.pass.new.queues c.pass.new.memory
    head (c.in_ok-rest.ensures.means fits)
    (c.in_ok-pass.ensures.answer ls held) (c.in_ok-pass.ensures.passed ls held refl).0 (c.in_ok-pass.ensures.passed ls held refl).1
