use Rattle.std.proofs.Common.{◌≡◌, ◌∷◌, [], ◌++◌, ◌-◌, length, codes, slice_index, subst, refl, length-append, length-take, arith, rules}
use Rattle.std.proofs.Output.{has_written_append}
use Rattle.std.proofs.lemmas.Grind.{put_two}
use Rattle.std.proofs.lemmas.Slice.Zip.{zip_turn, zip_end}
use Rattle.std.specs.Fmt.{HasWritten}
use Rattle.admission.specs.Dues.{dues_model}
use Rattle.script.specs.Lines.{port_text, ports_text, due_text}
use Rattle.printing.proofs.OutputLaws.{print_port, ports_end}
use Rattle.printing.proofs.dues.DuesLineDisplay.fmt.Goals as goal

pub loop-port-init : goal.loop-port-init
loop-port-init g c = record { separates = search rules; written = λ plain. ([], search rules, refl) }

pub loop-port-preserved : goal.loop-port-preserved
loop-port-preserved g c =
    let d = dues_model c.args.self.now.dues.now in
    let turn = zip_turn d.road d.ticks c.loop-port.yielded c.into_iter-port-iterator.result c.loop-port.port-iterator c.next.new.self _ (search rules) (search rules)
    c.loop-port.yielded_by _ c.in-Some.is c.next.ensures.steps in
    let separator = c.loop-port.separator.now in
    let port = c.in-Some.port.now in
    let due = c.in-Some.due.now in
    record {
      separates = search rules;
      written = λ plain.
          let so_far = c.loop-port.invariant.written plain in
          let printed = print_port so_far.0 (so_far.0 ++ port_text separator port due) _ separator d.road d.ticks
          (length c.loop-port.yielded) port due turn.0 (turn.2 0) (turn.3 0) refl so_far.2 in
          (so_far.0 ++ port_text separator port due, has_written_append _ _ _ _ _ _ so_far.1 (search rules), rw (length-append c.loop-port.yielded (_ ∷ [])) printed);
    }

pub returns-clause-writes : goal.returns-clause-writes
returns-clause-writes g c = λ plain ok.
    let d = dues_model c.args.self.now.dues.now in
    let head : HasWritten g.W.Write.write_str_gives c.args.f.now (due_text c.args.self.now.number (slice_index d.ticks (length d.road - 1))) c.write.new.self = search rules in
    let all = zip_end d.road d.ticks c.loop-port.yielded c.into_iter-port-iterator.result c.loop-port.port-iterator c.next.new.self _ (search rules) (search rules)
    c.loop-port.yielded_by c.in-None.is c.next.ensures.steps in
    let so_far = c.loop-port.invariant.written head.plain in
    let text : so_far.0 ≡ ports_text (codes ":") d.road d.ticks =
    ports_end so_far.0 _ c.loop-port.separator.now d.road d.ticks (length c.loop-port.yielded) (grind (arith, all, length-take)) so_far.2 in
    put_two _ _ _ _ _ _ _ head (subst (λ b. HasWritten g.W.Write.write_str_gives c.write.new.self b c.loop-port.f) text so_far.1) refl
