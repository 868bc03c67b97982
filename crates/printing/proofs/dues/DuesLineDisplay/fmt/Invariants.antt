use Rattle.std.proofs.Common.{◌≡◌, ℕ, List, ◌++◌, length, drop, codes}
use Rattle.std.specs.Fmt.{HasWritten, IsPlainFormatter}
use denote.Shadow.{shadow}
use denote.Text.{Utf8}
use Rattle.admission.specs.Dues.{dues_model}
use Rattle.script.specs.Lines.{ports_text}
use Rattle.printing.proofs.dues.DuesLineDisplay.fmt.Given as goal

abbrev pub invariant-loop-port : goal.invariant-loop-port
invariant-loop-port g l =
    let d = dues_model l.fn.self.dues.now in
    let n = length l.yielded in
    record {
      separates : shadow (Utf8 l.separator);
      written : IsPlainFormatter l.initial.f → (done : List ℕ) × HasWritten g.W.Write.write_str_gives l.initial.f done l.f
          × (done ++ ports_text l.separator (drop n d.road) (drop n d.ticks) ≡ ports_text (codes ":") d.road d.ticks);
    }
