use Rattle.std.proofs.Common.{◌≡◌, ◌-◌, ◌++◌, length, take, drop, ap, ◌∙◌, append_assoc, take-append-drop}
use Rattle.std.proofs.lemmas.List.{take_rest}
use Rattle.std.proofs.KnownBytes.{Appends-trans, Appends-kept}
use Rattle.printing.proofs.send.send.Goals.{in-Ok, in-Err+else-ne}
use Rattle.printing.proofs.send.send.Goals as goal

pub loop-preserved : goal.loop-preserved
loop-preserved g c =
    let (sent, is, appended) = c.loop.invariant in
    let rest = c.loop.rest.now in
    elim c.match-write.branch [
      | in-Ok w ↦
          let n = w.in-Ok.count in
          let moved : (sent ++ take n rest) ++ take (length rest - n) (drop n rest) ≡ c.args.bytes.now =
          append_assoc sent (take n rest) (take (length rest - n) (drop n rest))
          ∙ ap (λ xs. sent ++ (take n rest ++ xs)) (take_rest rest n) ∙ ap (λ xs. sent ++ xs) (take-append-drop n rest) ∙ is in
          rw (ap (λ r. r.now) w.rest-is) (sent ++ take n rest, moved, Appends-trans _ _ _ _ _ appended w.in-Ok.ensures.bytes)
      | in-Err+else-ne w ↦ rw w.rest-is (sent, is, Appends-kept _ _ _ _ appended w.in-Err.ensures.bytes)
    ]
