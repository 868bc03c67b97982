-- What a writer has of a text that it is sent piece by piece. Assumes nothing.
use Rattle.std.proofs.Common.{◌≡◌, ℕ, List, ◌++◌, length, take, drop, Option, sym, ap, ◌∙◌, append_assoc}
use Rattle.std.proofs.Math.Seq.{take-append_seam}
use Rattle.std.proofs.lemmas.List.{take-append-drop}
use Rattle.std.proofs.KnownBytes.{Appends-trans}
use Rattle.std.specs.Io.KnownBytes.{Appends}
use Rattle.printing.specs.Sent.{Begun}

-- what was sent, and what is still to be sent
module _ (before now : Option (List ℕ)) where
  pub begun_by : (text sent rest : List ℕ) → sent ++ rest ≡ text → Appends before now sent → Begun before now text
  begun_by text sent rest is appended =
      (sent, ap (take (length sent)) (sym is) ∙ take-append_seam sent rest, appended)

-- after what was sent, a beginning of what comes next
pub begun_further : (before between now : Option (List ℕ)) (text sent next rest : List ℕ) → sent ++ (next ++ rest) ≡ text →
    Appends before between sent → Begun between now next → Begun before now text
begun_further before between now text sent next rest is appended (more, starts, added) =
    let split : next ≡ more ++ drop (length more) next = sym (take-append-drop (length more) next) ∙ ap (λ xs. xs ++ drop (length more) next) starts in
    let whole : (sent ++ more) ++ (drop (length more) next ++ rest) ≡ text =
    append_assoc sent more (drop (length more) next ++ rest) ∙ ap (λ xs. sent ++ xs) (sym (append_assoc more (drop (length more) next) rest) ∙ ap (λ xs. xs ++ rest) (sym split)) ∙ is in
    begun_by before now text (sent ++ more) (drop (length more) next ++ rest) whole (Appends-trans before between now sent more appended added)
