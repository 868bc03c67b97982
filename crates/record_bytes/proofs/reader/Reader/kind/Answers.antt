use Rattle.std.proofs.Common.{rules}
use Rattle.record_bytes.proofs.Taking.{kind_missing, kind_found, kind_differs}
use Rattle.record_bytes.proofs.reader.Reader.kind.Goals as goal

pub returns-in_default-clause-value : goal.returns-in_default-clause-value
returns-in_default-clause-value c = rw c.missing.ensures (kind_missing _ _ _ c.in_default.ensures.value)

pub returns-then-kind-wanted-clause-value : goal.returns-then-kind-wanted-clause-value
returns-then-kind-wanted-clause-value c = kind_differs _ _ _ _ c.in-Some.ensures.value (search rules)

pub returns-clause-value : goal.returns-clause-value
returns-clause-value c = kind_found _ _ _ _ c.in-Some.ensures.value (search rules)
