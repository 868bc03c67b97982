-- How a fault is printed. Assumes nothing.
use Rattle.std.specs.Prelude.{ℕ, List, ◌++◌, codes, decimal}
use Rattle.record_bytes.specs.declared.fault.Fault.{Fault}
use Rattle.record_bytes.specs.declared.fault.Fault.TheVariants as faults

-- the number of each fault, and where it is
abbrev pub fault_text : Fault → List ℕ
fault_text (faults.Length at) = codes "1: byte " ++ decimal at
fault_text (faults.Range at) = codes "2: byte " ++ decimal at
fault_text (faults.Road at) = codes "3: byte " ++ decimal at
