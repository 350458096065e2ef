-- What reading a source whole answers.
use Rattle.std.specs.Prelude.{Bool, true, false, Result, Ok, Err}
use Rattle.gix_glob.specs.declared.search.fault.LoadFault.{LoadFault}
use Rattle.gix_glob.specs.declared.search.fault.LoadFault.TheVariants.{Memory, Read}

-- the answer is that opening or reading failed
abbrev pub is_read_fault : {T : Type 0} → Result T LoadFault → Bool
is_read_fault (Ok x) = false
is_read_fault (Err Memory) = false
is_read_fault (Err (Read e)) = true
