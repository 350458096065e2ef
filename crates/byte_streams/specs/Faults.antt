-- Of what a run over records tells a fault.
use Rattle.std.specs.Prelude.{Bool, true, false, List, [], ◌∷◌, Result, Ok, Err}
use Rattle.byte_streams.specs.declared.fault.RecordFault.{RecordFault}
use Rattle.byte_streams.specs.declared.fault.RecordFault.TheVariants.{Answer, Endless, Memory, Read, Write}

-- whether a read is told to have failed
abbrev pub is_read_fault : {X F : Type 0} → Result X (RecordFault F) → Bool
is_read_fault (Ok x) = false
is_read_fault (Err Memory) = false
is_read_fault (Err (Read error)) = true
is_read_fault (Err (Write error)) = false
is_read_fault (Err (Answer fault)) = false
is_read_fault (Err Endless) = false

-- whether a write or a flush is told to have failed
abbrev pub is_write_fault : {X F : Type 0} → Result X (RecordFault F) → Bool
is_write_fault (Ok x) = false
is_write_fault (Err Memory) = false
is_write_fault (Err (Read error)) = false
is_write_fault (Err (Write error)) = true
is_write_fault (Err (Answer fault)) = false
is_write_fault (Err Endless) = false

-- whether the reader is told to have no end
abbrev pub is_endless : {X F : Type 0} → Result X (RecordFault F) → Bool
is_endless (Ok x) = false
is_endless (Err Memory) = false
is_endless (Err (Read error)) = false
is_endless (Err (Write error)) = false
is_endless (Err (Answer fault)) = false
is_endless (Err Endless) = true

-- why a record got no answer, where that is told
abbrev pub told_refusal : {X F : Type 0} → Result X (RecordFault F) → List F
told_refusal (Ok x) = []
told_refusal (Err Memory) = []
told_refusal (Err (Read error)) = []
told_refusal (Err (Write error)) = []
told_refusal (Err (Answer fault)) = fault ∷ []
told_refusal (Err Endless) = []
