-- Which faults a listing has before it begins.
use Rattle.std.specs.Prelude.{Bool, true, false}
use Rattle.tree_commands.specs.declared.files.fault.FilesFault.{FilesFault}
use Rattle.tree_commands.specs.declared.files.fault.FilesFault.TheVariants.{Base, Empty, Endless, Memory, Outside, Source, Write}

-- whether nothing was begun for this reason
abbrev pub is_of_start : {F : Type 0} → FilesFault F → Bool
is_of_start Memory = false
is_of_start Base = true
is_of_start Empty = true
is_of_start Outside = true
is_of_start (Source fault) = false
is_of_start (Write error) = false
is_of_start Endless = false
