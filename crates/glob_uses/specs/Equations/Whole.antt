-- The entries of bytes that are one pattern, by equation.
use Rattle.std.specs.Prelude.{true, ℕ, List}
use Rattle.std.specs.Option.{option_map, option_to_list}
use Rattle.gix_glob.specs.Entries.{Entry}
use Rattle.gix_glob.specs.Equations.Entries.{entry_with}
use Rattle.gix_glob.specs.Equations.Readings.{reading_of}

-- the entry of the bytes' reading, with the number 1, where they have one
abbrev pub whole_of : List ℕ → List (Entry (Unit {0}))
whole_of bytes = option_to_list (option_map (entry_with tt 1) (reading_of true bytes))
