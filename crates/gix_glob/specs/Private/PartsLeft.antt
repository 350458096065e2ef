-- What a clause reads of the iterator over the parts of a path text.
use Rattle.std.specs.Prelude.{ℕ, if◌then◌else◌, List}
use Rattle.gix_glob.specs.Paths.{parts, named_parts, pieces}
use Rattle.gix_glob.specs.declared.search.parts.Parts.{Parts}

-- the parts that are still to come
abbrev pub parts_left : Parts → List (List ℕ)
parts_left it = if it.is_at_front then parts it.rest.now else named_parts (pieces it.rest.now)
