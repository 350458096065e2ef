-- Numbers by names.
use Rattle.std.specs.Prelude.{ℕ, List, Option}
use Rattle.std.specs.Ordering.{nat_cmp}
use Rattle.std.specs.BTreeMap.{get_by}
use Rattle.std.specs.Cmp.Lexicographic.{slice_cmp}
use Rattle.std.specs.Vec.{vec_items}
use Rattle.glob_attributes.specs.declared.places.Places.{Places}

-- the number of a name
abbrev pub place_in : Places → List ℕ → Option ℕ
place_in places name = get_by (λ key. slice_cmp nat_cmp name (vec_items key)) places.places
