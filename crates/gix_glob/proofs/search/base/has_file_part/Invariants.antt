use Rattle.std.proofs.Common.{◌≡◌, ℕ, Bool, not, codes, List, length}
use Rattle.std.specs.List.{list_any}
use Rattle.std.specs.Str.{bytes_eq}
use Rattle.gix_glob.specs.Paths.{parts}
use Rattle.gix_glob.specs.Private.PartsLeft.{parts_left}
use Rattle.gix_glob.proofs.search.base.has_file_part.Given as goal

-- what was passed over is the leading slash
abbrev pub invariant-parts : goal.invariant-parts
invariant-parts l =
    let is_file_part : List ℕ → Bool = λ part. not (bytes_eq part (codes "/")) in
    list_any is_file_part (parts_left l.parts) ≡ list_any is_file_part (parts l.source)

abbrev pub decreases-parts : goal.decreases-parts
decreases-parts l = length (parts_left l.parts)
