-- Where a list may match nothing in a folder.
use Rattle.std.specs.Prelude.{◌≡◌, ◌≢◌, true, false, List, ℕ, [], ◌++◌}
use Rattle.std.specs.List.{All, Any}
use Rattle.glob_matcher.specs.Bytes.{EndsInSlash, has_slash}
use Rattle.pathspecs.specs.Elements.{Meets, PathspecItem, kept_of, pattern_of}
use Rattle.pathspecs.specs.Lists.{Matches, MayMatchIn}

-- No path is lost: where a list may match nothing in a folder, it matches no path there, unless an exclude with a pattern meets the folder,
-- or the literal front of an element in which case is folded has a slash.
abbrev pub LosesNothing : Type 0
LosesNothing = (items : List PathspecItem) (folder rest : List ℕ) → EndsInSlash folder
    → ¬ Any (λ item. (item.magic.exclude ≡ true) × (pattern_of item ≢ []) × Meets item folder) items
    → All (λ item. item.magic.icase ≡ true → has_slash (kept_of item) ≡ false) items
    → ¬ MayMatchIn items folder → ¬ Matches items (folder ++ rest)
