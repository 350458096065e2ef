-- The paths of an index without case, where they are looked up so.
use Rattle.std.specs.Prelude.{◌≡◌, List, Option, None, Some}
use Rattle.git_index.specs.Entries.{Tracked}
use Rattle.gix_glob.specs.declared.pattern.Case.{Case}
use Rattle.gix_glob.specs.declared.pattern.Case.TheVariants.{Sensitive, Fold}
use Rattle.git_index.specs.Folding.{AreAlike}
use denote.Ref.{Bor}

-- case counts where there are no paths without it
abbrev pub case_by : Option (Bor (List Tracked)) → Case
case_by None = Sensitive
case_by (Some folded) = Fold

-- the paths without case are those of these entries
abbrev pub AreOf : Option (Bor (List Tracked)) → List Tracked → Type 0
AreOf folded entries = (paths : Bor (List Tracked)) → folded ≡ Some paths → AreAlike paths.now entries

-- they are there where case doesn't count
abbrev pub AreFoldedBy : Case → Option (List Tracked) → List Tracked → Type 0
AreFoldedBy Sensitive None entries = Unit {0}
AreFoldedBy Sensitive (Some folded) entries = ⊥
AreFoldedBy Fold None entries = ⊥
AreFoldedBy Fold (Some folded) entries = AreAlike folded entries
