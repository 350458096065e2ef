-- The pattern of a line of an attribute file.
use Rattle.std.specs.Prelude.{◌≡◌, ◌⊎◌, ℕ, false, true, List, Option, None}
use Rattle.gix_glob.specs.declared.pattern.Mode.{Mode}
use Rattle.gix_glob.specs.GitLines.{GitReads}
use Rattle.gix_glob.specs.Patterns.{Reads, is_blank}
use Rattle.glob_lists.specs.declared.rules.Reading.{Reading}
use Rattle.glob_lists.specs.declared.rules.Reading.TheVariants.{Crate, Git}

-- it is read as those of ignore files, but that `!` doesn't negate; white space alone, and no bytes, stand for themselves, as a name
abbrev pub IsPatternOf : List ℕ → List ℕ → Mode → Option ℕ → Type 0
IsPatternOf bytes text mode place =
    Reads bytes false text mode place ⊎ ((is_blank bytes ≡ true) × (text ≡ bytes) × (mode.0 ≡ 1) × (place ≡ None))

-- whose reading counts
abbrev pub IsPatternAs : Reading → List ℕ → List ℕ → Mode → Option ℕ → Type 0
IsPatternAs Crate bytes text mode place = IsPatternOf bytes text mode place
IsPatternAs Git bytes text mode place = GitReads bytes text mode place
