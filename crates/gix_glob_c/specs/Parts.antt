-- What the numbers that cross from C stand for.
use Rattle.std.specs.Prelude.{ℕ, ◌-◌, ◌^◌, Bool, List, length, ◌==◌, nat_lt, Option, None, Some, if◌then◌else◌}
use Rattle.gix_glob.specs.declared.pattern.Case.{Case}
use Rattle.glob_lists.specs.declared.rules.Rules.{Rules}
use Rattle.glob_lists.specs.declared.rules.Reading.{Reading}
use Rattle.glob_lists.specs.declared.rules.Reading.TheVariants.{Crate, Git}
use Rattle.gix_glob.specs.declared.pattern.Case.TheVariants.{Sensitive, Fold}

-- the case that the flag asks for
abbrev pub case_of : Bool → Case
case_of fold = if fold then Fold else Sensitive

-- whose reading a number stands for: 0 for the ported crate's, any other for Git's
abbrev pub reading_told : ℕ → Reading
reading_told number = if number == 0 then Crate else Git

-- the rules by which patterns of a reading are matched
abbrev pub rules_of : Reading → Bool → Rules
rules_of reading fold = record { case = case_of fold; reading = reading }

-- a place that C hands over: one past the text's end stands for none
abbrev pub place_in : List ℕ → ℕ → Option ℕ
place_in text place = if nat_lt place (length text) then Some place else None

-- `GIX_GLOB_NONE`
abbrev pub none : ℕ
none = 2 ^ 64 - 1

-- a place or an index that C is told: `GIX_GLOB_NONE` alone stands for none
abbrev pub unless_none : ℕ → Option ℕ
unless_none number = if number == none then None else Some number
