-- What a pattern asks of a path.
use Rattle.std.specs.Prelude.{◌≡◌, ℕ, ◌-◌, ◌*◌, ◌/◌, ◌<◌, ◌≤◌, true, List}
use Rattle.gix_glob.specs.declared.pattern.Mode.{Mode}
use Rattle.gix_glob.specs.Patterns.{looks_at_name}
use Rattle.glob_lists.specs.declared.asks.literals.TheConstants.{LONGEST_END}
use Rattle.glob_lists.specs.declared.asks.part.Part.TheVariants.{NameEnd, NameInside}
use Rattle.glob_lists.specs.declared.asks.row.Row.{Row}
use Rattle.glob_lists.specs.Private.Asks.Literals.{AsksForBits, EndsLiterally, end_key}
use Rattle.glob_lists.specs.Private.Asks.Parts.{IsFoundInside, IsToldByEnd, is_name, part_of}

-- the length of the literal end of a row; 0 where it has none
abbrev pub length_of : Row → ℕ
length_of row = LONGEST_END - row.spare / 8

-- the row has a literal end, or none: then all bits of a number are spare
abbrev pub HasSomeEnd : Row → Type 0
HasSomeEnd row = row.spare < 64

abbrev pub HasNoEnd : Row → Type 0
HasNoEnd row = 64 ≤ row.spare

-- a literal end of the text: its length and its number
pub record HasLiteralEnd (text : List ℕ) (n key : ℕ) : Type 0 where
  pub some : 0 < n
  pub literal : EndsLiterally text n
  pub number : key ≡ end_key text n

-- The row asks of a path what a pattern of this text and mode does: a literal end, or the bytes and pairs that are needed.
pub record Asks (text : List ℕ) (mode : Mode) (row : Row) : Type 0 where
  pub spare : row.spare ≡ 8 * (LONGEST_END - length_of row)
  pub end : HasSomeEnd row → HasLiteralEnd text (length_of row) row.asked
  pub bits : HasNoEnd row → AsksForBits text row.asked
  pub name : is_name (part_of row.part) ≡ true → looks_at_name mode ≡ true
  pub told : part_of row.part ≡ NameEnd → HasSomeEnd row × IsToldByEnd text mode (length_of row)
  pub inside : part_of row.part ≡ NameInside → IsFoundInside text mode
