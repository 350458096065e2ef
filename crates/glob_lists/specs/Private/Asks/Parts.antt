-- What of a path a pattern looks at, and which patterns match wherever the path has their end.
use Rattle.std.specs.Prelude.{◌≡◌, ℕ, ◌==◌, ◌+◌, ◌%◌, ◌<◌, ◌≤◌, Bool, true, false, List, length, if◌then◌else◌}
use Rattle.std.specs.Char.{to_ascii_lowercase}
use Rattle.gix_glob.specs.declared.pattern.Mode.{Mode}
use Rattle.gix_glob.specs.Bytes.{HasByte, star}
use Rattle.gix_glob.specs.Patterns.{is_for_directories, looks_at_name}
use Rattle.glob_patterns.specs.Private.Insides.{IsBetweenStars}
use Rattle.glob_lists.specs.declared.asks.part.Part.{Part}
use Rattle.glob_lists.specs.declared.asks.part.Part.TheVariants.{Path, Name, NameInside, NameEnd}
use Rattle.glob_lists.specs.Private.Asks.Literals.{AreBytes, EndsLiterally, from_end}

-- whether it is the last part, and what stands before its end is looked at too
abbrev pub is_name : Part → Bool
is_name Path = false
is_name Name = true
is_name NameInside = true
is_name NameEnd = false

-- the place of a part among all
abbrev pub place_of : Part → ℕ
place_of Path = 0
place_of Name = 1
place_of NameInside = 2
place_of NameEnd = 3

-- the part that a number stands for, by its last two bits
abbrev pub part_of : ℕ → Part
part_of n = if n % 4 == 0 then Path else (if n % 4 == 1 then Name else (if n % 4 == 2 then NameInside else NameEnd))

-- none of the last n bytes of a text is a capital letter
pub record IsPlainEnd (text : List ℕ) (n : ℕ) : Type 0 where
  pub bytes : AreBytes text
  pub fits : n ≤ length text
  pub small : (m : ℕ) → m < n → to_ascii_lowercase (from_end text m) ≡ from_end text m

-- the text is a star and its last n bytes, of which none is a capital letter
pub record IsStarAndEnd (text : List ℕ) (n : ℕ) : Type 0 where
  pub star : HasByte text 0 star
  pub long : length text ≡ n + 1
  pub plain : IsPlainEnd text n

-- A pattern of this text and mode matches wherever a path has the text's last n bytes: it is a star and those, which stand for
-- themselves, it looks at the last part of a path alone, and not only at directories.
pub record IsToldByEnd (text : List ℕ) (mode : Mode) (n : ℕ) : Type 0 where
  pub name : looks_at_name mode ≡ true
  pub all : is_for_directories mode ≡ false
  pub literal : EndsLiterally text n
  pub shape : IsStarAndEnd text n

-- A pattern of this text and mode matches exactly where the last part of a path has what stands between the stars of the text; it doesn't look
-- only at directories.
pub record IsFoundInside (text : List ℕ) (mode : Mode) : Type 0 where
  pub name : looks_at_name mode ≡ true
  pub all : is_for_directories mode ≡ false
  pub shape : IsBetweenStars text
