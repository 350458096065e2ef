-- Texts that both foldings read alike.
use Rattle.std.specs.Prelude.{◌≡◌, ◌⊎◌, ℕ, ◌<◌, ◌≤◌, false, IsTrue, ⊤, List, All, Contains}
use Rattle.std.specs.Char.{is_ascii_lowercase, is_ascii_uppercase, to_ascii_lowercase}
use Rattle.std.specs.Str.{byte}
use Rattle.glob_matcher.specs.declared.wildmatch.items.Item.{Item}
use Rattle.glob_matcher.specs.declared.wildmatch.items.Item.TheVariants as item
use Rattle.glob_matcher.specs.Bytes.{IsEscaped}
use Rattle.glob_matcher.specs.Sets.{Set, SetAt}

-- the ends of a range lie before the capitals, or are small letters in order
abbrev pub AreOrdinaryEnds : ℕ → ℕ → Type 0
AreOrdinaryEnds low high =
    ((low < byte "A") × (high < byte "A"))
    ⊎ (IsTrue (is_ascii_lowercase low) × IsTrue (is_ascii_lowercase high) × (low ≤ high))

-- An item of a set that both foldings read alike. A capital stands for itself alone where folding is exact, so a member is none, or its
-- small letter is a member, too.
abbrev pub IsOrdinary : List Item → Item → Type 0
IsOrdinary items (item.Member b) = (is_ascii_uppercase b ≡ false) ⊎ Contains items (item.Member (to_ascii_lowercase b))
IsOrdinary items (item.Range low high) = AreOrdinaryEnds low high
IsOrdinary items (item.Class c) = ⊤

-- no capital stands behind a backslash, and the items of each set are ordinary
pub record FoldsAlike (text : List ℕ) : Type 0 where
  pub escapes : (i b : ℕ) → IsEscaped text i b → is_ascii_uppercase b ≡ false
  pub sets : (i j : ℕ) (set : Set) → SetAt text i set j → All (IsOrdinary set.items) set.items
