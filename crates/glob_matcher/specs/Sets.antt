-- Bracket sets: how a set is spelled, and which bytes it holds. A set is read from the pattern alone.
use Rattle.std.specs.Prelude.{◌≡◌, ◌≢◌, ◌↔◌, ◌⊎◌, ℕ, ◌+◌, ◌-◌, ◌<◌, ◌≤◌, Bool, true, false, not, ◌&&◌, ◌||◌, ◌==◌, nat_le, IsTrue, List, [], ◌∷◌, length, slice_range, Option, Some, None, IsSomeAnd, if◌then◌else◌, codes}
use Rattle.std.specs.List.{list_any}
use Rattle.std.specs.Char.{to_ascii_uppercase, is_ascii_lowercase}
use Rattle.std.specs.Int.{is_in_range}
use Rattle.glob_matcher.specs.declared.wildmatch.way.Way.{Way}
use Rattle.glob_matcher.specs.declared.wildmatch.items.Class.{Class}
use Rattle.glob_matcher.specs.declared.wildmatch.items.Class.TheVariants as class
use Rattle.glob_matcher.specs.declared.wildmatch.items.Item.{Item}
use Rattle.glob_matcher.specs.declared.wildmatch.items.Item.TheVariants as item
use Rattle.glob_matcher.specs.Bytes.{HasByte, IsEscaped, fold, folds, is_path, open_bracket, backslash, slash}
use Rattle.glob_matcher.specs.ExactFolding.{fold_inner, is_exact}
use Rattle.std.specs.Str.{byte}

-- The classes: the name that stands for one between `[:` and `:]`, and its bytes, which are folded already. Digits are 48 to 57,
-- capitals 65 to 90, and small letters 97 to 122.
abbrev pub class_row : Class → List ℕ × (Way → ℕ → Bool)
class_row class.Alnum = (codes "alnum", λ way b. (is_in_range 48 57 b || is_in_range 65 90 b) || is_in_range 97 122 b)
class_row class.Alpha = (codes "alpha", λ way b. is_in_range 65 90 b || is_in_range 97 122 b)
class_row class.Blank = (codes "blank", λ way b. b == 32 || b == 9)
class_row class.Cntrl = (codes "cntrl", λ way b. is_in_range 0 31 b || b == 127)
class_row class.Digit = (codes "digit", λ way b. is_in_range 48 57 b)
class_row class.Graph = (codes "graph", λ way b. is_in_range 33 126 b)
class_row class.Lower = (codes "lower", λ way b. is_in_range 97 122 b)
class_row class.Print = (codes "print", λ way b. is_in_range 32 126 b)
class_row class.Punct =
    (codes "punct", λ way b. is_in_range 33 126 b && not ((is_in_range 48 57 b || is_in_range 65 90 b) || is_in_range 97 122 b))
class_row class.Space = (codes "space", λ way b. (b == 32 || b == 9) || (b == 10 || b == 13))
class_row class.Upper = (codes "upper", λ way b. is_in_range 65 90 b || (folds way && is_in_range 97 122 b))
class_row class.Xdigit = (codes "xdigit", λ way b. (is_in_range 48 57 b || is_in_range 65 70 b) || is_in_range 97 102 b)

abbrev pub name_of : Class → List ℕ
name_of class = (class_row class).0

abbrev pub class_holds : Way → Class → ℕ → Bool
class_holds way class b = (class_row class).1 way b

-- a number lies between two others, in either order
abbrev pub is_between : ℕ → ℕ → ℕ → Bool
is_between a b n = (nat_le a n && nat_le n b) || (nat_le b n && nat_le n a)

-- the capital of a letter lies between the ends: where folding is exact as they are, else uppercased and in either order
abbrev pub capital_lies : Way → ℕ → ℕ → ℕ → Bool
capital_lies way low high c =
    if is_exact way then nat_le low c && nat_le c high
    else is_between (to_ascii_uppercase (fold way low)) (to_ascii_uppercase (fold way high)) c

-- The bytes of a range. Where case doesn't count, the byte is folded, and the ends are, unless folding is exact; a letter is in the range also
-- where its capital lies between the ends.
abbrev pub range_holds : Way → ℕ → ℕ → ℕ → Bool
range_holds way low high b =
    (nat_le (fold_inner way low) (fold way b) && nat_le (fold way b) (fold_inner way high))
    || (folds way && is_ascii_lowercase (fold way b) && capital_lies way low high (to_ascii_uppercase (fold way b)))

-- the bytes of an item
abbrev pub item_holds : Way → ℕ → Item → Bool
item_holds way b (item.Member m) = fold way b == fold_inner way m
item_holds way b (item.Range low high) = range_holds way low high b
item_holds way b (item.Class c) = class_holds way c (fold way b)

-- a set as it is read: whether it is negated, and its items in order
pub record Set : Type 0 where
  pub negated : Bool
  pub items : List Item

-- the bytes that a set holds: those of its items, or where it is negated all others, but in path mode never a slash
abbrev pub set_holds : Way → Set → ℕ → Bool
set_holds way set b =
    not (is_path way && b == slash)
    && (if set.negated then not (list_any (item_holds way b) set.items) else list_any (item_holds way b) set.items)

-- place j is the first from place i on that has the byte b
pub record IsFirstFrom (text : List ℕ) (i b j : ℕ) : Type 0 where
  pub low : i ≤ j
  pub here : HasByte text j b
  pub before : (m : ℕ) → i ≤ m → HasByte text m b → j ≤ m

-- `-` stands at place i directly after a member that isn't byte 0, and the next byte isn't `]`: a range begins
pub record BeginsRange (text : List ℕ) (low : Option ℕ) (i : ℕ) : Type 0 where
  pub dash : HasByte text i (byte "-")
  pub after : IsSomeAnd low (λ m. m ≢ 0)
  pub inside : i + 1 < length text
  pub not_closed : ¬ HasByte text (i + 1) (byte "]")

-- `[:` stands at place i
pub record BeginsClass (text : List ℕ) (i : ℕ) : Type 0 where
  pub bracket : HasByte text i open_bracket
  pub colon : HasByte text (i + 1) (byte ":")

-- the first `]` after the `[:` at place i stands at place j, three places on or more, and ends a `:]`
pub record NamesClass (text : List ℕ) (i j : ℕ) : Type 0 where
  pub begins : BeginsClass text i
  pub first : IsFirstFrom text (i + 2) (byte "]") j
  pub far : i + 3 ≤ j
  pub colon : HasByte text (j - 1) (byte ":")

-- A byte that is a member by itself: no escape, and no range begins with it. Where `[:` does, there is a `]` after it, and the
-- first one ends no class.
pub record IsBare (text : List ℕ) (low : Option ℕ) (i b : ℕ) : Type 0 where
  pub here : HasByte text i b
  pub unescaped : b ≢ backslash
  pub no_range : ¬ BeginsRange text low i
  pub no_class : BeginsClass text i → (m : ℕ) × IsFirstFrom text (i + 2) (byte "]") m × ¬ NamesClass text i m

-- the upper end of a range, at place i
abbrev pub IsUpperEnd : List ℕ → ℕ → ℕ → ℕ → Type 0
IsUpperEnd text i high j = (HasByte text i high × (high ≢ backslash) × (j ≡ i + 1)) ⊎ (IsEscaped text i high × (j ≡ i + 2))

-- The item lies from place i up to place j. `low` is the member directly before it, or none.
abbrev pub ItemAt : List ℕ → Option ℕ → ℕ → Item → ℕ → Type 0
ItemAt text low i (item.Member b) j = (IsEscaped text i b × (j ≡ i + 2)) ⊎ (IsBare text low i b × (j ≡ i + 1))
ItemAt text low i (item.Range from to) j = BeginsRange text low i × (low ≡ Some from) × IsUpperEnd text (i + 1) to j
ItemAt text low i (item.Class c) j = (m : ℕ) × NamesClass text i m × (slice_range text (i + 2) (m - 1) ≡ name_of c) × (j ≡ m + 1)

-- the member that an item leaves for a range after it
abbrev pub member_of : Item → Option ℕ
member_of (item.Member b) = Some b
member_of _ = None

-- The items lie from place i up to the closing bracket at place j. A `]` at the place of the first item doesn't close.
abbrev pub ItemsAt : List ℕ → Bool → Option ℕ → ℕ → List Item → ℕ → Type 0
ItemsAt text first low i [] j = IsTrue (not first) × HasByte text i (byte "]") × (i ≡ j)
ItemsAt text first low i (x ∷ xs) j =
    (IsTrue (not first) → ¬ HasByte text i (byte "]"))
    × (m : ℕ) × ItemAt text low i x m × ItemsAt text false (member_of x) m xs j

-- The text of a set lies from place i up to place j: `[`, where it is negated `!` or `^`, one item or more, and `]`.
pub record SetAt (text : List ℕ) (i : ℕ) (set : Set) (j : ℕ) : Type 0 where
  pub bracket : HasByte text i open_bracket
  pub sign : IsTrue set.negated ↔ (HasByte text (i + 1) (byte "!") ⊎ HasByte text (i + 1) (byte "^"))
  pub close : ℕ
  pub items : ItemsAt text true None (if set.negated then i + 2 else i + 1) set.items close
  pub after : j ≡ close + 1
