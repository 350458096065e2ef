-- Bytes at places of a text, ways to match, and folding.
use Rattle.std.specs.Prelude.{◌≡◌, ◌≢◌, ℕ, ◌+◌, ◌<◌, ◌≤◌, Bool, false, true, List, [], ◌∷◌, ◌++◌, length, slice_index, ◌==◌, ◌||◌, if◌then◌else◌}
use Rattle.std.specs.Char.{to_ascii_lowercase}
use Rattle.std.specs.List.{list_any}
use Rattle.std.specs.Str.{byte}
use Rattle.glob_matcher.specs.declared.wildmatch.way.Folding.{Folding}
use Rattle.glob_matcher.specs.declared.wildmatch.way.Folding.TheVariants.{Off, Both, Exact}
use Rattle.glob_matcher.specs.declared.wildmatch.way.Way.{Way}
use Rattle.glob_matcher.specs.declared.wildmatch.way.Way.TheVariants.{Plain, Path, FoldedPlain, FoldedPath, ExactPlain, ExactPath}

-- bytes with a meaning of their own
abbrev pub star : ℕ
star = byte "*"

abbrev pub open_bracket : ℕ
open_bracket = byte "["

abbrev pub backslash : ℕ
backslash = byte "\\"

abbrev pub slash : ℕ
slash = byte "/"

-- the wildcards, escaped or not
abbrev pub is_wildcard : ℕ → Bool
is_wildcard b = (b == star || b == byte "?") || b == open_bracket

-- the special bytes, which may mean more than themselves: the wildcards, and the backslash
abbrev pub is_special : ℕ → Bool
is_special b = is_wildcard b || b == backslash

-- a byte that isn't special: with no backslash before it, it is a token by itself, and begins no other
abbrev pub StandsForItself : ℕ → Type 0
StandsForItself b = is_special b ≡ false

-- place i is inside the text, and the byte there is b
pub record HasByte (text : List ℕ) (i b : ℕ) : Type 0 where
  pub inside : i < length text
  pub is : slice_index text i ≡ b

-- an escape: a backslash at place i, and b after it
pub record IsEscaped (text : List ℕ) (i b : ℕ) : Type 0 where
  pub escape : HasByte text i backslash
  pub byte : HasByte text (i + 1) b

-- the text ends in a slash
pub record EndsInSlash (text : List ℕ) : Type 0 where
  pub front : List ℕ
  pub joined : text ≡ front ++ slash ∷ []

-- no place from k up to e has a slash
pub record NoSlash (value : List ℕ) (k e : ℕ) : Type 0 where
  pub at : (m : ℕ) → k ≤ m → m < e → slice_index value m ≢ slash

-- whether some byte is a slash
abbrev pub has_slash : List ℕ → Bool
has_slash text = list_any (λ b. b == slash) text

-- whether no wildcard matches a slash
abbrev pub is_path : Way → Bool
is_path Plain = false
is_path Path = true
is_path FoldedPlain = false
is_path FoldedPath = true
is_path ExactPlain = false
is_path ExactPath = true

-- how case is folded
abbrev pub folding : Way → Folding
folding Plain = Off
folding Path = Off
folding FoldedPlain = Both
folding FoldedPath = Both
folding ExactPlain = Exact
folding ExactPath = Exact

-- the way of such a bit and such a folding
abbrev pub way_with : Bool → Folding → Way
way_with false Off = Plain
way_with true Off = Path
way_with false Both = FoldedPlain
way_with true Both = FoldedPath
way_with false Exact = ExactPlain
way_with true Exact = ExactPath

-- whether folding is on
abbrev pub is_on : Folding → Bool
is_on Off = false
is_on Both = true
is_on Exact = true

-- whether the case of ASCII letters doesn't count
abbrev pub folds : Way → Bool
folds way = is_on (folding way)

-- a byte after folding, where the way asks for it
abbrev pub fold : Way → ℕ → ℕ
fold way b = if folds way then to_ascii_lowercase b else b
