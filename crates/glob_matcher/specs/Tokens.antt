-- The tokens of a pattern, by the places where they are spelled.
use Rattle.std.specs.Prelude.{not, ◌≡◌, ◌⊎◌, ℕ, ◌+◌, ◌-◌, ◌<◌, ◌≤◌, IsTrue, List, [], ◌∷◌, length}
use Rattle.glob_matcher.specs.declared.wildmatch.way.Way.{Way}
use Rattle.glob_matcher.specs.declared.wildmatch.tokens.TokenKind.{TokenKind}
use Rattle.glob_matcher.specs.declared.wildmatch.tokens.TokenKind.TheVariants as kind
use Rattle.glob_matcher.specs.Bytes.{HasByte, IsEscaped, StandsForItself, is_path, star, open_bracket, backslash, slash}
use Rattle.glob_matcher.specs.ExactFolding.{is_dead}
use Rattle.glob_matcher.specs.Sets.{Set, SetAt}
use Rattle.std.specs.Str.{byte}

-- a token of a pattern
pub data Token : Type 0 where
  -- one byte, bare or escaped
  Byte : ℕ → Token
  -- the question mark
  Any : Token
  -- a bracket set
  OneOf : Set → Token
  -- a run of stars that crosses slashes
  Free : Token
  -- a run of stars within a path component
  Local : Token
  -- a double star with the slash after it
  Dirs : Token
  -- what matches nothing: a backslash that escapes nothing, or a bracket that begins no set, with the rest of the pattern
  Nothing : Token

-- the run of stars from place i up to place j, as long as can be
pub record IsRun (pattern : List ℕ) (i j : ℕ) : Type 0 where
  pub some : i < j
  pub stars : (m : ℕ) → i ≤ m → m < j → HasByte pattern m star
  pub whole : ¬ HasByte pattern j star

-- the run is of two stars or more, at the pattern's start or after a slash, and before the pattern's end, a slash or an escaped slash
pub record IsBounded (pattern : List ℕ) (i j : ℕ) : Type 0 where
  pub many : i + 2 ≤ j
  pub before : (i ≡ 0) ⊎ HasByte pattern (i - 1) slash
  pub after : (j ≡ length pattern) ⊎ (HasByte pattern j slash ⊎ IsEscaped pattern j slash)

-- a run with its slash: in path mode, a bounded run, and the bare slash after it
pub record DirsAt (way : Way) (pattern : List ℕ) (i j : ℕ) : Type 0 where
  pub path : IsTrue (is_path way)
  pub run_end : ℕ
  pub run : IsRun pattern i run_end
  pub bounded : IsBounded pattern i run_end
  pub slash : HasByte pattern run_end slash
  pub after : j ≡ run_end + 1

-- a backslash at place i escapes nothing: no byte follows it, or one that matches nothing
abbrev pub EscapesNothing : Way → List ℕ → ℕ → Type 0
EscapesNothing way pattern i = (i + 1 ≡ length pattern) ⊎ ((b : ℕ) × HasByte pattern (i + 1) b × IsTrue (is_dead way b))

-- nothing can match from place i on: a backslash that escapes nothing, or a bracket that begins no set
abbrev pub IsBroken : Way → List ℕ → ℕ → Type 0
IsBroken way pattern i =
    (HasByte pattern i backslash × EscapesNothing way pattern i)
    ⊎ (HasByte pattern i open_bracket × ((set : Set) (j : ℕ) → ¬ SetAt pattern i set j))

-- The token is spelled from place i up to place j. A byte is escaped, or bare where it stands for itself. In plain mode each run
-- crosses slashes; in path mode a bounded one does, unless a bare slash follows it, and one that isn't bounded stays within a component.
abbrev pub TokenAt : Way → List ℕ → ℕ → Token → ℕ → Type 0
TokenAt way pattern i (Byte b) j = (IsEscaped pattern i b × (j ≡ i + 2) × IsTrue (not (is_dead way b))) ⊎ (HasByte pattern i b × StandsForItself b × (j ≡ i + 1))
TokenAt way pattern i Any j = HasByte pattern i (byte "?") × (j ≡ i + 1)
TokenAt way pattern i (OneOf set) j = SetAt pattern i set j
TokenAt way pattern i Free j = IsRun pattern i j × (IsTrue (is_path way) → IsBounded pattern i j × ¬ HasByte pattern j slash)
TokenAt way pattern i Local j = IsRun pattern i j × IsTrue (is_path way) × ¬ IsBounded pattern i j
TokenAt way pattern i Dirs j = DirsAt way pattern i j
TokenAt way pattern i Nothing j = IsBroken way pattern i × (j ≡ length pattern)

-- The tokens are spelled, one after the other, from place i up to place j.
abbrev pub Spells : Way → List ℕ → ℕ → List Token → ℕ → Type 0
Spells way pattern i [] j = i ≡ j
Spells way pattern i (t ∷ ts) j = (m : ℕ) × TokenAt way pattern i t m × Spells way pattern m ts j

-- the tokens from place i on, up to the pattern's end
abbrev pub From : Way → List ℕ → ℕ → List Token → Type 0
From way pattern i ts = Spells way pattern i ts (length pattern)

-- the tokens whose spellings, joined, are the pattern
abbrev pub Tokens : Way → List ℕ → List Token → Type 0
Tokens way pattern ts = From way pattern 0 ts

-- what the code keeps of a token: of a set its place alone
abbrev pub kind_of : Token → TokenKind
kind_of (Byte b) = kind.Byte b
kind_of Any = kind.Any
kind_of (OneOf set) = kind.Set
kind_of Free = kind.Free
kind_of Local = kind.Local
kind_of Dirs = kind.Dirs
kind_of Nothing = kind.Nothing

-- A token of this kind is spelled from place i up to place j, past i and inside the pattern.
pub record IsToken (way : Way) (pattern : List ℕ) (i : ℕ) (kind : TokenKind) (j : ℕ) : Type 0 where
  pub token : Token
  pub here : TokenAt way pattern i token j
  pub same_kind : kind ≡ kind_of token
  pub past : i < j
  pub inside : j ≤ length pattern
