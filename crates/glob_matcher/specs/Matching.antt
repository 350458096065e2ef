-- A pattern matches a value (`Splits`) where the value is a concatenation of pieces, one from each token's written language.
use Rattle.std.specs.Prelude.{◌≡◌, ◌≢◌, ◌⊎◌, ℕ, ⊤, IsTrue, List, [], ◌∷◌, ◌++◌, length, drop}
use Rattle.glob_matcher.specs.declared.wildmatch.mode.Mode.{Mode}
use Rattle.glob_matcher.specs.declared.wildmatch.way.Way.{Way}
use Rattle.glob_matcher.specs.Ways.{way_of}
use Rattle.glob_matcher.specs.Bytes.{EndsInSlash, NoSlash, fold, is_path, slash}
use Rattle.glob_matcher.specs.Sets.{set_holds}
use Rattle.glob_matcher.specs.Tokens.{Token, Byte, Any, OneOf, Free, Local, Dirs, Nothing, From}

-- a token of one byte takes this byte
abbrev pub Fits : Way → Token → ℕ → Type 0
Fits way (Byte b) c = fold way c ≡ fold way b
Fits way Any c = IsTrue (is_path way) → c ≢ slash
Fits way (OneOf set) c = IsTrue (set_holds way set c)
Fits way _ c = ⊥

-- one byte, of which P holds
abbrev pub OneByte : (ℕ → Type 0) → List ℕ → Type 0
OneByte P bytes = (b : ℕ) × (bytes ≡ b ∷ []) × P b

-- The written language of a token: the texts that it can stand for.
abbrev pub Lang : Way → Token → List ℕ → Type 0
Lang way (Byte b) bytes = OneByte (Fits way (Byte b)) bytes
Lang way Any bytes = OneByte (Fits way Any) bytes
Lang way (OneOf set) bytes = OneByte (Fits way (OneOf set)) bytes
Lang way Free bytes = ⊤
Lang way Local bytes = NoSlash bytes 0 (length bytes)
Lang way Dirs bytes = (bytes ≡ []) ⊎ EndsInSlash bytes
Lang way Nothing bytes = ⊥

-- The value is a concatenation of pieces, one from the language of each token.
abbrev pub IsCut : Way → List Token → List ℕ → Type 0
IsCut way [] value = value ≡ []
IsCut way (t ∷ ts) value = (piece rest : List ℕ) × (value ≡ piece ++ rest) × Lang way t piece × IsCut way ts rest

-- The value's bytes from place k on are cut so, by the tokens from place i of the pattern on.
pub record SplitsFrom (value : List ℕ) (k : ℕ) (pattern : List ℕ) (i : ℕ) (way : Way) : Type 0 where
  pub tokens : List Token
  pub read : From way pattern i tokens
  pub cut : IsCut way tokens (drop k value)

-- The pattern matches the value in this way: the whole value is cut by the tokens of the whole pattern.
abbrev pub SplitsBy : List ℕ → List ℕ → Way → Type 0
SplitsBy value pattern way = SplitsFrom value 0 pattern 0 way

-- the pattern matches the value in this mode: in the way that it asks for
abbrev pub Splits : List ℕ → List ℕ → Mode → Type 0
Splits value pattern mode = SplitsBy value pattern (way_of mode)
