-- What a search for one of several bytes comes to; and how far the fronts of two texts are alike.
use Rattle.std.specs.Prelude.{◌≡◌, ◌≢◌, ℕ, ◌+◌, ◌<◌, ◌≤◌, min, Bool, true, false, List, Option, MatchOption, length, slice_index}
use Rattle.memchr.specs.Find.{is_byte, is_byte2, is_byte3}
use Rattle.glob_matcher.specs.declared.wildmatch.any_of.AnyOf.{AnyOf}
use Rattle.glob_matcher.specs.declared.wildmatch.any_of.AnyOf.TheVariants as any_of
use Rattle.glob_matcher.specs.declared.wildmatch.way.Way.{Way}
use Rattle.glob_matcher.specs.Bytes.{HasByte, StandsForItself, fold, slash}

-- whether a byte is one of these
abbrev pub is_any_of : AnyOf → ℕ → Bool
is_any_of any_of.Nothing = λ b. false
is_any_of (any_of.One a) = is_byte a
is_any_of (any_of.Two a b) = is_byte2 a b
is_any_of (any_of.Three a b c) = is_byte3 a b c

abbrev pub IsAnyOf : AnyOf → ℕ → Type 0
IsAnyOf wanted b = is_any_of wanted b ≡ true

-- A search from place k on has come to place e: the first that has one of these bytes, with the byte there, or the text's end.
pub record HasComeTo (text : List ℕ) (wanted : AnyOf) (k e : ℕ) (found : Option ℕ) : Type 0 where
  pub low : k ≤ e
  pub inside : e ≤ length text
  pub passed : (m : ℕ) → k ≤ m → m < e → ¬ IsAnyOf wanted (slice_index text m)
  pub met : MatchOption found (e ≡ length text) (λ byte. HasByte text e byte × IsAnyOf wanted byte)

-- a token by itself, and no slash
abbrev pub IsLiterally : ℕ → Type 0
IsLiterally b = StandsForItself b × (b ≢ slash)

-- such a byte of the pattern, and one of the value that is alike
abbrev pub PassesLiterally : Way → ℕ → ℕ → Type 0
PassesLiterally way b c = IsLiterally b × (fold way c ≡ fold way b)

-- So many bytes at the fronts of both texts are passed so, and no more can be.
pub record IsLiteralFront (way : Way) (p v : List ℕ) (k : ℕ) : Type 0 where
  pub inside : k ≤ length p
  pub within : k ≤ length v
  pub passed : (m : ℕ) → m < k → PassesLiterally way (slice_index p m) (slice_index v m)
  pub greatest : k < length p → k < length v → ¬ PassesLiterally way (slice_index p k) (slice_index v k)

-- how many places of both texts are compared where so many are passed: the one that ends them, too
abbrev pub places_compared : List ℕ → List ℕ → ℕ → ℕ
places_compared p v k = min (k + 1) (min (length p) (length v))
