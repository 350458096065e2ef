-- The pruned recursive engine: where an attempt may begin, what its answers mean, where an abort must come, and up to which
-- number of star tokens its answers are exact.
use Rattle.std.specs.Prelude.{◌≡◌, ◌≢◌, ◌↔◌, ◌⊎◌, ℕ, ◌+◌, ◌≤◌, ⊤, Bool, IsTrue, List, [], ◌∷◌, ◌++◌, length, drop}
use Rattle.glob_matcher.specs.declared.wildmatch.mode.Mode.{Mode}
use Rattle.glob_matcher.specs.declared.wildmatch.way.Way.{Way}
use Rattle.glob_matcher.specs.Ways.{way_of}
use Rattle.glob_matcher.specs.declared.wildmatch.pruned.Answer.{Answer}
use Rattle.glob_matcher.specs.declared.wildmatch.pruned.Answer.TheVariants.{Match, NoMatch, AbortAll, AbortToStarStar, RecursionLimitReached}
use Rattle.glob_matcher.specs.Bytes.{HasByte, NoSlash, is_path, star}
use Rattle.glob_matcher.specs.Tokens.{Token, Byte, Any, OneOf, Free, Local, Dirs, TokenAt, Spells, From, Tokens}
use Rattle.glob_matcher.specs.Matching.{IsCut, SplitsFrom}

-- how many of the tokens are star tokens
abbrev pub star_count : List Token → ℕ
star_count [] = 0
star_count (Free ∷ ts) = star_count ts + 1
star_count (Local ∷ ts) = star_count ts + 1
star_count (Dirs ∷ ts) = star_count ts + 1
star_count (_ ∷ ts) = star_count ts

-- the pattern has n star tokens; the number is the same in each mode
abbrev pub HasStars : List ℕ → ℕ → Type 0
HasStars pattern n = (mode : Mode) × (tokens : List Token) × Tokens (way_of mode) pattern tokens × (star_count tokens ≡ n)

-- A yes implies the fact. A no excludes it, where the pattern has at most 63 star tokens.
pub record Holds (answer : Bool) (fact : Type 0) (pattern : List ℕ) : Type 0 where
  pub yes : IsTrue answer → fact
  pub excludes : (n : ℕ) → HasStars pattern n → n ≤ 63 → fact → IsTrue answer

-- place i is a token's start or the pattern's end: tokens spell what stands before it
pub record IsBoundary (pattern : List ℕ) (i : ℕ) (way : Way) : Type 0 where
  pub tokens : List Token
  pub spelled : Spells way pattern 0 tokens i

-- an attempt may begin at place i of the pattern: at a boundary, or at the slash that ends the token of a double star
pub record IsStart (pattern : List ℕ) (i : ℕ) (way : Way) : Type 0 where
  pub place : IsBoundary pattern i way ⊎ ((m : ℕ) × IsBoundary pattern m way × TokenAt way pattern m Dirs (i + 1))

-- What an answer excludes, where there is room. What an abort says of further places, it says where no star token begins.
pub record Excludes (answer : Answer) (pattern : List ℕ) (i : ℕ) (value : List ℕ) (k : ℕ) (way : Way) : Type 0 where
  pub here : answer ≢ Match → ¬ SplitsFrom value k pattern i way
  pub everywhere : answer ≡ AbortAll → ¬ HasByte pattern i star
      → (e : ℕ) → k ≤ e → e ≤ length value → ¬ SplitsFrom value e pattern i way
  pub component : answer ≡ AbortToStarStar → ¬ HasByte pattern i star
      → (e : ℕ) → k ≤ e → e ≤ length value → NoSlash value k e → ¬ SplitsFrom value e pattern i way
  pub limit : answer ≢ RecursionLimitReached

-- no star token, and none that matches nothing: each token takes one byte
abbrev pub TakeOneByte : List Token → Type 0
TakeOneByte [] = ⊤
TakeOneByte (Byte b ∷ ts) = TakeOneByte ts
TakeOneByte (Any ∷ ts) = TakeOneByte ts
TakeOneByte (OneOf set ∷ ts) = TakeOneByte ts
TakeOneByte (_ ∷ ts) = ⊥

-- The value ends too soon: the bytes are cut by a beginning, not the whole, of the tokens.
abbrev pub EndsShort : Way → List Token → List ℕ → Type 0
EndsShort way tokens bytes =
    (beginning : List Token) × (next : Token) × (rest : List Token) × (tokens ≡ beginning ++ next ∷ rest) × IsCut way beginning bytes

-- the first token is a run that crosses slashes, or a double star with its slash
abbrev pub BeginsCrossing : List Token → Type 0
BeginsCrossing tokens = (rest : List Token) × ((tokens ≡ Free ∷ rest) ⊎ (tokens ≡ Dirs ∷ rest))

-- Where an abort must come, for these tokens and these bytes, where there is room.
pub record Aborts (answer : Answer) (way : Way) (tokens : List Token) (bytes : List ℕ) : Type 0 where
  pub short : TakeOneByte tokens → (answer ≡ AbortAll) ↔ EndsShort way tokens bytes
  pub long : TakeOneByte tokens → (answer ≡ AbortAll) ⊎ ((answer ≡ Match) ⊎ (answer ≡ NoMatch))
  pub crossing : BeginsCrossing tokens → answer ≢ NoMatch

-- What one attempt answers, from a place of the pattern and a place of the value. At depth 64 it gives up. There is room where the
-- depth, and the number of star tokens from the place of the pattern on, make at most 63 together.
pub record IsAttempt (answer : Answer) (pattern : List ℕ) (i : ℕ) (value : List ℕ) (k : ℕ) (way : Way) (depth : ℕ) : Type 0 where
  pub split : answer ≡ Match → SplitsFrom value k pattern i way
  pub room : (tokens : List Token) → From way pattern i tokens → depth + star_count tokens ≤ 63
      → Excludes answer pattern i value k way × Aborts answer way tokens (drop k value)
  pub path : answer ≡ AbortToStarStar → IsTrue (is_path way)
  pub limit : depth ≡ 64 → answer ≡ RecursionLimitReached
