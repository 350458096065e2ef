-- What the searches after a star answer: where the rest of a pattern may begin in the value, and what a failed search excludes.
use Rattle.std.specs.Prelude.{◌≡◌, ◌≢◌, ℕ, ◌+◌, ◌-◌, ◌<◌, ◌≤◌, Option, None, Some, IsSomeAnd, List, length, slice_index}
use Rattle.glob_matcher.specs.declared.wildmatch.way.Way.{Way}
use Rattle.glob_matcher.specs.declared.wildmatch.pruned.Answer.{Answer}
use Rattle.glob_matcher.specs.declared.wildmatch.pruned.Answer.TheVariants.{Match, NoMatch, AbortAll, AbortToStarStar, RecursionLimitReached}
use Rattle.glob_matcher.specs.declared.wildmatch.tokens.TokenKind.{TokenKind}
use Rattle.glob_matcher.specs.declared.wildmatch.tokens.TokenKind.TheVariants as kind
use Rattle.glob_matcher.specs.Bytes.{NoSlash, fold, slash}
use Rattle.glob_matcher.specs.Matching.{SplitsFrom}
use Rattle.glob_matcher.specs.Tokens.{IsToken, Token, From}
use Rattle.glob_matcher.specs.Pruning.{star_count}

-- the byte that a token of this kind asks for, where it asks for one
abbrev pub wanted_by : TokenKind → Option ℕ
wanted_by (kind.Byte b) = Some b
wanted_by _ = None

-- The token at place i of the pattern asks for this byte, or, where none is given, for none.
pub record AsksFor (way : Way) (pattern : List ℕ) (i : ℕ) (wanted : Option ℕ) : Type 0 where
  pub kind : TokenKind
  pub after : ℕ
  pub read : IsToken way pattern i kind after
  pub asks : wanted ≡ wanted_by kind

-- From place k up to place e the value has no byte that is the wanted one after folding. With none wanted, none is passed over.
pub record Skips (way : Way) (value : List ℕ) (wanted : Option ℕ) (k e : ℕ) : Type 0 where
  pub low : k ≤ e
  pub inside : e ≤ length value
  pub differs : (m : ℕ) → k ≤ m → m < e → IsSomeAnd wanted (λ b. fold way (slice_index value m) ≢ fold way b)

-- the value's component from place k on ends at place e: the first slash, or the value's end
pub record IsComponentEnd (value : List ℕ) (k e : ℕ) : Type 0 where
  pub low : k ≤ e
  pub inside : e ≤ length value
  pub none : NoSlash value k e
  pub ends : e < length value → slice_index value e ≡ slash

-- there is room: the depth, and the number of star tokens from place i of the pattern on, make at most 63 together
pub record HasRoom (pattern : List ℕ) (i : ℕ) (way : Way) (depth : ℕ) : Type 0 where
  pub tokens : List Token
  pub read : From way pattern i tokens
  pub few : depth + star_count tokens ≤ 63

-- What a search over all places of the value answers, for the tokens from place i of the pattern on.
pub record IsTriedEverywhere (answer : Answer) (pattern : List ℕ) (i : ℕ) (value : List ℕ) (k : ℕ) (way : Way) (depth : ℕ) : Type 0 where
  pub found : answer ≡ Match → (e : ℕ) × (k ≤ e) × (e ≤ length value) × SplitsFrom value e pattern i way
  pub lost : HasRoom pattern i way (depth + 1) → answer ≢ Match → (e : ℕ) → k ≤ e → e ≤ length value → ¬ SplitsFrom value e pattern i way
  pub limit : HasRoom pattern i way (depth + 1) → answer ≢ RecursionLimitReached
  pub not_here_alone : answer ≢ NoMatch
  pub not_component_alone : answer ≢ AbortToStarStar

-- What a search within a component of the value answers, for the tokens from place i of the pattern on.
pub record IsTriedInComponent (answer : Answer) (pattern : List ℕ) (i : ℕ) (value : List ℕ) (k : ℕ) (way : Way) (depth : ℕ) : Type 0 where
  pub found : answer ≡ Match → (e : ℕ) × (k ≤ e) × (e ≤ length value) × NoSlash value k e × SplitsFrom value e pattern i way
  pub lost : HasRoom pattern i way (depth + 1) → answer ≢ Match
      → (e : ℕ) → k ≤ e → e ≤ length value → NoSlash value k e → ¬ SplitsFrom value e pattern i way
  pub everywhere : HasRoom pattern i way (depth + 1) → answer ≡ AbortAll
      → (e : ℕ) → k ≤ e → e ≤ length value → ¬ SplitsFrom value e pattern i way
  pub limit : HasRoom pattern i way (depth + 1) → answer ≢ RecursionLimitReached

-- What a search for the directory of a double star with its slash answers, the token lying from place i up to place j.
pub record IsTriedInDirectories (answer : Answer) (pattern : List ℕ) (i j : ℕ) (value : List ℕ) (k : ℕ) (way : Way) (depth : ℕ) : Type 0 where
  pub found : answer ≡ Match → SplitsFrom value k pattern i way
  pub lost : HasRoom pattern j way (depth + 1) → answer ≢ Match
      → (e : ℕ) → k ≤ e → e ≤ length value → (e ≢ k → slice_index value (e - 1) ≡ slash) → ¬ SplitsFrom value e pattern i way
  pub limit : HasRoom pattern j way (depth + 1) → answer ≢ RecursionLimitReached
  pub not_here_alone : answer ≢ NoMatch
  pub not_component_alone : answer ≢ AbortToStarStar
