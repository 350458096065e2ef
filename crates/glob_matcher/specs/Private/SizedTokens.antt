-- The reading of a pattern in tokens, each with the number of bytes that spell it.
use Rattle.std.specs.Prelude.{◌≡◌, ℕ, ◌+◌, ◌-◌, List, [], ◌∷◌, length}
use Rattle.glob_matcher.specs.declared.wildmatch.way.Way.{Way}
use Rattle.glob_matcher.specs.Tokens.{Token, TokenAt}

-- a token, and how many bytes spell it
pub record SizedToken : Type 0 where
  pub token : Token
  pub width : ℕ

-- the token that is spelled from place i up to place j
abbrev pub sized : ℕ → Token → ℕ → SizedToken
sized i t j = record { token = t; width = j - i }

-- the tokens from place i on, up to the pattern's end
abbrev pub SizedTokensFrom : Way → List ℕ → ℕ → List SizedToken → Type 0
SizedTokensFrom way pattern i [] = i ≡ length pattern
SizedTokensFrom way pattern i (x ∷ xs) = TokenAt way pattern i x.token (i + x.width) × SizedTokensFrom way pattern (i + x.width) xs
