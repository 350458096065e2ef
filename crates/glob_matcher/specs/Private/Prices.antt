-- What the engine with two marks may take at the tokens of a pattern, by the place of the value at which it stands. What is
-- counted is either its steps or its looks.
use Rattle.std.specs.Prelude.{ℕ, ◌+◌, ◌-◌, ◌*◌, Bool, List, [], ◌∷◌, length, if◌then◌else◌}
use Rattle.glob_matcher.specs.declared.wildmatch.way.Way.{Way}
use Rattle.glob_matcher.specs.Steps.{Counts}
use Rattle.glob_matcher.specs.Tokens.{Token, kind_of}
use Rattle.glob_matcher.specs.Private.Reader.{is_star}
use Rattle.glob_matcher.specs.Private.Components.{separates, next_component}
use Rattle.glob_matcher.specs.Private.SizedTokens.{SizedToken}

-- what is counted
pub data Measure : Type 0 where
  Steps : Measure
  Looks : Measure

-- so many steps, or so many looks
unfoldable pub amount : Measure → ℕ → ℕ → ℕ
amount Steps steps looks = steps
amount Looks steps looks = looks

unfoldable pub amount_of : Measure → Counts → ℕ
amount_of measure counts = amount measure counts.steps counts.looks

-- a number, for a star token alone
unfoldable pub for_star : Token → ℕ → ℕ
for_star t n = if is_star (kind_of t) then n else 0

-- The move of a mark by one byte: the look at that byte, and the looks at the byte after the star, which are none where the
-- mark doesn't move.
unfoldable pub move : Measure → ℕ
move measure = amount measure 1 4

-- The test of a token at one place of the value: the looks that read the token, and those at the byte of the value and at the
-- byte after the token.
unfoldable pub test : Measure → SizedToken → ℕ
test measure x = amount measure 1 (8 * x.width - for_star x.token 4)

-- all that a token may take at one place: its test and, of a star, a move of its mark
unfoldable pub token_cost : Measure → SizedToken → ℕ
token_cost measure x = test measure x + for_star x.token (move measure)

-- the test of the first of the tokens, or of the pattern's end
unfoldable pub first_test : Measure → List SizedToken → ℕ
first_test measure [] = 1
first_test measure (x ∷ xs) = test measure x

-- where the tests of the token after one begin
unfoldable pub tests_after : Way → List ℕ → Bool → ℕ → ℕ
tests_after way v apart k = if apart then next_component way v k else k

-- the places from k on, the value's end included
unfoldable pub places_left : List ℕ → ℕ → ℕ
places_left v k = length v + 1 - k

-- what the tokens may take from place k of the value on, over all the later places of the mark before them
unfoldable pub cost : Measure → Way → List ℕ → List SizedToken → ℕ → ℕ
cost measure way v [] k = places_left v k
cost measure way v (x ∷ xs) k = token_cost measure x * places_left v k + cost measure way v xs (tests_after way v (separates way x.token) k)

-- the place where the next tests of these tokens may begin
unfoldable pub next_tests_at : Way → List ℕ → List SizedToken → ℕ → ℕ
next_tests_at way v [] k = next_component way v k
next_tests_at way v (x ∷ xs) k = if separates way x.token then k + 1 else next_component way v k

-- what the tokens up to the first that ends a component, or the pattern's end, may take at one place
unfoldable pub component_cost : Measure → Way → List SizedToken → ℕ
component_cost measure way [] = 1
component_cost measure way (x ∷ xs) = token_cost measure x + (if separates way x.token then 0 else component_cost measure way xs)
