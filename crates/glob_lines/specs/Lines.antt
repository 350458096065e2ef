-- The lines of bytes, and texts that have one line for each of them.
use Rattle.std.specs.Prelude.{◌≡◌, ◌≢◌, ◌⊎◌, ℕ, List, [], ◌∷◌, ◌++◌}
use Rattle.std.specs.List.{AllZip, flat_map}
use Rattle.byte_streams.specs.Records.{HasNo}

-- the byte of a line feed
abbrev pub line_feed : ℕ
line_feed = 10

-- the texts, each followed by a line feed
abbrev pub text_of_lines : List (List ℕ) → List ℕ
text_of_lines texts = flat_map (λ text. text ++ line_feed ∷ []) texts

-- The bytes are a line without a line feed, its ending and the rest. `Ends line ending` says which endings a line has; the last
-- line may lack its ending where it isn't empty.
pub record CutsLine (Ends : List ℕ → List ℕ → Type 0) (bytes line rest : List ℕ) : Type 0 where
  pub whole : HasNo line_feed line
  pub ending : List ℕ
  pub joined : bytes ≡ line ++ (ending ++ rest)
  pub ended : Ends line ending ⊎ ((line ≢ []) × (ending ≡ []) × (rest ≡ []))

-- the lines of the bytes: the first one is cut off them, and the others are those of the rest
abbrev pub Lines : (List ℕ → List ℕ → Type 0) → List ℕ → List (List ℕ) → Type 0
Lines Ends bytes [] = bytes ≡ []
Lines Ends bytes (line ∷ lines) = (rest : List ℕ) × CutsLine Ends bytes line rest × Lines Ends rest lines

-- a line ends in a line feed
abbrev pub EndsInFeed : List ℕ → List ℕ → Type 0
EndsInFeed line ending = ending ≡ line_feed ∷ []

-- The text has one line for each line of the input, in order: `P line written` says what is written for a line.
pub record WritesLines (P : List ℕ → List ℕ → Type 0) (input text : List ℕ) : Type 0 where
  pub lines : List (List ℕ)
  pub cut : Lines EndsInFeed input lines
  pub written : List (List ℕ)
  pub each : AllZip P lines written
  pub joined : text ≡ text_of_lines written
