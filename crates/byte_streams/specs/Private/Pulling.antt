-- What a reader of records does each time when it is asked for one, and what becomes of the texts.
use Rattle.std.specs.Prelude.{◌≡◌, ◌≢◌, ◌⊎◌, ℕ, ◌+◌, ◌≤◌, Bool, true, false, List, [], ◌∷◌, ◌++◌, length, Option}
use Rattle.std.specs.Io.KnownBytes.{Consumes, IsAtEnd}
use Rattle.byte_streams.specs.Records.{HasNo, IsCutAt}
use Rattle.byte_streams.specs.declared.records.Records.{Records}

-- the bytes that are held are bytes of the piece
pub record HoldsSome (records : Records) : Type 0 where
  pub order : records.at ≤ records.count
  pub inside : records.count ≤ length records.piece

-- the record that has begun got what was held up to its end, or all of it
abbrev pub TakesRest : Bool → ℕ → List ℕ → List ℕ → List ℕ → List ℕ → Type 0
TakesRest true end held begun grown left = (front : List ℕ) × IsCutAt end held front left × (grown ≡ begun ++ front)
TakesRest false end held begun grown left = HasNo end held × (left ≡ []) × (grown ≡ begun ++ held)

-- what is held, with what was read on, begins with a record and its end
pub record IsEnded (end : ℕ) (waiting given left : List ℕ) : Type 0 where
  pub joined : waiting ≡ given ++ end ∷ left

-- what is held, with what was read on, is the last record, which lacks its end
pub record IsLast (rest : Option (List ℕ)) (waiting given left : List ℕ) : Type 0 where
  pub some : given ≢ []
  pub whole : waiting ≡ given
  pub none : left ≡ []
  pub ended : IsAtEnd rest

-- A record was given. Each read gave a byte, but the one that found the end.
pub record Gives (end : ℕ) (held given left : List ℕ) (is_ended : Bool) (before rest : Option (List ℕ)) (reads reads_left : ℕ) : Type 0 where
  pub more : List ℕ
  pub consumed : Consumes before rest more
  pub unended : HasNo end given
  pub stands : ((is_ended ≡ false) × IsEnded end (held ++ more) given left × (reads ≤ reads_left + length more)) ⊎ ((is_ended ≡ true) × IsLast rest (held ++ more) given left)

-- there was no further byte
pub record Ends (held : List ℕ) (before rest : Option (List ℕ)) : Type 0 where
  pub more : List ℕ
  pub consumed : Consumes before rest more
  pub none : held ++ more ≡ []
  pub ended : IsAtEnd rest

-- a record was given, or there is none
abbrev pub Goes : Bool → ℕ → List ℕ → List ℕ → List ℕ → Bool → Bool → Option (List ℕ) → Option (List ℕ) → ℕ → ℕ → Type 0
Goes true end held given left was_ended is_ended before rest reads reads_left = (was_ended ≡ false) × Gives end held given left is_ended before rest reads reads_left
Goes false end held given left was_ended is_ended before rest reads reads_left = Ends held before rest
