-- Records of bytes, each ended by one byte, and what is written for them.
use Rattle.std.specs.Prelude.{◌≡◌, ◌≢◌, ◌⊎◌, ℕ, List, [], ◌∷◌, ◌++◌}
use Rattle.std.specs.List.{AllByRecursion, AllZip, concat, flat_map}

-- no byte of the text is this one
abbrev pub HasNo : ℕ → List ℕ → Type 0
HasNo byte text = AllByRecursion (λ b. b ≢ byte) text

-- the bytes are what stands before the first such byte, that byte, and the rest
pub record IsCutAt (byte : ℕ) (bytes front rest : List ℕ) : Type 0 where
  pub none : HasNo byte front
  pub joined : bytes ≡ front ++ byte ∷ rest

-- the records, each followed by the byte that ends it
abbrev pub ended_bytes : ℕ → List (List ℕ) → List ℕ
ended_bytes end records = flat_map (λ each. each ++ end ∷ []) records

-- the bytes begin with these records, each ended by the byte, and then comes the rest
pub record BeginsWith (end : ℕ) (bytes : List ℕ) (records : List (List ℕ)) (rest : List ℕ) : Type 0 where
  pub joined : bytes ≡ ended_bytes end records ++ rest
  pub each : AllByRecursion (HasNo end) records

-- the record that these bytes are, which lack an end: none where there are no bytes
abbrev pub last_record : List ℕ → List (List ℕ)
last_record [] = []
last_record (b ∷ bytes) = (b ∷ bytes) ∷ []

-- the records of the bytes: those that are ended, and what follows them, which lacks its end
pub record AreRecords (end : ℕ) (bytes : List ℕ) (records : List (List ℕ)) : Type 0 where
  pub ended : List (List ℕ)
  pub rest : List ℕ
  pub begins : BeginsWith end bytes ended rest
  pub unended : HasNo end rest
  pub all : records ≡ ended ++ last_record rest

-- the text is that of the records in order: `Answers record written` says what may be written for one
pub record TextOf (Answers : List ℕ → List ℕ → Type 0) (records : List (List ℕ)) (text : List ℕ) : Type 0 where
  pub written : List (List ℕ)
  pub each : AllZip Answers records written
  pub joined : text ≡ concat written

-- the text is that of all records of the bytes: `IsText records text` says which text is that of records
pub record AnswersAll (IsText : List (List ℕ) → List ℕ → Type 0) (end : ℕ) (bytes text : List ℕ) : Type 0 where
  pub records : List (List ℕ)
  pub are : AreRecords end bytes records
  pub answered : IsText records text

-- the text is that of the ended records before the rest
pub record AnswersBefore (IsText : List (List ℕ) → List ℕ → Type 0) (end : ℕ) (bytes rest text : List ℕ) : Type 0 where
  pub records : List (List ℕ)
  pub begins : BeginsWith end bytes records rest
  pub answered : IsText records text

-- the text is that of the first records, so many that are ended
abbrev pub AnswersFirst : (List (List ℕ) → List ℕ → Type 0) → ℕ → List ℕ → List ℕ → Type 0
AnswersFirst IsText end bytes text = (rest : List ℕ) × AnswersBefore IsText end bytes rest text

-- the text is that of all records that are ended
abbrev pub AnswersEnded : (List (List ℕ) → List ℕ → Type 0) → ℕ → List ℕ → List ℕ → Type 0
AnswersEnded IsText end bytes text = (rest : List ℕ) × HasNo end rest × AnswersBefore IsText end bytes rest text

-- the text is that of the first records, or of all
abbrev pub AnswersSome : (List (List ℕ) → List ℕ → Type 0) → ℕ → List ℕ → List ℕ → Type 0
AnswersSome IsText end bytes text = AnswersFirst IsText end bytes text ⊎ AnswersAll IsText end bytes text
