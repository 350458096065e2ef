-- Told paths that are answered one after the other: those that records name, or those of words.
use Rattle.std.specs.Prelude.{◌≡◌, ℕ, Bool, if◌then◌else◌, List, [], ◌∷◌, ◌++◌, Option}
use Rattle.std.specs.Io.KnownBytes.{Appends}
use Rattle.std.specs.List.{AllZip}
use Rattle.byte_streams.specs.Records.{TextOf}
use Rattle.tree_answers.specs.declared.form.Form.{Form}
use Rattle.tree_answers.specs.Records.{NamesPath}

-- the text is that of the paths that the records name, in order: `IsText paths text` says which text is that of told paths
abbrev pub TextOfNamed : (List (List ℕ) → List ℕ → Type 0) → Form → List (List ℕ) → List ℕ → Type 0
TextOfNamed IsText form records text = (paths : List (List ℕ)) × AllZip (NamesPath form) records paths × IsText paths text

-- a text that is allowed was written
abbrev pub Writes : (List ℕ → Type 0) → (List ℕ → Type 0) → Type 0
Writes IsText Written = (text : List ℕ) × IsText text × Written text

-- the text is that of the first of these paths, or of all
abbrev pub IsTextOfFirst : (List ℕ → List ℕ → Type 0) → List (List ℕ) → List ℕ → Type 0
IsTextOfFirst Answers paths text = (first behind : List (List ℕ)) × (paths ≡ first ++ behind) × TextOf Answers first text

-- The first of these paths were answered, and the next one got this fault. The text of the first ones was written, where it is to be
-- kept, and else nothing.
pub record StopsAt {F : Type 0} (Answers : List ℕ → List ℕ → Type 0) (Refuses : List ℕ → F → Type 0) (paths : List (List ℕ)) (is_kept : Bool) (old new : Option (List ℕ)) (fault : F) : Type 0 where
  pub first : List (List ℕ)
  pub told : List ℕ
  pub behind : List (List ℕ)
  pub joined : paths ≡ first ++ told ∷ behind
  pub refused : Refuses told fault
  pub text : List ℕ
  pub allowed : TextOf Answers first text
  pub written : Appends old new (if is_kept then text else [])
