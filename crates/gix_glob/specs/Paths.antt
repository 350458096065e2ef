-- Path texts: their parts, and the base of a source under a root.
use Rattle.std.specs.Prelude.{◌≡◌, ◌≢◌, ◌⊎◌, ℕ, Bool, ◌||◌, ◌==◌, not, if◌then◌else◌, List, [], ◌∷◌, ◌++◌, drop, filter, Option, None, Some, MatchOption, codes}
use Rattle.std.specs.List.{flat_map, slice_split, list_any}
use Rattle.std.specs.Str.{bytes_eq}
use Rattle.glob_matcher.specs.Bytes.{EndsInSlash, slash}

-- the pieces between slashes
abbrev pub pieces : List ℕ → List (List ℕ)
pieces text = slice_split (λ b. b == slash) text

-- the first part: a slash where the text begins with one, and else its first piece, where that is not empty
abbrev pub front_part : List (List ℕ) → List (List ℕ)
front_part [] = []
front_part ([] ∷ []) = []
front_part ([] ∷ next ∷ more) = codes "/" ∷ []
front_part ((b ∷ bs) ∷ more) = (b ∷ bs) ∷ []

-- the parts among the pieces past the first: all but those that are empty or `.`
abbrev pub named_parts : List (List ℕ) → List (List ℕ)
named_parts ps = filter (λ piece. not (bytes_eq piece [] || bytes_eq piece (codes "."))) ps

-- the parts of a path text
abbrev pub parts : List ℕ → List (List ℕ)
parts text = front_part (pieces text) ++ named_parts (drop 1 (pieces text))

-- whether some part of the source can name a file: it is not the leading slash
abbrev pub has_file_part : List ℕ → Bool
has_file_part source = list_any (λ part. not (bytes_eq part (codes "/"))) (parts source)

-- a part with a slash after it; the leading slash needs no other
abbrev pub folder : List ℕ → List ℕ
folder part = if bytes_eq part (codes "/") then part else part ++ codes "/"

-- The base is the text of the folders between the root and the file, of which there is one at least: the parts of the source are
-- those of the root, these folders, and the file.
pub record HasBase (source root base : List ℕ) : Type 0 where
  pub between : List (List ℕ)
  pub file : List ℕ
  pub joined : parts source ≡ parts root ++ (between ++ file ∷ [])
  pub some : between ≢ []
  pub shown : base ≡ flat_map folder between

-- The base of a source under a root, where there is one. Without a root there is none.
abbrev pub Base : List ℕ → Option (List ℕ) → Option (List ℕ) → Type 0
Base source None base = base ≡ None
Base source (Some root) base = MatchOption base ((text : List ℕ) → ¬ HasBase source root text) (HasBase source root)

-- the text names the folder that a path begins with: it is empty, or ends in a slash
abbrev pub IsFolder : List ℕ → Type 0
IsFolder text = (text ≡ []) ⊎ EndsInSlash text
