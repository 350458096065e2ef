-- Stripping a base from a path: what is left of the path, and where its last part then begins.
use Rattle.std.specs.Prelude.{false, ◌≡◌, ◌==◌, ◌≤◌, ⊤, ℕ, ◌-◌, ◌*◌, min, if◌then◌else◌, List, length, ◌++◌, Option, None, Some}
use Rattle.std.specs.Option.{ForSome}
use Rattle.glob_patterns.specs.declared.pattern.case.Case.{Case}
use Rattle.glob_patterns.specs.declared.pattern.case.Case.TheVariants.{Sensitive, Fold}
use Rattle.glob_matcher.specs.declared.wildmatch.way.Way.TheVariants.{FoldedPlain}
use Rattle.glob_patterns.specs.Folding.{folding_of}

-- the bytes that are compared: those of the text, or where case doesn't count those after folding
abbrev pub folding_by : Case → List ℕ → List ℕ
folding_by Sensitive text = text
folding_by Fold text = folding_of FoldedPlain text

-- the path is a front that equals the base, and then the rest
pub record Rest (case : Case) (base path rest : List ℕ) : Type 0 where
  pub front : List ℕ
  pub joined : path ≡ front ++ rest
  pub same : folding_by case front ≡ folding_by case base

-- the same for a base that may be missing: then the whole path is left
abbrev pub RestOf : Case → Option (List ℕ) → List ℕ → List ℕ → Type 0
RestOf case None path rest = rest ≡ path
RestOf case (Some base) path rest = Rest case base path rest

-- a place in the path, as a place in what follows the base; the rest's own beginning is no place
abbrev pub stripped_place : ℕ → Option ℕ → Option ℕ
stripped_place base_len None = None
stripped_place base_len (Some at) = if at - base_len == 0 then None else Some (at - base_len)

-- the same for a base that may be missing: then each place is as it was
abbrev pub place_after : Option (List ℕ) → Option ℕ → Option ℕ
place_after None place = place
place_after (Some base) place = stripped_place (length base) place

-- nothing is left: the path does not begin with the base
abbrev pub NothingLeft : Case → Option (List ℕ) → List ℕ → Type 0
NothingLeft case base path = (rest : List ℕ) → ¬ RestOf case base path rest

-- where the path begins with the base, the place is not before the base's end
abbrev pub IsPlaced : Case → Option (List ℕ) → List ℕ → Option ℕ → Type 0
IsPlaced case None path place = ⊤
IsPlaced case (Some base) path place = (rest : List ℕ) → Rest case base path rest → ForSome place (λ at. length base ≤ at)

-- how many looks stripping a base counts: at each byte of the base as far as the path goes, and at the path's byte beside it
abbrev pub strip_looks : Option (List ℕ) → ℕ → ℕ
strip_looks None v = 0
strip_looks (Some base) v = 2 * min (length base) v
