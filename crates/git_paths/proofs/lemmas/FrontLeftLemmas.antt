-- How much of a path stays in front, by how many names stand behind that.
use Rattle.std.proofs.Common.{◌≡◌, ⊎_elim, ℕ, zero, suc, ◌+◌, ◌-◌, ◌≤◌, min, Bool, true, false, List, [], ◌∷◌, length, length-append, Option, Some, refl, sym, ap, ◌∙◌, arith}
use Rattle.std.specs.Prelude.{◌==◌, ◌||◌, not, if◌then◌else◌}
use Rattle.std.specs.List.{list_any}
use Rattle.std.specs.Option.{option_map, unwrap_or}
use Rattle.std.specs.Str.{byte}
use Rattle.std.proofs.Math.Nat.{min-eq_left, min-eq_right}
use Rattle.std.proofs.lemmas.Bool.{cases_Bool, ne_eqb}
use Rattle.std.proofs.lemmas.List.Splits.{length-slice_split}
use Rattle.std.proofs.lemmas.List.Sums.{count_by-le-length}
use Rattle.git_paths.specs.Paths.{above, below, folder_of, goes_up, is_name, is_slash, parts_of, stays}
use Rattle.git_paths.specs.Private.Fronts.{front_by}
use Rattle.git_paths.specs.Standpoints.{front_left}
use Rattle.git_paths.proofs.lemmas.SeenLemmas.{HaveNoSlash, above_below, parts_have_no_slash}
use Rattle.git_paths.proofs.lemmas.PathLemmas.{HasNoSlash}

-- so many steps up from a path lead to the front
abbrev IsAt : ℕ → List ℕ → List ℕ → Type 0
IsAt zero front path = path ≡ front
IsAt (suc depth) front path = (from : List ℕ) × (above path ≡ Some from) × IsAt depth front from × (length front ≤ length path)

not_shorter : (depth : ℕ) (front path : List ℕ) → IsAt depth front path → length front ≤ length path
not_shorter zero front path is = omega (arith, ap length is)
not_shorter (suc depth) front path is = is.3

-- the folder of a path is no longer, and what is below is
folder_shorter : (path : List ℕ) → length (folder_of path) ≤ length path
folder_shorter [] = omega arith
folder_shorter (b ∷ path) = let later = folder_shorter path in ⊎_elim
    (λ (some : list_any is_slash path ≡ true). rw some (omega arith))
    (λ (none : list_any is_slash path ≡ false). rw none (omega arith))
    (cases_Bool (list_any is_slash path))

below_longer : (path name : List ℕ) → length path ≤ length (below path name)
below_longer [] name = omega arith
below_longer (b ∷ path) name = omega (arith, length-append (b ∷ path) (byte "/" ∷ name))

-- nothing stays of nothing
nothing_by : (parts : List (List ℕ)) → ((depth : ℕ) → front_by depth [] parts ≡ 0) → (stay up none : Bool) (depth : ℕ)
    → (if stay then front_by depth [] parts else (if up then (if none then front_by 0 [] parts else front_by (depth - 1) [] parts) else front_by (depth + 1) [] parts)) ≡ 0
nothing_by parts later true up none depth = later depth
nothing_by parts later false true true depth = later 0
nothing_by parts later false true false depth = later (depth - 1)
nothing_by parts later false false none depth = later (depth + 1)

nothing_stays : (parts : List (List ℕ)) (depth : ℕ) → front_by depth [] parts ≡ 0
nothing_stays [] depth = refl
nothing_stays (part ∷ parts) depth = nothing_by parts (λ d. nothing_stays parts d) (stays part) (goes_up part) (depth == 0) depth

-- what stays, where the next path is known
abbrev after : ℕ → List (List ℕ) → Option (List ℕ) → ℕ
after least parts found = unwrap_or (option_map (λ next. front_left (min least (length next)) next parts) found) least

module _ (parts : List (List ℕ)) (later : (depth : ℕ) (front path : List ℕ) → IsAt depth front path → front_left (length front) path parts ≡ front_by depth front parts) where
  -- the front stays
  kept : (depth : ℕ) (front next : List ℕ) → IsAt depth front next → after (length front) parts (Some next) ≡ front_by depth front parts
  kept depth front next is =
      let least : min (length front) (length next) ≡ length front = min-eq_left (not_shorter depth front next is) in
      ap (λ n. front_left n next parts) least ∙ later depth front next is

  -- it is gone up from
  left : (front : List ℕ) → after (length front) parts (above front) ≡ front_by 0 (folder_of front) parts
  left [] = sym (nothing_stays parts 0)
  left (b ∷ front) =
      let least : min (length (b ∷ front)) (length (folder_of (b ∷ front))) ≡ length (folder_of (b ∷ front)) = min-eq_right (folder_shorter (b ∷ front)) in
      ap (λ n. front_left n (folder_of (b ∷ front)) parts) least ∙ later 0 (folder_of (b ∷ front)) (folder_of (b ∷ front)) refl

  by_step : (stay up : Bool) (depth : ℕ) (front path part : List ℕ) → IsAt depth front path → HasNoSlash part → not (stay || up) ≡ is_name part
      → after (length front) parts (if stay then Some path else (if up then above path else Some (below path part)))
      ≡ (if stay then front_by depth front parts
      else (if up then (if depth == 0 then front_by 0 (folder_of front) parts else front_by (depth - 1) front parts) else front_by (depth + 1) front parts))
  by_step true up depth front path part is none name = kept depth front path is
  by_step false true zero front path part is none name = ap (λ from. after (length front) parts (above from)) is ∙ left front
  by_step false true (suc depth) front path part is none name =
      let other : (suc depth == 0) ≡ false = ne_eqb (suc depth) 0 (λ same. absurd (omega (arith, same))) in
      let back : suc depth - 1 ≡ depth = omega arith in
      rw other (rw back (ap (after (length front) parts) is.1 ∙ kept depth front is.0 is.2))
  by_step false false depth front path part is none name =
      let more : depth + 1 ≡ suc depth = omega arith in
      let long : length front ≤ length (below path part) = omega (arith, not_shorter depth front path is, below_longer path part) in
      rw more (kept (suc depth) front (below path part) (path, above_below path part (sym name) none, is, long))

front_left_by : (parts : List (List ℕ)) (depth : ℕ) (front path : List ℕ) → HaveNoSlash parts → IsAt depth front path → front_left (length front) path parts ≡ front_by depth front parts
front_left_by [] depth front path none is = refl
front_left_by (part ∷ parts) depth front path none is =
    by_step parts (λ d f p at. front_left_by parts d f p none.1 at) (stays part) (goes_up part) depth front path part is none.0 refl

-- what stays of a folder's path, by counting from there
pub front_left_is : (folder told : List ℕ) → front_left (length folder) folder (parts_of told) ≡ front_by 0 folder (parts_of told)
front_left_is folder told = front_left_by (parts_of told) 0 folder folder (parts_have_no_slash told) refl

-- each name behind the front was told, by a byte at least and a slash
pub few_behind : (told left : List ℕ) (depth : ℕ) → depth + length (parts_of left) ≤ length (parts_of told) → depth ≤ length told
few_behind told left depth few = omega (arith, length-slice_split is_slash told, count_by-le-length is_slash told, length-slice_split is_slash left)
