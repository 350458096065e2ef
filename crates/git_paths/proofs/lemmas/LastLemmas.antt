-- The last name of a path and its folder, by its last slash.
use Rattle.std.proofs.Common.{◌≡◌, ◌≢◌, inl, inr, ℕ, suc, ◌+◌, ◌<◌, List, [], ◌∷◌, ◌++◌, length, take, drop, get_or, ap, sym, ◌∙◌, refl, arith, eq-eqb}
use Rattle.std.specs.Prelude.{Some, None}
use Rattle.std.specs.List.{AllByRecursion}
use Rattle.std.specs.Str.{byte}
use Rattle.std.proofs.lemmas.Bool.{eqb-true}
use Rattle.std.proofs.lemmas.List.{drop_more, get_or-drop, length-drop, take-append-drop}
use Rattle.memchr.specs.Find.{IsLastByte, is_byte}
use Rattle.git_paths.specs.Paths.{IsLastName, folder_of}
use Rattle.git_paths.proofs.lemmas.SeenLemmas.{folder_of_below, folder_of_name}

all_other : (text : List ℕ) → ((j : ℕ) → j < length text → get_or text j 0 ≢ byte "/") → AllByRecursion (λ b. b ≢ byte "/") text
all_other [] other = tt
all_other (b ∷ text) other = (other 0 (omega arith), all_other text (λ j below. other (suc j) (omega arith)))

-- the path is cut at its last slash
record IsCut (path : List ℕ) (at : ℕ) : Type 0 where
  pub joined : path ≡ take at path ++ byte "/" ∷ drop (at + 1) path
  pub none : AllByRecursion (λ b. b ≢ byte "/") (drop (at + 1) path)

cut_at : (path : List ℕ) (at : ℕ) → IsLastByte (is_byte (byte "/")) path (Some at) → IsCut path at
cut_at path at found =
    let len = length-drop (at + 1) path in
    let slash = ap (λ b. b ∷ drop (at + 1) path) (eqb-true (get_or path at 0) (byte "/") found.1) in
    record {
      joined = sym (take-append-drop at path) ∙ ap (λ rest. take at path ++ rest) (drop_more path at 0 found.0.high ∙ slash);
      none = all_other (drop (at + 1) path) (λ j below is.
          found.0.after (at + 1 + j) (omega arith) (omega (arith, len)) (eq-eqb (get_or path (at + 1 + j) 0) (byte "/") (sym (get_or-drop (at + 1) path j 0) ∙ is)));
    }

-- what stands behind the last slash, and before it
pub last_name_behind : (path : List ℕ) (at : ℕ) → IsLastByte (is_byte (byte "/")) path (Some at) → IsLastName path (drop (at + 1) path)
last_name_behind path at found =
    let cut = cut_at path at found in
    (cut.none, inr (take at path, cut.joined))

pub folder_of_found : (path : List ℕ) (at : ℕ) → IsLastByte (is_byte (byte "/")) path (Some at) → folder_of path ≡ take at path
folder_of_found path at found =
    let cut = cut_at path at found in
    ap folder_of cut.joined ∙ folder_of_below (take at path) (drop (at + 1) path) cut.none

-- a path without a slash: all of it is its name, and nothing its folder
pub last_name_whole : (path : List ℕ) → IsLastByte (is_byte (byte "/")) path None → IsLastName path path
last_name_whole path none = (all_other path (λ j below is. none j (omega arith) below (eq-eqb (get_or path j 0) (byte "/") is)), inl refl)

pub folder_of_not_found : (path : List ℕ) → IsLastByte (is_byte (byte "/")) path None → folder_of path ≡ []
folder_of_not_found path none = folder_of_name path (last_name_whole path none).0
