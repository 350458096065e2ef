-- The base of a source by the parts that lie below the root.
use Rattle.std.proofs.Common.{◌≡◌, ◌≢◌, ℕ, ◌≤◌, List, [], ◌∷◌, ◌++◌, length, Option, Some, None, refl, sym, ap, ◌∙◌, subst, arith, length-append, append_assoc, append-nil, codes, Bool, true, false, if◌then◌else◌, Result, IfOk, option_map, Vec, Global}
use Rattle.std.specs.List.{flat_map}
use Rattle.std.specs.Vec.{vec_items}
use Rattle.std.proofs.lemmas.List.{nil_from_length}
use Rattle.std.proofs.lemmas.Result.{IfOk-weaker}
use Rattle.std.proofs.lemmas.Slice.Eq.{bytes_eq-Decides}
use Rattle.gix_glob.specs.Paths.{parts, folder, HasBase, Base}
use Rattle.gix_glob.specs.Private.Bases.{base_below, without_last}
use Rattle.glob_matcher.specs.Bytes.{EndsInSlash}
use Rattle.std.specs.Str.{bytes_eq}

-- a list that is not empty has a last element
last_part : (part : List ℕ) (more : List (List ℕ)) → (last : List ℕ) × (part ∷ more ≡ without_last (part ∷ more) ++ last ∷ [])
last_part part [] = (part, refl)
last_part part (next ∷ more) = (let end = last_part next more in (end.0, ap (λ ps. part ∷ ps) end.1))

-- no folder lies between a root and what has at most one part more
too_few : (source root : List ℕ) (below : List (List ℕ)) → parts source ≡ parts root ++ below → length below ≤ 1 → (text : List ℕ) → ¬ HasBase source root text
too_few source root below joined short text h =
    h.some (nil_from_length h.between (omega (arith, ap length joined, ap length h.joined, length-append (parts root) below, length-append (parts root) (h.between ++ h.file ∷ []), length-append h.between (h.file ∷ []))))

-- the base of a source whose parts begin with those of the root
pub Base-below : (source root : List ℕ) (below : List (List ℕ)) → parts source ≡ parts root ++ below → Base source (Some root) (base_below below)
Base-below source root [] joined = too_few source root [] joined (omega arith)
Base-below source root (file ∷ []) joined = too_few source root (file ∷ []) joined (omega arith)
Base-below source root (part ∷ next ∷ more) joined =
    let end = last_part part (next ∷ more) in
    record {
      between = without_last (part ∷ next ∷ more);
      file = end.0;
      joined = joined ∙ ap (λ ps. parts root ++ ps) end.1;
      some = λ empty. cc;
      shown = refl;
    }

-- there is no base where they do not
pub Base-aside : (source root : List ℕ) → ((below : List (List ℕ)) → parts source ≢ parts root ++ below) → Base source (Some root) None
Base-aside source root aside = λ text h. aside (h.between ++ h.file ∷ []) h.joined

-- the same, as a call answers it
pub Base-of_answer : {E : Type 0} (source root : List ℕ) (below : List (List ℕ)) (answer : Result (Option (Vec ℕ Global)) E) → parts source ≡ parts root ++ below → IfOk answer (λ base. option_map vec_items base ≡ base_below below) → IfOk answer (λ base. Base source (Some root) (option_map vec_items base))
Base-of_answer source root below answer joined answered =
    IfOk-weaker answer _ _ (λ base is. subst (Base source (Some root)) (sym is) (Base-below source root below joined)) answered

-- each text of folders ends in a slash, where there is one
folder_cases : (part : List ℕ) (b : Bool) → (b ≡ true → part ≡ codes "/") → EndsInSlash (if b then part else part ++ codes "/")
folder_cases part true same = record { front = []; joined = same refl }
folder_cases part false same = record { front = part; joined = refl }

folder_ends : (part : List ℕ) → EndsInSlash (folder part)
folder_ends part = folder_cases part (bytes_eq part (codes "/")) (bytes_eq-Decides part (codes "/")).0

folders_end : (part : List ℕ) (more : List (List ℕ)) → EndsInSlash (flat_map folder (part ∷ more))
folders_end part [] = let end = folder_ends part in record { front = end.front; joined = append-nil (folder part) ∙ end.joined }
folders_end part (next ∷ more) = let end = folders_end next more in record { front = folder part ++ end.front; joined = ap (λ text. folder part ++ text) end.joined ∙ sym (append_assoc (folder part) end.front (codes "/")) }

some_folders_end : (between : List (List ℕ)) → between ≢ [] → EndsInSlash (flat_map folder between)
some_folders_end [] some = absurd (some refl)
some_folders_end (part ∷ more) some = folders_end part more

pub base_ends : (source : List ℕ) (root : Option (List ℕ)) (base : List ℕ) → Base source root (Some base) → EndsInSlash base
base_ends source None base none = absurd (cc)
base_ends source (Some root) base has = subst EndsInSlash (sym has.shown) (some_folders_end has.between has.some)
