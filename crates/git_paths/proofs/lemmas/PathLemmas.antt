-- Parts of told paths, and the folder of a path.
use Rattle.std.proofs.Common.{◌≡◌, ◌≢◌, ℕ, zero, suc, ◌+◌, ◌<◌, Bool, true, false, List, [], ◌∷◌, ◌++◌, length, take, drop, get_or, ap, sym, subst, ◌∙◌, refl, arith, eq-eqb, le_refl, take_all, take-append-drop}
use Rattle.std.specs.Prelude.{◌||◌, Some, None}
use Rattle.std.specs.List.{AllByRecursion, list_any}
use Rattle.std.specs.Str.{byte}
use Rattle.std.proofs.lemmas.Grind.{common_steps}
use Rattle.memchr.specs.Find.{IsFirstByte, is_byte}
use Rattle.std.proofs.lemmas.Bool.{eqb-true}
use Rattle.std.proofs.lemmas.List.{drop_more}
use Rattle.std.proofs.lemmas.List.Splits.{length-slice_split}
use Rattle.git_paths.specs.Paths.{folder_of, is_slash, names_folder, parts_of}

-- no byte is a slash
abbrev pub HasNoSlash : List ℕ → Type 0
HasNoSlash bytes = AllByRecursion (λ b. b ≢ byte "/") bytes

pub eqb_false : (b : ℕ) → b ≢ byte "/" → is_slash b ≡ false
eqb_false b other = grind (arith, common_steps)

-- what stands before a slash is the first part
pub split_cut : (front rest : List ℕ) → HasNoSlash front → parts_of (front ++ byte "/" ∷ rest) ≡ front ∷ parts_of rest
split_cut [] rest none = refl
split_cut (b ∷ front) rest none =
    let no = eqb_false b none.0 in
    let later = split_cut front rest none.1 in
    rw no (rw later refl)

-- bytes without a slash are one part
pub split_none : (bytes : List ℕ) → HasNoSlash bytes → parts_of bytes ≡ bytes ∷ []
split_none [] none = refl
split_none (b ∷ bytes) none =
    let no = eqb_false b none.0 in
    let later = split_none bytes none.1 in
    rw no (rw later refl)

none_before : (bytes : List ℕ) (at : ℕ) → ((j : ℕ) → j < at → get_or bytes j 0 ≢ byte "/") → HasNoSlash (take at bytes)
none_before bytes zero none = tt
none_before [] (suc at) none = tt
none_before (b ∷ bytes) (suc at) none = (none 0 (omega arith), none_before bytes at (λ j before. none (suc j) (omega arith)))

-- the first slash, as a search finds it, ends the first part
pub first_part_at : (bytes : List ℕ) (at : ℕ) → IsFirstByte (is_byte (byte "/")) bytes (Some at) → parts_of bytes ≡ take at bytes ∷ parts_of (drop (at + 1) bytes)
first_part_at bytes at found =
    let inside : at < length bytes = found.0.high in
    let here : get_or bytes at 0 ≡ byte "/" = eqb-true _ _ found.1 in
    let joined : bytes ≡ take at bytes ++ byte "/" ∷ drop (at + 1) bytes =
    sym (take-append-drop at bytes) ∙ ap (λ l. take at bytes ++ l) (drop_more bytes at 0 inside ∙ ap (λ c. c ∷ drop (at + 1) bytes) here) in
    let none = none_before bytes at (λ j before is. found.0.before j (omega arith) before (eq-eqb _ _ is)) in
    ap parts_of joined ∙ split_cut (take at bytes) (drop (at + 1) bytes) none

-- one byte more at the end
any_more : (path : List ℕ) (b : ℕ) → list_any is_slash (path ++ b ∷ []) ≡ (list_any is_slash path || is_slash b)
any_more [] b = grind (arith, common_steps)
any_more (x ∷ path) b = let later = any_more path b in grind (arith, common_steps)

pub folder_of_more : (path : List ℕ) (b : ℕ) → is_slash b ≡ false → folder_of (path ++ b ∷ []) ≡ folder_of path
folder_of_more [] b none = refl
folder_of_more (x ∷ path) b none = let later = folder_of_more path b none in let any = any_more path b in rw any (rw none (grind (arith, common_steps)))

pub folder_of_slash : (path : List ℕ) (b : ℕ) → is_slash b ≡ true → folder_of (path ++ b ∷ []) ≡ path
folder_of_slash [] b same = refl
folder_of_slash (x ∷ path) b same = let later = folder_of_slash path b same in let any = any_more path b in rw any (rw same (grind (arith, common_steps)))

-- a byte that is no slash, and one that is
pub folder_of_other : (path : List ℕ) (b : ℕ) → b ≢ byte "/" → folder_of (path ++ b ∷ []) ≡ folder_of path
folder_of_other path b other = folder_of_more path b (eqb_false b other)

pub folder_of_at : (path : List ℕ) (b : ℕ) → b ≡ byte "/" → folder_of (path ++ b ∷ []) ≡ path
folder_of_at path b is = folder_of_slash path b (eq-eqb b (byte "/") is)

pub first_part_whole : (bytes : List ℕ) → IsFirstByte (is_byte (byte "/")) bytes None → parts_of bytes ≡ bytes ∷ []
first_part_whole bytes none =
    split_none bytes (subst HasNoSlash (take_all (length bytes) bytes (le_refl _)) (none_before bytes (length bytes) (λ j before is. none j (omega arith) before (eq-eqb _ _ is))))

-- the last of some parts says alone whether a folder is meant
names_folder_some : (known other : Bool) (parts : List (List ℕ)) → 0 < length parts → names_folder known parts ≡ names_folder other parts
names_folder_some known other [] some = absurd (omega arith)
names_folder_some known other (part ∷ parts) some = refl

-- text has parts
pub names_folder_alike : (known other : Bool) (bytes : List ℕ) → names_folder known (parts_of bytes) ≡ names_folder other (parts_of bytes)
names_folder_alike known other bytes =
    let count = length-slice_split is_slash bytes in
    names_folder_some known other (parts_of bytes) (omega arith)
