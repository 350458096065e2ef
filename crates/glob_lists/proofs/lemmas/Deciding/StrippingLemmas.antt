-- Paths under a base that is empty or ends in a slash: where their last parts begin, and how what is left of them begins.
use Rattle.std.proofs.Common.{◌≡◌, ◌⊎◌, inl, inr, ⊎_elim, ℕ, ◌+◌, ◌≤◌, List, [], ◌∷◌, ◌++◌, length, map, Option, None, Some, refl, sym, ap, subst, ◌∙◌, append_assoc, arith}
use Rattle.std.specs.Option.{ForSome}
use Rattle.std.specs.Char.{to_ascii_lowercase}
use Rattle.std.proofs.lemmas.List.{map-append}
use Rattle.std.proofs.lemmas.Option.{same_Some}
use Rattle.gix_glob.specs.declared.pattern.Case.{Case}
use Rattle.gix_glob.specs.declared.pattern.Case.TheVariants.{Sensitive, Fold}
use Rattle.gix_glob.specs.Bytes.{EndsInSlash, HasByte, slash}
use Rattle.gix_glob.specs.Paths.{IsFolder}
use Rattle.glob_lists.specs.Paths.{IsPlainPath}
use Rattle.glob_lists.specs.Private.Keeping.{IsKept}
use Rattle.gix_glob.specs.RepositoryPaths.{IsAfterLastSlash, IsBasenameStart}
use Rattle.gix_glob.specs.Stripping.{IsPlaced, Rest, RestOf, folding_by, place_after, stripped_place}
use Rattle.gix_glob.proofs.lemmas.Places.{later_byte, slash_of_lowercase}

-- ---- where the last part begins

-- the law `basename_starts_lie_past_the_base`, restated: a lemma can't cite a clause
abbrev pub BasenameStartsLiePastTheBase : Type 0
BasenameStartsLiePastTheBase = (case : Case) (base path rest : List ℕ) (at : ℕ) → IsFolder base → Rest case base path rest → IsAfterLastSlash path at → length base ≤ at

pub IsPlaced-basename : (law : BasenameStartsLiePastTheBase) (case : Case) (base : Option (List ℕ)) (path : List ℕ) (basename_start : Option ℕ) → ForSome base IsFolder → IsBasenameStart path basename_start
    → IsPlaced case base path basename_start
IsPlaced-basename law case None path basename_start folder start = tt
IsPlaced-basename law case (Some base) path basename_start folder start =
    λ rest is at here. law case base path rest at (folder base refl) is (subst (IsBasenameStart path) here start)

-- ---- how the rest begins

-- the last byte of a text, by that of the folded one
one_byte : (b : ℕ) (front : List ℕ) → to_ascii_lowercase b ∷ [] ≡ front ++ slash ∷ [] → to_ascii_lowercase b ≡ slash
one_byte b [] h = cc
one_byte b (c ∷ []) h = absurd (cc)
one_byte b (c ∷ d ∷ front) h = absurd (cc)

past_first : (b c : ℕ) (text front : List ℕ) → b ∷ c ∷ text ≡ front ++ slash ∷ [] → (more : List ℕ) × (c ∷ text ≡ more ++ slash ∷ [])
past_first b c text [] h = absurd (cc)
past_first b c text (d ∷ more) h = (more, cc)

last_of_folded : (text front : List ℕ) → map to_ascii_lowercase text ≡ front ++ slash ∷ [] → (before : List ℕ) × (text ≡ before ++ slash ∷ [])
last_of_folded [] [] h = absurd (cc)
last_of_folded [] (b ∷ front) h = absurd (cc)
last_of_folded (b ∷ []) front h = ([], ap (λ c. c ∷ []) (slash_of_lowercase b (one_byte b front h)))
last_of_folded (b ∷ c ∷ text) front h =
    let past = past_first (to_ascii_lowercase b) (to_ascii_lowercase c) (map to_ascii_lowercase text) front h in
    let rest = last_of_folded (c ∷ text) past.0 past.1 in
    (b ∷ rest.0, ap (λ l. b ∷ l) rest.1)

-- what equals a folder up to case ends in a slash too
pub front_ends_in_slash : (case : Case) (base front : List ℕ) → EndsInSlash base → folding_by case front ≡ folding_by case base → (before : List ℕ) × (front ≡ before ++ slash ∷ [])
front_ends_in_slash Sensitive base front folder same = (folder.front, same ∙ folder.joined)
front_ends_in_slash Fold base front folder same =
    last_of_folded front (map to_ascii_lowercase folder.front) (same ∙ ap (map to_ascii_lowercase) folder.joined ∙ map-append to_ascii_lowercase folder.front (slash ∷ []))

-- what equals an empty base up to case is empty
pub empty_front : (case : Case) (base front : List ℕ) → base ≡ [] → folding_by case front ≡ folding_by case base → front ≡ []
empty_front Sensitive base front none same = same ∙ none
empty_front Fold base [] none same = refl
empty_front Fold base (b ∷ front) none same = absurd (let empty : map to_ascii_lowercase base ≡ [] = ap (map to_ascii_lowercase) none in cc)

-- a slash after the slash that ends the base is a second slash in a row
behind_a_slash : (front path rest : List ℕ) → path ≡ (front ++ slash ∷ []) ++ rest → IsPlainPath path → ¬ HasByte rest 0 slash
behind_a_slash front path rest is plain here =
    let path_is : path ≡ front ++ (slash ∷ rest) = is ∙ append_assoc front (slash ∷ []) rest in
    let in_path : (i : ℕ) → HasByte (slash ∷ rest) i slash → HasByte path (length front + i) slash =
    λ i h. subst (λ l. HasByte l (length front + i) slash) (sym path_is) (later_byte front (slash ∷ rest) i slash h) in
    let first : HasByte (slash ∷ rest) 0 slash = record { inside = omega arith; is = refl } in
    let second : HasByte (slash ∷ rest) 1 slash = record { inside = omega (arith, here.inside); is = here.is } in
    let next : length front + 1 ≡ length front + 0 + 1 = omega arith in
    plain.single (length front + 0) (in_path 0 first) (subst (λ i. HasByte path i slash) next (in_path 1 second))

-- what is left of a plain path under a folder has no leading slash
rest_is_relative : (case : Case) (base : Option (List ℕ)) (path rest : List ℕ) → ForSome base IsFolder → IsPlainPath path → RestOf case base path rest → ¬ HasByte rest 0 slash
rest_is_relative case None path rest folder plain is here = plain.relative (subst (λ l. HasByte l 0 slash) is here)
rest_is_relative case (Some base) path rest folder plain is here =
    ⊎_elim
    (λ none. plain.relative (subst (λ l. HasByte l 0 slash) (sym (is.joined ∙ ap (λ l. l ++ rest) (empty_front case base is.front none is.same))) here))
    (λ (ends : EndsInSlash base).
    let front = front_ends_in_slash case base is.front ends is.same in
    behind_a_slash front.0 path rest (is.joined ∙ ap (λ l. l ++ rest) front.1) plain here)
    (folder base refl)

-- ---- what stripping answers

-- the law `stripped_basename_starts_are_the_rests_own`, restated: a lemma can't cite a clause
abbrev pub StrippedBasenameStartsAreTheRestsOwn : Type 0
StrippedBasenameStartsAreTheRestsOwn = (case : Case) (base path rest : List ℕ) (basename_start : Option ℕ) → Rest case base path rest → IsBasenameStart path basename_start → IsBasenameStart rest (stripped_place (length base) basename_start)

IsBasenameStart-rest : (law : StrippedBasenameStartsAreTheRestsOwn) (case : Case) (base : Option (List ℕ)) (path rest : List ℕ) (basename_start : Option ℕ) → RestOf case base path rest → IsBasenameStart path basename_start
    → IsBasenameStart rest (place_after base basename_start)
IsBasenameStart-rest law case None path rest basename_start is start = subst (λ l. IsBasenameStart l basename_start) (sym is) start
IsBasenameStart-rest law case (Some base) path rest basename_start is start = law case base path rest basename_start is start

-- the bytes of the rest are those of the path, from some place on
front_and_rest : (case : Case) (base : Option (List ℕ)) (path rest : List ℕ) → RestOf case base path rest → (front : List ℕ) × (path ≡ front ++ rest)
front_and_rest case None path rest is = ([], sym is)
front_and_rest case (Some base) path rest is = (is.front, is.joined)

nothing_of_nothing : (front path rest : List ℕ) → path ≡ front ++ rest → path ≡ [] → rest ≡ []
nothing_of_nothing [] path rest joined none = sym joined ∙ none
nothing_of_nothing (b ∷ front) path rest joined none = absurd (cc)

plain_rest : (case : Case) (base : Option (List ℕ)) (path rest : List ℕ) → ForSome base IsFolder → IsPlainPath path → RestOf case base path rest → (rest ≡ []) ⊎ IsPlainPath rest
plain_rest case base path [] folder plain is = inl refl
plain_rest case base path (b ∷ rest) folder plain is =
    let joined = front_and_rest case base path (b ∷ rest) is in
    let in_path : (i : ℕ) → HasByte (b ∷ rest) i slash → HasByte path (length joined.0 + i) slash =
    λ i h. subst (λ l. HasByte l (length joined.0 + i) slash) (sym joined.1) (later_byte joined.0 (b ∷ rest) i slash h) in
    inr (record {
      some = λ e. cc;
      relative = rest_is_relative case base path (b ∷ rest) folder plain is;
      single = λ i first second.
          let next : length joined.0 + (i + 1) ≡ length joined.0 + i + 1 = omega arith in
          plain.single (length joined.0 + i) (in_path i first) (subst (λ k. HasByte path k slash) next (in_path (i + 1) second));
    })

-- what a base leaves of a path is kept as the path is
pub IsKept-rest : (law : StrippedBasenameStartsAreTheRestsOwn) (case : Case) (base : Option (List ℕ)) (path rest : List ℕ) (start left : Option ℕ) → ForSome base IsFolder → IsKept path start
    → RestOf case base path rest → left ≡ place_after base start → IsKept rest left
IsKept-rest law case base path rest start left folder kept is place = record {
  plain = ⊎_elim
      (λ none. let joined = front_and_rest case base path rest is in inl (nothing_of_nothing joined.0 path rest joined.1 none))
      (λ (plain : IsPlainPath path). plain_rest case base path rest folder plain is)
      kept.plain;
  basename = subst (IsBasenameStart rest) (sym place) (IsBasenameStart-rest law case base path rest start is kept.basename);
}

-- a base that is there is that of a folder
pub ForSome-folder : (base : List ℕ) → IsFolder base → ForSome (Some base) IsFolder
ForSome-folder base folder other same = subst IsFolder (same_Some base other same) folder
