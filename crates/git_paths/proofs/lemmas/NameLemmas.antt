-- Told paths each of whose parts is a name: they lead to what stands below.
use Rattle.std.proofs.Common.{◌≡◌, ⊎_elim, ℕ, Bool, true, false, List, [], ◌∷◌, ◌++◌, ap, sym, ◌∙◌, refl, subst, arith, append_assoc}
use Rattle.std.specs.Prelude.{◌==◌, ◌||◌, ◌&&◌, not, if◌then◌else◌, IsTrue, Some}
use Rattle.std.specs.List.{onto_first}
use Rattle.std.specs.Str.{byte}
use Rattle.std.proofs.lemmas.Bool.{cases_Bool, eqb-false, eqb-true, false≢true}
use Rattle.std.proofs.lemmas.Grind.{common_steps}
use Rattle.std.proofs.lemmas.List.{append-nil}
use Rattle.git_paths.specs.Paths.{AreNames, below, is_name, is_slash, names_folder, parts_of, step, walk}
use Rattle.git_paths.proofs.lemmas.PathLemmas.{HasNoSlash, split_cut, split_none}

abbrev is_dot : ℕ → Bool
is_dot b = b == byte "."

-- whether no part is empty or begins with a dot, of bytes that begin a part or go on with one
abbrev pub are_names : Bool → List ℕ → Bool
are_names is_start [] = if is_start then false else true
are_names is_start (b ∷ bytes) = if is_start && (is_slash b || is_dot b) then false else are_names (is_slash b) bytes

pub are_names-step : (is_other is_start : Bool) (b : ℕ) (bytes : List ℕ)
    → (if is_other then false else are_names is_start (b ∷ bytes)) ≡ (if is_other || (is_start && (is_slash b || is_dot b)) then false else are_names (is_slash b) bytes)
are_names-step true is_start b bytes = refl
are_names-step false true b bytes = refl
are_names-step false false b bytes = refl

-- what names begin with
record BeginNames (b : ℕ) (bytes : List ℕ) : Type 0 where
  pub slash : is_slash b ≡ false
  pub dot : is_dot b ≡ false
  pub rest : are_names false bytes ≡ true

begin_by : (slash dot : Bool) (bytes : List ℕ) → (if true && (slash || dot) then false else are_names slash bytes) ≡ true → (slash ≡ false) × (dot ≡ false) × (are_names false bytes ≡ true)
begin_by true dot bytes names = absurd (false≢true names)
begin_by false true bytes names = absurd (false≢true names)
begin_by false false bytes names = (refl, refl, names)

begin : (b : ℕ) (bytes : List ℕ) → are_names true (b ∷ bytes) ≡ true → BeginNames b bytes
begin b bytes names = let each = begin_by (is_slash b) (is_dot b) bytes names in record { slash = each.0; dot = each.1; rest = each.2 }

none_of_nothing : HasNoSlash []
none_of_nothing = tt

no_more : (xs : List ℕ) (b : ℕ) → HasNoSlash xs → is_slash b ≡ false → HasNoSlash (xs ++ b ∷ [])
no_more [] b none other = (eqb-false b (byte "/") other, none)
no_more (x ∷ xs) b none other = (none.0, no_more xs b none.1 other)

-- what a path and bytes that name something below it lead to
record LeadBelow (path : List ℕ) (parts : List (List ℕ)) (told : List ℕ) : Type 0 where
  pub leads : walk path parts ≡ Some (below path told)
  pub file : (known : Bool) → names_folder known parts ≡ false

step_name : (path : List ℕ) (b : ℕ) (bytes : List ℕ) → is_dot b ≡ false → step path (b ∷ bytes) ≡ Some (below path (b ∷ bytes))
step_name path b bytes other = grind (arith, common_steps)

one_name : (path : List ℕ) (b : ℕ) (bytes : List ℕ) → is_dot b ≡ false → HasNoSlash (b ∷ bytes) → LeadBelow path (parts_of (b ∷ bytes)) (b ∷ bytes)
one_name path b bytes other none = record {
  leads = rw (split_none (b ∷ bytes) none) (rw (step_name path b bytes other) refl);
  file = λ known. rw (split_none (b ∷ bytes) none) (grind (arith, common_steps));
}

below_twice : (path : List ℕ) (b : ℕ) (bytes rest : List ℕ) → below (below path (b ∷ bytes)) rest ≡ below path ((b ∷ bytes) ++ byte "/" ∷ rest)
below_twice [] b bytes rest = refl
below_twice (p ∷ path) b bytes rest = ap (λ l. p ∷ l) (append_assoc path (byte "/" ∷ b ∷ bytes) (byte "/" ∷ rest))

-- a name, a slash and what leads below it
more_names : (path : List ℕ) (b : ℕ) (bytes rest : List ℕ) → is_dot b ≡ false → HasNoSlash (b ∷ bytes)
    → LeadBelow (below path (b ∷ bytes)) (parts_of rest) rest → LeadBelow path (parts_of ((b ∷ bytes) ++ byte "/" ∷ rest)) ((b ∷ bytes) ++ byte "/" ∷ rest)
more_names path b bytes rest other none later = record {
  leads = rw (split_cut (b ∷ bytes) rest none) (rw (step_name path b bytes other) (later.leads ∙ ap Some (below_twice path b bytes rest)));
  file = λ known. rw (split_cut (b ∷ bytes) rest none) (later.file _);
}

-- a name that is under way, and the bytes behind it
names_lead : (path : List ℕ) (b : ℕ) (bytes rest : List ℕ) → is_dot b ≡ false → HasNoSlash (b ∷ bytes) → are_names false rest ≡ true
    → LeadBelow path (parts_of ((b ∷ bytes) ++ rest)) ((b ∷ bytes) ++ rest)
names_lead path b bytes [] other none names =
    subst (λ told. LeadBelow path (parts_of told) told) (sym (append-nil (b ∷ bytes))) (one_name path b bytes other none)
names_lead path b bytes (c ∷ []) other none names = ⊎_elim
    (λ (slash : is_slash c ≡ true). absurd (false≢true (rw slash at names)))
    (λ (name : is_slash c ≡ false). one_name path b (bytes ++ c ∷ []) other (no_more (b ∷ bytes) c none name))
    (cases_Bool (is_slash c))
names_lead path b bytes (c ∷ d ∷ rest) other none names = ⊎_elim
    (λ (slash : is_slash c ≡ true).
    let first = begin d rest (rw slash at names) in
    let later = names_lead (below path (b ∷ bytes)) d [] rest first.dot (eqb-false d (byte "/") first.slash, none_of_nothing) first.rest in
    subst (λ (s : ℕ). LeadBelow path (parts_of ((b ∷ bytes) ++ s ∷ d ∷ rest)) ((b ∷ bytes) ++ s ∷ d ∷ rest)) (sym (eqb-true c (byte "/") slash)) (more_names path b bytes (d ∷ rest) other none later))
    (λ (name : is_slash c ≡ false).
    let later = names_lead path b (bytes ++ c ∷ []) (d ∷ rest) other (no_more (b ∷ bytes) c none name) (rw name at names) in
    subst (λ told. LeadBelow path (parts_of told) told) (append_assoc (b ∷ bytes) (c ∷ []) (d ∷ rest)) later)
    (cases_Bool (is_slash c))

lead_below : (path told : List ℕ) → are_names true told ≡ true → LeadBelow path (parts_of told) told
lead_below path [] names = absurd (false≢true names)
lead_below path (b ∷ bytes) names =
    let first = begin b bytes names in
    names_lead path b [] bytes first.dot (eqb-false b (byte "/") first.slash, none_of_nothing) first.rest

-- told names lead below each path, and name no folder
pub names_lead_below : (told : List ℕ) → are_names true told ≡ true → (path : List ℕ) → (walk path (parts_of told) ≡ Some (below path told)) × (names_folder false (parts_of told) ≡ false)
names_lead_below told names path = let l = lead_below path told names in (l.leads, l.file false)

-- all bytes were looked at
pub are_names-ended : (is_other is_start : Bool) (rest : List ℕ) → rest ≡ [] → IsTrue (not (is_other || is_start)) → (if is_other then false else are_names is_start rest) ≡ true
are_names-ended true is_start rest none ended = absurd (false≢true ended)
are_names-ended false true rest none ended = absurd (false≢true ended)
are_names-ended false false rest none ended = rw none refl

-- ---- each part is a name

-- the parts behind the first
abbrev pub behind_first : List (List ℕ) → List (List ℕ)
behind_first [] = []
behind_first (part ∷ parts) = parts

-- one byte more in front of the first part, which is no dot, makes it a name
name_on : (b : ℕ) (parts : List (List ℕ)) → is_dot b ≡ false → AreNames (behind_first parts) → AreNames (onto_first b parts)
name_on b [] other names = (grind (arith, common_steps), tt)
name_on b (part ∷ parts) other names = (grind (arith, common_steps), names)

behind_more : (b : ℕ) (parts : List (List ℕ)) → AreNames (behind_first parts) → AreNames (behind_first (onto_first b parts))
behind_more b [] names = tt
behind_more b (part ∷ parts) names = names

-- all of them, where the bytes begin a part, and those behind the first, where they go on with one
abbrev NamesFrom : Bool → List ℕ → Type 0
NamesFrom true bytes = AreNames (parts_of bytes)
NamesFrom false bytes = AreNames (behind_first (parts_of bytes))

names_from : (is_start : Bool) (bytes : List ℕ) → are_names is_start bytes ≡ true → NamesFrom is_start bytes
names_from true [] names = absurd (false≢true names)
names_from false [] names = tt
names_from true (b ∷ bytes) names =
    let first = begin b bytes names in
    rw first.slash (name_on b (parts_of bytes) first.dot (names_from false bytes first.rest))
names_from false (b ∷ bytes) names = ⊎_elim
    (λ (slash : is_slash b ≡ true). rw slash (names_from true bytes (rw slash at names)))
    (λ (other : is_slash b ≡ false). rw other (behind_more b (parts_of bytes) (names_from false bytes (rw other at names))))
    (cases_Bool (is_slash b))

pub names_are : (told : List ℕ) → are_names true told ≡ true → AreNames (parts_of told)
names_are told names = names_from true told names
