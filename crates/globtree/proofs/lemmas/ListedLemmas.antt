-- The entries that pathspecs match.
use Rattle.std.proofs.Common.{◌≡◌, ◌⊎◌, inl, inr, refl, Bool, true, false, not, IsTrue, ◌∷◌, ◌++◌, [], ℕ, ◌+◌, ◌<◌, List, length, slice_index_or, sym, ap, ◌∙◌, subst, arith}
use Rattle.std.specs.Prelude.{◌↔◌, Option, None, Some, is_some}
use Rattle.std.specs.Option.{option_map}
use Rattle.std.specs.Vec.{vec_items}
use Rattle.std.proofs.lemmas.Bool.{cases_lt, false≢true}
use Rattle.std.proofs.lemmas.List.{get_or_default}
use Rattle.git_index.specs.Entries.{Tracked}
use Rattle.pathspecs.specs.Elements.{Meets, PathspecItem}
use Rattle.pathspecs.specs.Lists.{IsMet, Matches}
use Rattle.globtree.specs.declared.listed_path.ListedPath.{ListedPath}
use Rattle.globtree.specs.Listed.{AddsMatched, AreMatched, IsMetListed, Listed, MatchesListed, MeetsListed, folder_of_entry, listed_of, seen_listed}

-- what was passed over stays so with one more
pub pass_over : {X : Type 0} (P : X → Type 0) (xs : List X) (i : ℕ) (x : X) → i < length xs → x ≡ slice_index_or xs i x → (P x → ⊥)
    → ((k : ℕ) (y : X) → k < i → slice_index_or xs k y ≡ y → P y → ⊥)
    → (k : ℕ) (y : X) → k < i + 1 → slice_index_or xs k y ≡ y → P y → ⊥
pass_over P xs i x low is other before k y less at has = elim (cases_lt k i) [
  | inl earlier ↦ before k y earlier at has
  | inr later ↦
      let here : k ≡ i = omega (arith, less, later) in
      let same : y ≡ x = sym at ∙ ap (λ n. slice_index_or xs n y) here ∙ get_or_default xs i y x low ∙ sym is in
      other (subst P same has)
]

-- the first is so, and the second isn't
pub first_unless : (First Not : Type 0) (is_not : Bool) → First → (IsTrue is_not ↔ Not) → IsTrue (not is_not) ↔ (First × ¬ Not)
first_unless First Not true first is = (λ never. absurd (false≢true never), λ both. absurd (both.1 (is.0 refl)))
first_unless First Not false first is = (λ _. (first, λ has. false≢true (is.1 has)), λ _. refl)

abbrev listed_by : List ℕ → Option (List ℕ) → Listed
listed_by path folder = record { path = path; folder = folder }

pub same_listed : (listed : ListedPath) (entry : Tracked) → listed.path.now ≡ entry.path → option_map vec_items listed.folder ≡ folder_of_entry entry → seen_listed listed ≡ listed_of entry
same_listed listed entry path folder = ap (λ (p : List ℕ). listed_by p (option_map vec_items listed.folder)) path ∙ ap (λ (f : Option (List ℕ)). listed_by entry.path f) folder

-- one entry more
pub one_more : (items : List PathspecItem) (entries : List Tracked) (entry : Tracked) (old new : List (List ℕ)) → AreMatched items entries old → AddsMatched items entry old new → AreMatched items (entries ++ entry ∷ []) new
one_more items [] entry old new none (inl (matches, is)) = inl (matches, ([], is ∙ ap (λ paths. paths ++ entry.path ∷ []) none, refl))
one_more items [] entry old new none (inr (other, is)) = inr (other, is ∙ none)
one_more items (first ∷ entries) entry old new (inl (matches, (rest, begins, more))) (inl (its, is)) = inl (matches, (rest ++ entry.path ∷ [], is ∙ ap (λ paths. paths ++ entry.path ∷ []) begins, one_more items entries entry rest (rest ++ entry.path ∷ []) more (inl (its, refl))))
one_more items (first ∷ entries) entry old new (inl (matches, (rest, begins, more))) (inr (other, is)) = inl (matches, (rest, is ∙ begins, one_more items entries entry rest rest more (inr (other, refl))))
one_more items (first ∷ entries) entry old new (inr (passed, more)) adds = inr (passed, one_more items entries entry old new more adds)

none_is_not_some : {X : Type 0} {x : X} → ◌≡◌ {A = Option X} None (Some x) → ⊥
none_is_not_some is = cc

-- what isn't a submodule's is met only by its path
pub met_by_path : (listed : Listed) → listed.folder ≡ None → (item : PathspecItem) → MeetsListed item listed → Meets item listed.path
met_by_path listed none item (inl meets) = meets
met_by_path listed none item (inr (folder, is, exact)) = absurd (none_is_not_some (sym none ∙ is))

pub met_alike : (exclude : Bool) (items : List PathspecItem) (listed : Listed) → listed.folder ≡ None → IsMetListed exclude items listed ↔ IsMet exclude items listed.path
met_alike exclude items listed none =
    (λ met. (met.0, met.1, met.2, met.3, (met.4.0, met_by_path listed none met.1 met.4.1)), λ met. (met.0, met.1, met.2, met.3, (met.4.0, inl met.4.1)))

pub matches_alike : (items : List PathspecItem) (listed : Listed) → listed.folder ≡ None → Matches items listed.path ↔ MatchesListed items listed
matches_alike items listed none =
    let met = met_alike false items listed none in
    let taken = met_alike true items listed none in
    (λ matches. (met.1 matches.0, λ takes. matches.1 (taken.0 takes)), λ matches. (met.0 matches.0, λ takes. matches.1 (taken.1 takes)))

pub map_none : {A B : Type 0} (f : A → B) (o : Option A) → is_some o ≡ false → option_map f o ≡ None
map_none f None is = refl
map_none f (Some x) never = absurd (false≢true (sym never))
