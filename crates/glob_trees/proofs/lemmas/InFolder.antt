-- The folders that are entered lie on the way to what lies right in the last of them.
use Rattle.std.proofs.Common.{◌≡◌, inl, inr, ℕ, suc, ◌-◌, ◌≤◌, List, [], ◌∷◌, ◌++◌, length, map, take, take_all, drop, length-drop, Some, ap, refl, sym, subst, ◌∙◌, arith}
use Rattle.std.specs.Prelude.{slice_get}
use Rattle.std.proofs.lemmas.List.{length-map}
use Rattle.std.proofs.lemmas.Option.{same_Some}
use Rattle.gix_glob.specs.Bytes.{HasByte, slash}
use Rattle.glob_lists.specs.declared.rules.Rules.{Rules}
use Rattle.gix_glob.specs.declared.search.pattern.list.List as patterns
use Rattle.gix_glob.specs.EntryLists.{EntryList, entry_list_of}
use Rattle.glob_trees.specs.declared.entered.Entered.{Entered}
use Rattle.glob_trees.specs.Private.Entered.{AreEntered, HasFronts, IsFresh, IsReady, IsSomewhere, IsUnderWay}
use Rattle.glob_trees.specs.Ways.{Folder}
use Rattle.glob_trees.proofs.lemmas.Known.{under_rest, under_start}

pub nothing : {X : Type 0} (xs : List X) → length xs ≡ 0 → xs ≡ []
nothing [] none = refl
nothing (x ∷ xs) none = absurd (cc)

pub last_splits : {X : Type 0} (xs : List X) (x : X) → slice_get xs (length xs - 1) ≡ Some x → (above : List X) × (xs ≡ above ++ x ∷ [])
last_splits [] x is = absurd (cc)
last_splits (y ∷ []) x is = let same = same_Some y x is in ([], cc)
last_splits (y ∷ z ∷ xs) x is =
    let e : length (y ∷ z ∷ xs) - 1 ≡ suc (length (z ∷ xs) - 1) = omega arith in
    let rest = last_splits (z ∷ xs) x (subst (λ k. slice_get (y ∷ z ∷ xs) k ≡ Some x) e is) in
    (y ∷ rest.0, ap (λ l. y ∷ l) rest.1)

-- what stands from a place on
pub tail : {X : Type 0} (n : ℕ) (xs : List X) → take (length xs - n) (drop n xs) ≡ drop n xs
tail n xs = take_all (length xs - n) (drop n xs) (omega (arith, length-drop n xs))

pub no_last : {X : Type 0} (xs : List X) (x : X) → ¬ ([] ≡ xs ++ x ∷ [])
no_last [] x is = absurd (cc)
no_last (y ∷ xs) x is = absurd (cc)

module _ {S T X F V : Type 0} (shows : S → Folder → EntryList V → Type 0) (gave : S → Folder → Type 0) (seen : X → V) (entered : Entered T S X F) where
  -- a folder is entered where there is a way
  pub somewhere : IsReady shows gave seen entered → ¬ (entered.way.items ≡ []) → IsSomewhere shows gave seen entered
  somewhere (inl fresh) some = absurd (some fresh.way)
  somewhere (inr under) some = under

  pub fresh_yet : IsReady shows gave seen entered → entered.way.items ≡ [] → IsFresh shows gave seen entered
  fresh_yet (inl fresh) none = fresh
  fresh_yet (inr under) none = absurd (no_last under.1.ends.above under.1.ends.last (sym none ∙ under.1.ends.joined))

  module _ (path : List ℕ) (count : ℕ) (begins : entered.folder.items ≡ take count path) (some : IsSomewhere shows gave seen entered) where
    -- the path begins with the last folder and its slash
    pub under_at : IsUnderWay shows gave seen entered (take count path)
    under_at = subst (IsUnderWay shows gave seen entered) begins (under_start _ _ _ _ _ _ _ _ _ _ some.0 some.1)

    -- and has no slash behind it
    pub under_all : count ≤ length path → ((j : ℕ) → count ≤ j → ¬ HasByte path j slash) → IsUnderWay shows gave seen entered path
    under_all inside none = under_rest _ _ _ _ _ _ _ _ _ _ path (length path - count) count (omega (arith, inside)) none under_at

-- the lists that stand before those of all folders are there, where folders are entered
module _ {T X V : Type 0} (seen : X → V) (shows : Folder → EntryList V → Type 0) (n : ℕ) (rules : Rules) (lists : List (patterns.List T X)) (front : List ℕ) (own : List (EntryList V)) (e : AreEntered shows n (map (entry_list_of seen) lists) rules front own) where
  pub many_fronts : n ≤ length lists
  many_fronts = let many = e.many in omega (arith, length-map lists (entry_list_of seen))

module _ {S T X F V : Type 0} (shows : S → Folder → EntryList V → Type 0) (gave : S → Folder → Type 0) (seen : X → V) (entered : Entered T S X F) where
  pub have_fronts : IsReady shows gave seen entered → HasFronts seen entered
  have_fronts (inl fresh) = record { many = let count = fresh.count in omega (arith, count); bases = fresh.bases }
  have_fronts (inr some) = let stands = some.1.stands in record { many = many_fronts seen _ _ _ entered.lists.items _ _ stands; bases = stands.bases }
