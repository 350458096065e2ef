-- What one call does to the folders that are entered, and what they then say of a path.
use Rattle.std.proofs.Common.{◌≡◌, ⊎_elim, ℕ, ◌+◌, ◌<◌, ◌≤◌, Bool, true, false, if◌then◌else◌, Result, Ok, Err, OnErr, OnOk, List, [], ◌∷◌, ◌++◌, length, take, sym, ap, subst, ◌∙◌, append_assoc, append-nil, length-take-le, take-suc, add-one, arith, slice_index}
use Rattle.std.specs.List.{Contains}
use Rattle.std.proofs.lemmas.Bool.{cases_eq}
use Rattle.std.proofs.lemmas.List.{take-append-le}
use Rattle.glob_lists.specs.declared.rules.Rules.{Rules}
use Rattle.gix_glob.specs.Bytes.{HasByte, slash}
use Rattle.gix_glob.specs.EntryLists.{EntryList}
use Rattle.glob_trees.specs.declared.entered.Entered.{Entered}
use Rattle.glob_trees.specs.Private.Entered.{AreEntered, KeepsOn}
use Rattle.glob_trees.specs.Trees.{Ignores, IsAbove}
use Rattle.glob_trees.specs.Ways.{AreOnTheWay, Folder, folder_before, folders_from, folders_to}
use Rattle.glob_trees.proofs.lemmas.Asking.{asked_above, asked_to_path}
use Rattle.glob_trees.proofs.lemmas.Entering.{entered_byte}
use Rattle.glob_trees.proofs.lemmas.OnWay.{on_way_more, top_on_way}
use Rattle.glob_trees.proofs.lemmas.WayLemmas.{before_other, folders_more, folders_other, further}

-- ---- paths and their slashes

pub path_more : (path : List ℕ) (place : ℕ) → place < length path → take (place + 1) path ≡ take place path ++ slice_index path place ∷ []
path_more path place inside = rw add-one (take-suc path place 0 inside)

module _ (path : List ℕ) (place : ℕ) (here : HasByte path place slash) where
  pub slash_next : take (place + 1) path ≡ take place path ++ slash ∷ []
  slash_next = path_more path place here.inside ∙ ap (λ b. take place path ++ b ∷ []) here.is

  pub some_front : ¬ (place ≡ 0) → ¬ (take place path ≡ [])
  some_front some none = let inside = here.inside in some (omega (arith, ap length none, length-take-le place path (omega arith)))

-- ---- what is said of a path

first_from : (front rest folder : List ℕ) (below : List (List ℕ)) → folders_from front rest ≡ folder ∷ below → (more : List ℕ) × (folder ≡ front ++ more)
first_from front [] folder below is = absurd (cc)
first_from front (b ∷ rest) folder below is = ⊎_elim
    (λ (here : b ≡ slash).
    let first : front ∷ folders_from (front ++ b ∷ []) rest ≡ folder ∷ below = ap (λ c. folder_before c front ++ folders_from (front ++ b ∷ []) rest) (sym here) ∙ is in
    let same : front ≡ folder = cc in
    ([], sym same ∙ sym (append-nil front)))
    (λ (other : b ≡ slash → ⊥).
    let later = first_from (front ++ b ∷ []) rest folder below (ap (λ fs. fs ++ folders_from (front ++ b ∷ []) rest) (sym (before_other b front other)) ∙ is) in
    (b ∷ later.0, later.1 ∙ append_assoc front (b ∷ []) later.0))
    (cases_eq b slash)

above_first : (front rest folder : List ℕ) (below : List (List ℕ)) → further front (slash ∷ rest) ≡ folder ∷ below → IsAbove front (folder ++ slash ∷ [])
above_first [] rest folder below is =
    let later = first_from (slash ∷ []) rest folder below is in
    (later.0 ++ slash ∷ [], ap (λ f. f ++ slash ∷ []) later.1)
above_first (x ∷ xs) rest folder below is =
    let same : (x ∷ xs) ≡ folder = cc in
    ([], ap (λ f. f ++ slash ∷ []) (sym same))

module _ {V : Type 0} (shows : Folder → EntryList V → Type 0) (n : ℕ) (lists : List (EntryList V)) (rules : Rules) (path : List ℕ) (own : List (EntryList V)) where
  pub stopped : (front : List ℕ) (pair : ℕ × ℕ) → AreEntered shows n lists rules front own → IsAbove front path → Ignores lists rules front pair → AreOnTheWay shows n lists rules path
  stopped front pair e above ignored = record {
    entered = folders_to front;
    further = further front (slash ∷ above.0);
    joined = ap folders_to above.1 ∙ folders_more front (slash ∷ above.0);
    top = top_on_way front;
    own = own;
    shown = e.shown;
    standing = e.standing;
    unignored = λ folder h. asked_above shows n lists rules path own front folder e above h;
    ends = λ folder below is. (pair, record { folder = front; above = above_first front above.0 folder below is; ignored = ignored; topmost = e.none });
  }

  pub arrived : AreEntered shows n lists rules path own → AreOnTheWay shows n lists rules path
  arrived e = record {
    entered = folders_to path;
    further = [];
    joined = sym (append-nil (folders_to path));
    top = top_on_way path;
    own = own;
    shown = e.shown;
    standing = e.standing;
    unignored = λ folder h. asked_to_path shows n lists rules path own folder e h;
    ends = λ folder below is. absurd (cc);
  }

-- ---- the same, as calls leave it

pub on_err : {A E : Type 0} (result : Result A E) (P : Type 0) → P → OnErr result P
on_err (Ok a) P holds = tt
on_err (Err e) P holds = holds

-- what holds where a call succeeds gives another fact there
pub ok_gives : {A E : Type 0} (result : Result A E) (P Q : Type 0) → (P → Q) → OnOk result P → OnOk result Q
ok_gives (Ok a) P Q gives holds = gives holds
ok_gives (Err e) P Q gives holds = tt

pub ok_both : {A E : Type 0} (result : Result A E) (P Q R : Type 0) → (P → Q → R) → OnOk result P → OnOk result Q → OnOk result R
ok_both (Ok a) P Q R gives first next = gives first next
ok_both (Err e) P Q R gives first next = tt

-- the lists that stand first stay, whether others were put behind them or not
pub fronts_kept : {A E L : Type 0} (result : Result A E) (n : ℕ) (old new : List L) → OnOk result (take n new ≡ take n old) → OnErr result (new ≡ old) → take n new ≡ take n old
fronts_kept (Ok a) n old new stays same = stays
fronts_kept (Err e) n old new stays same = ap (take n) same

pub fronts_put : {A E L : Type 0} (result : Result A E) (n : ℕ) (old new more : List L) → n ≤ length old → OnOk result (new ≡ old ++ more) → OnErr result (new ≡ old) → take n new ≡ take n old
fronts_put result n old new more few put same = fronts_kept result n old new (ok_gives result _ _ (λ is. ap (take n) is ∙ take-append-le n old more few) put) same

pub err_gives : {A E : Type 0} (result : Result A E) (P Q : Type 0) → (P → Q) → OnErr result P → OnErr result Q
err_gives (Ok a) P Q gives holds = tt
err_gives (Err e) P Q gives holds = gives holds

pub pushed : {X : Type 0} (ok : Bool) (old new more : List X) → ok ≡ true → new ≡ (if ok then more else old) → new ≡ more
pushed true old new more is items = items
pushed false old new more is items = absurd (cc)

pub passing : {V : Type 0} (shows : Folder → EntryList V → Type 0) (rules : Rules) (n : ℕ) (lists own : List (EntryList V)) (path : List ℕ) (place : ℕ) → place < length path → ¬ (slice_index path place ≡ slash)
    → AreEntered shows n lists rules (take place path) own → AreEntered shows n lists rules (take (place + 1) path) own
passing shows rules n lists own path place inside other e =
    subst (λ t. AreEntered shows n lists rules t own) (sym (path_more path place inside)) (entered_byte shows rules lists (take place path) n (slice_index path place) own other e)

pub passing_way : (path : List ℕ) (place : ℕ) → place < length path → ¬ (slice_index path place ≡ slash) → folders_to (take (place + 1) path) ≡ folders_to (take place path)
passing_way path place inside other = ap folders_to (path_more path place inside) ∙ folders_other (take place path) (slice_index path place) other

pub way_grows : (path : List ℕ) (place : ℕ) → place < length path → (folder : List ℕ) → Contains (folders_to (take place path)) folder → Contains (folders_to (take (place + 1) path)) folder
way_grows path place inside folder h =
    subst (λ t. Contains (folders_to t) folder) (sym (path_more path place inside)) (on_way_more (take place path) (slice_index path place ∷ []) folder h)

pub keeps_on_further : {S T X F V : Type 0} (shows : S → Folder → EntryList V → Type 0) (old mid new : Entered T S X F) → KeepsOn shows old mid → KeepsOn shows mid new → KeepsOn shows old new
keeps_on_further shows old mid new first next = record {
  front_count = next.front_count ∙ first.front_count;
  rules = next.rules ∙ first.rules;
  fronts = subst (λ k. take k new.lists.items ≡ take k mid.lists.items) first.front_count next.fronts ∙ first.fronts;
  goes_on = λ folder list shown. next.goes_on folder list (first.goes_on folder list shown);
}
