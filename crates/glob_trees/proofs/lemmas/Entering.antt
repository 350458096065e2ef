-- Folders that are entered and left: their lists stay those of the folders on the way, and none of the folders is ignored.
use Rattle.std.proofs.Common.{◌≡◌, ◌⊎◌, inl, inr, ⊎_elim, ℕ, ◌<◌, ◌≤◌, List, [], ◌∷◌, ◌++◌, length, drop, None, Some, refl, sym, ap, subst, ◌∙◌, append_assoc, append-nil, length-append, length-drop, arith}
use Rattle.std.specs.Prelude.{All}
use Rattle.std.specs.List.{AllZip}
use Rattle.std.proofs.Math.Seq.{drop-append_seam, drop-length, take-append_seam}
use Rattle.std.proofs.lemmas.List.{drop-append-le}
use Rattle.std.proofs.lemmas.List.Elements.{All-push, All-take}
use Rattle.std.proofs.lemmas.Option.{same_Some}
use Rattle.glob_lists.specs.declared.rules.Rules.{Rules}
use Rattle.gix_glob.specs.Bytes.{slash}
use Rattle.gix_glob.specs.EntryLists.{EntryList}
use Rattle.gix_glob.specs.Stripping.{NothingLeft}
use Rattle.glob_lists.specs.Deciding.{BasesAreFolders, HasFolder}
use Rattle.glob_trees.specs.Private.Entered.{AreEntered}
use Rattle.glob_trees.specs.Trees.{HasNoneIgnored, Ignores, IsAbove}
use Rattle.glob_trees.specs.Ways.{Folder, IsListOf, base_of_folder, folders_to, start_of, unless_empty, with_entries}
use Rattle.glob_trees.proofs.lemmas.Emptied.{nothing_left_shorter}
use Rattle.glob_trees.proofs.lemmas.Folders.{above_above, above_is_shorter}
use Rattle.glob_trees.proofs.lemmas.OneMore.{ignores_less, ignores_more}
use Rattle.glob_trees.proofs.lemmas.WayLemmas.{HasLastFolder, above_more, folders_other, folders_slash, last_folder, last_same, zip_last, zip_more}
use Rattle.glob_trees.proofs.lemmas.WithEntries.{empty_or_not, with_entries_more}

none_is_some : {L : Type 0} (list : L) → ¬ (None ≡ Some list)
none_is_some list is = absurd (cc)

-- ---- a list more, where it has entries

module _ {V : Type 0} (lists : List (EntryList V)) (list : EntryList V) where
  pub bases_more : BasesAreFolders lists → HasFolder list → BasesAreFolders (lists ++ unless_empty list)
  bases_more bases folder = ⊎_elim
      (λ (none : unless_empty list ≡ []). subst (λ ls. BasesAreFolders (lists ++ ls)) (sym none) (subst BasesAreFolders (sym (append-nil lists)) bases))
      (λ (some : unless_empty list ≡ list ∷ []). subst (λ ls. BasesAreFolders (lists ++ ls)) (sym some) (All-push HasFolder lists list bases folder))
      (empty_or_not list)

  bases_less : BasesAreFolders (lists ++ unless_empty list) → BasesAreFolders lists
  bases_less bases = subst (All HasFolder) (take-append_seam lists (unless_empty list)) (All-take HasFolder (length lists) (lists ++ unless_empty list) bases)

  module _ (rules : Rules) (path : List ℕ) (nothing : NothingLeft rules.case list.base path) (pair : ℕ × ℕ) where
    pub ignores_with : Ignores lists rules path pair → Ignores (lists ++ unless_empty list) rules path pair
    ignores_with ignored = ⊎_elim
        (λ (none : unless_empty list ≡ []). subst (λ ls. Ignores (lists ++ ls) rules path pair) (sym none) (subst (λ ls. Ignores ls rules path pair) (sym (append-nil lists)) ignored))
        (λ (some : unless_empty list ≡ list ∷ []). subst (λ ls. Ignores (lists ++ ls) rules path pair) (sym some) (ignores_more lists list rules path nothing pair ignored))
        (empty_or_not list)

    pub ignores_without : Ignores (lists ++ unless_empty list) rules path pair → Ignores lists rules path pair
    ignores_without ignored = ⊎_elim
        (λ (none : unless_empty list ≡ []). subst (λ ls. Ignores ls rules path pair) (append-nil lists) (subst (λ ls. Ignores (lists ++ ls) rules path pair) none ignored))
        (λ (some : unless_empty list ≡ list ∷ []). ignores_less lists list rules path nothing pair (subst (λ ls. Ignores (lists ++ ls) rules path pair) some ignored))
        (empty_or_not list)

-- what ends alike begins alike
pub front_same : {X : Type 0} (xs ys : List X) (x : X) (ends : List X) → (ends ≡ []) ⊎ (ends ≡ x ∷ []) → xs ++ ends ≡ ys ++ ends → xs ≡ ys
front_same xs ys x ends (inl none) same = sym (append-nil xs) ∙ subst (λ l. xs ++ l ≡ ys ++ l) none same ∙ append-nil ys
front_same xs ys x ends (inr some) same = (last_same xs ys x x (subst (λ l. xs ++ l ≡ ys ++ l) some same)).0

-- ---- a byte more

module _ {V : Type 0} (shows : Folder → EntryList V → Type 0) (rules : Rules) (lists : List (EntryList V)) (front : List ℕ) where
  pub none_more : (b : ℕ) → HasNoneIgnored lists rules front → ((pair : ℕ × ℕ) → ¬ Ignores lists rules front pair) → HasNoneIgnored lists rules (front ++ b ∷ [])
  none_more b none kept folder pair above ignored = ⊎_elim
      (λ (here : (folder ≡ front) × (b ≡ slash)). kept pair (subst (λ f. Ignores lists rules f pair) here.0 ignored))
      (λ (higher : IsAbove folder front). none folder pair higher ignored)
      (above_more folder front b above)

  pub entered_byte : (n b : ℕ) (own : List (EntryList V)) → ¬ (b ≡ slash) → AreEntered shows n lists rules front own → AreEntered shows n lists rules (front ++ b ∷ []) own
  entered_byte n b own other e = record {
    many = e.many;
    bases = e.bases;
    shown = subst (λ fs. AllZip (IsListOf shows) fs own) (sym (folders_other front b other)) e.shown;
    standing = e.standing;
    none = λ folder pair above ignored. ⊎_elim
        (λ (here : (folder ≡ front) × (b ≡ slash)). other here.1)
        (λ (higher : IsAbove folder front). e.none folder pair higher ignored)
        (above_more folder front b above);
  }

module _ {V : Type 0} (shows : Folder → EntryList V → Type 0) (rules : Rules) (n : ℕ) where
  -- a path that begins with a slash enters no folder there
  pub entered_slash : (lists own : List (EntryList V)) → AreEntered shows n lists rules [] own → ((pair : ℕ × ℕ) → ¬ Ignores lists rules [] pair) → AreEntered shows n lists rules (slash ∷ []) own
  entered_slash lists own e kept = record {
    many = e.many;
    bases = e.bases;
    shown = e.shown;
    standing = e.standing;
    none = none_more shows rules lists [] slash e.none kept;
  }

  -- ---- a folder more

  is_folder : (folder : Folder) (list : EntryList V) → IsListOf shows folder list → HasFolder list
  is_folder [] list of = λ base is. absurd (none_is_some base (sym of.based ∙ is))
  is_folder (x ∷ xs) list of = λ base is. inr (record { front = x ∷ xs; joined = same_Some base ((x ∷ xs) ++ slash ∷ []) (sym is ∙ of.based) })

  stands_more : (lists own : List (EntryList V)) (list : EntryList V) → n ≤ length lists → drop n lists ≡ with_entries own → drop n (lists ++ unless_empty list) ≡ with_entries (own ++ list ∷ [])
  stands_more lists own list many standing =
      drop-append-le n lists (unless_empty list) many ∙ ap (λ ls. ls ++ unless_empty list) standing ∙ sym (with_entries_more own list)

  pub entered_folder : (lists own : List (EntryList V)) (x : ℕ) (xs : List ℕ) (list : EntryList V) → AreEntered shows n lists rules (x ∷ xs) own → ((pair : ℕ × ℕ) → ¬ Ignores lists rules (x ∷ xs) pair) → IsListOf shows (x ∷ xs) list
      → AreEntered shows n (lists ++ unless_empty list) rules ((x ∷ xs) ++ slash ∷ []) (own ++ list ∷ [])
  entered_folder lists own x xs list e kept of =
      let many = e.many in
      record {
        many = omega (arith, length-append lists (unless_empty list));
        bases = bases_more lists list e.bases (is_folder (x ∷ xs) list of);
        shown = subst (λ fs. AllZip (IsListOf shows) fs (own ++ list ∷ [])) (sym (folders_slash x xs)) (zip_more (IsListOf shows) (folders_to (x ∷ xs)) own (x ∷ xs) list e.shown of);
        standing = stands_more lists own list e.many e.standing;
        none = λ folder pair above ignored.
            let shorter = above_is_shorter folder ((x ∷ xs) ++ slash ∷ []) above in
            let nothing : NothingLeft rules.case list.base folder = subst (λ b. NothingLeft rules.case b folder) (sym of.based) (nothing_left_shorter rules.case ((x ∷ xs) ++ slash ∷ []) folder shorter) in
            none_more shows rules lists (x ∷ xs) slash e.none kept folder pair above (ignores_without lists list rules folder nothing pair ignored);
      }

  -- the top, past the lists that stand before all folders
  pub entered_top : (lists : List (EntryList V)) (list : EntryList V) → length lists ≡ n → BasesAreFolders lists → IsListOf shows [] list → AreEntered shows n (lists ++ unless_empty list) rules [] (list ∷ [])
  entered_top lists list count bases of =
      let past : drop n lists ≡ [] = subst (λ k. drop k lists ≡ []) count (drop-length lists) in
      record {
        many = omega (arith, length-append lists (unless_empty list), count);
        bases = bases_more lists list bases (is_folder [] list of);
        shown = (of, tt);
        standing = stands_more lists [] list (omega (arith, count)) past;
        none = λ folder pair above ignored. let shorter = above_is_shorter folder [] above in omega (arith);
      }

-- ---- the last folder

-- a last folder that isn't the top
is_last : (front : List ℕ) (fs : List Folder) (f : Folder) → folders_to front ≡ fs ++ f ∷ [] → (f ≡ []) ⊎ ((h : HasLastFolder front) × (f ≡ (h.first ∷ h.more)) × (fs ≡ folders_to (h.first ∷ h.more)))
is_last front fs f listed = ⊎_elim
    (λ (only : folders_to front ≡ [] ∷ []). inl (last_same fs [] f [] (sym listed ∙ only)).1)
    (λ (h : HasLastFolder front). let same = last_same fs (folders_to (h.first ∷ h.more)) f (h.first ∷ h.more) (sym listed ∙ h.listed) in inr (h, same.1, same.0))
    (last_folder front)

module _ {V : Type 0} (shows : Folder → EntryList V → Type 0) (rules : Rules) (n : ℕ) (front : List ℕ) (fs : List Folder) (f : Folder) (listed : folders_to front ≡ fs ++ f ∷ []) where
  -- the last folder is left
  module _ (lists own : List (EntryList V)) (list : EntryList V) (e : AreEntered shows n (lists ++ unless_empty list) rules front (own ++ list ∷ [])) where
    few_at : (ends : List (EntryList V)) → (ends ≡ []) ⊎ (ends ≡ list ∷ []) → unless_empty list ≡ ends → n ≤ length lists
    few_at ends (inl none) is = let many = e.many in omega (arith, length-append lists (unless_empty list), ap length (is ∙ none))
    few_at ends (inr some) is =
        let many = e.many in
        omega (arith, length-append lists (unless_empty list), ap length (is ∙ some), length-drop n (lists ++ unless_empty list), ap length (e.standing ∙ with_entries_more own list), length-append (with_entries own) (unless_empty list))

    few : n ≤ length lists
    few = few_at (unless_empty list) (empty_or_not list) refl

    left_deep : (h : HasLastFolder front) → f ≡ (h.first ∷ h.more) → fs ≡ folders_to (h.first ∷ h.more) → AreEntered shows n lists rules f own
    left_deep h is above =
        let zips = zip_last (IsListOf shows) (folders_to front) own list e.shown in
        let same = last_same fs zips.init f zips.last (sym listed ∙ zips.joined) in
        let of : IsListOf shows f list = subst (λ g. IsListOf shows g list) (sym same.1) zips.here in
        let deep : IsAbove f front = subst (λ g. IsAbove g front) (sym is) h.above in
        let base : list.base ≡ Some ((h.first ∷ h.more) ++ slash ∷ []) = of.based ∙ ap base_of_folder is in
        record {
          many = few;
          bases = bases_less lists list e.bases;
          shown = subst (λ gs. AllZip (IsListOf shows) gs own) (sym same.0 ∙ above ∙ ap folders_to (sym is)) zips.zip;
          standing = front_same (drop n lists) (with_entries own) list (unless_empty list) (empty_or_not list) (sym (drop-append-le n lists (unless_empty list) few) ∙ e.standing ∙ with_entries_more own list);
          none = λ folder pair higher ignored.
              let shorter : length folder < length ((h.first ∷ h.more) ++ slash ∷ []) = let less = above_is_shorter folder f higher in omega (arith, ap length is, length-append (h.first ∷ h.more) (slash ∷ [])) in
              let nothing : NothingLeft rules.case list.base folder = subst (λ b. NothingLeft rules.case b folder) (sym base) (nothing_left_shorter rules.case ((h.first ∷ h.more) ++ slash ∷ []) folder shorter) in
              e.none folder pair (above_above folder f front higher deep) (ignores_with lists list rules folder nothing pair ignored);
        }

    pub entered_left : ¬ (f ≡ []) → (AreEntered shows n lists rules f own) × (folders_to f ≡ fs)
    entered_left some = ⊎_elim
        (λ (none : f ≡ []). absurd (some none))
        (λ (deep : (h : HasLastFolder front) × (f ≡ (h.first ∷ h.more)) × (fs ≡ folders_to (h.first ∷ h.more))). (left_deep deep.0 deep.1 deep.2, ap folders_to deep.1 ∙ sym deep.2))
        (is_last front fs f listed)

  -- the last folder stays: what lies right in it begins with the folder and a slash
  stays_deep : (lists own : List (EntryList V)) → AreEntered shows n lists rules front own → (h : HasLastFolder front) → f ≡ (h.first ∷ h.more) → AreEntered shows n lists rules (start_of f) own × (folders_to (start_of f) ≡ folders_to front)
  stays_deep lists own e h is =
      let starts : start_of f ≡ (h.first ∷ h.more) ++ slash ∷ [] = ap start_of is in
      let same : folders_to (start_of f) ≡ folders_to front = ap folders_to starts ∙ folders_slash h.first h.more ∙ sym h.listed in (
        record {
          many = e.many;
          bases = e.bases;
          shown = subst (λ gs. AllZip (IsListOf shows) gs own) (sym same) e.shown;
          standing = e.standing;
          none = λ folder pair above ignored. ⊎_elim
              (λ (here : (folder ≡ (h.first ∷ h.more)) × (slash ≡ slash)). e.none (h.first ∷ h.more) pair h.above (subst (λ g. Ignores lists rules g pair) here.0 ignored))
              (λ (higher : IsAbove folder (h.first ∷ h.more)). e.none folder pair (above_above folder (h.first ∷ h.more) front higher h.above) ignored)
              (above_more folder (h.first ∷ h.more) slash (subst (IsAbove folder) starts above));
        },
        same,
      )

  stays_top : (lists own : List (EntryList V)) → AreEntered shows n lists rules front own → f ≡ [] → fs ≡ [] → AreEntered shows n lists rules (start_of f) own × (folders_to (start_of f) ≡ folders_to front)
  stays_top lists own e is above =
      let starts : start_of f ≡ [] = ap start_of is in
      let same : folders_to (start_of f) ≡ folders_to front = ap folders_to starts ∙ sym (listed ∙ ap (λ gs. gs ++ f ∷ []) above ∙ ap (λ g. g ∷ []) is) in (
        record {
          many = e.many;
          bases = e.bases;
          shown = subst (λ gs. AllZip (IsListOf shows) gs own) (sym same) e.shown;
          standing = e.standing;
          none = λ folder pair above ignored. let shorter = above_is_shorter folder [] (subst (IsAbove folder) starts above) in omega (arith);
        },
        same,
      )

  pub entered_stays : (lists own : List (EntryList V)) → AreEntered shows n lists rules front own → AreEntered shows n lists rules (start_of f) own × (folders_to (start_of f) ≡ folders_to front)
  entered_stays lists own e = ⊎_elim
      (λ (only : folders_to front ≡ [] ∷ []). let same = last_same fs [] f [] (sym listed ∙ only) in stays_top lists own e same.1 same.0)
      (λ (h : HasLastFolder front). stays_deep lists own e h (last_same fs (folders_to (h.first ∷ h.more)) f (h.first ∷ h.more) (sym listed ∙ h.listed)).1)
      (last_folder front)

-- what lies in a folder begins with it and a slash, and then has its name there
pub name_follows : (front : List ℕ) (fs : List Folder) (f : Folder) → folders_to front ≡ fs ++ f ∷ [] → start_of f ++ drop (length (start_of f)) front ≡ front
name_follows front fs f listed = ⊎_elim
    (λ (none : f ≡ []). ap (λ g. start_of g ++ drop (length (start_of g)) front) none)
    (λ (deep : (h : HasLastFolder front) × (f ≡ (h.first ∷ h.more)) × (fs ≡ folders_to (h.first ∷ h.more))).
    let h = deep.0 in
    let below = h.above.0 in
    let joined : front ≡ start_of f ++ below = h.above.1 ∙ sym (append_assoc (h.first ∷ h.more) (slash ∷ []) below) ∙ ap (λ g. start_of g ++ below) (sym deep.1) in
    ap (λ t. start_of f ++ drop (length (start_of f)) t) joined ∙ ap (λ t. start_of f ++ t) (drop-append_seam (start_of f) below) ∙ sym joined)
    (is_last front fs f listed)
