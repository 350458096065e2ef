-- A search from the path at which a listing stands.
use Rattle.std.proofs.Common.{◌≡◌, inl, inr, ⊎_elim, ℕ, ◌≤◌, Bool, List, [], ◌∷◌, ◌++◌, length, take, sym, ap, subst, ◌∙◌, arith}
use Rattle.std.specs.Prelude.{◌↔◌, IsTrue}
use Rattle.std.proofs.lemmas.List.{take_all}
use Rattle.gix_glob.specs.EntryLists.{EntryList}
use Rattle.glob_trees.specs.Ways.{Folder, GivesOnly, start_of}
use Rattle.tree_commands.specs.declared.files.choosing.Chosen.{Chosen}
use Rattle.tree_commands.specs.declared.files.choosing.Folders.{Folders}
use Rattle.tree_commands.specs.declared.files.lister.Lister.{Lister}
use Rattle.tree_commands.specs.declared.files.pending.Pending.{Pending}
use Rattle.tree_commands.specs.FileTrees.{FileTree}
use Rattle.tree_commands.specs.Files.{AsksSearches, Basis, HasListedBy, IsMet, IsTold, Terms, search_of}
use Rattle.tree_commands.specs.Private.Filling.{KeepsLists, MaySearch, OfStanding}
use Rattle.tree_commands.specs.Private.Listing.{Among, MayVisit, path_of, seen_lists, terms_of}
use Rattle.tree_commands.specs.Private.UnderWay.{Beginning, IsHalfway, IsUnderWay, OfKnown, beginning_of}
use Rattle.tree_commands.proofs.lemmas.FillingLemmas.{has_found, search_halfway, search_under_way, stands_as}

-- the terms of the search
abbrev pub searching : Folders → Chosen → Terms → Terms
searching folders chosen terms = record { case = terms.case; chosen = chosen; folders = folders; tracked = terms.tracked }

abbrev begun_with : List Pending → List (EntryList (Unit {0})) → Beginning
begun_with pending lists = record { pending = pending; lists = lists }

same_beginning : (pending others : List Pending) (lists more : List (EntryList (Unit {0}))) → pending ≡ others → lists ≡ more → begun_with pending lists ≡ begun_with others more
same_beginning pending others lists more one two = ap (λ (ps : List Pending). begun_with ps lists) one ∙ ap (λ (ls : List (EntryList (Unit {0}))). begun_with others ls) two

one_kept : (next : Pending) (count : ℕ) → count ≤ next.list_count → (other : Pending) → Among (next ∷ []) other → count ≤ other.list_count
one_kept next count few other among = ⊎_elim (λ (is : next ≡ other). subst (λ (n : Pending). count ≤ n.list_count) is few) (λ (never : ⊥). absurd never) among

-- a search begins: the path alone is pending, and the lists are those of the listing
pub record IsSearch (terms : Terms) (lists : List (EntryList (Unit {0}))) (place : Pending) (folders : Folders) (chosen : Chosen) (search : Lister) : Type 0 where
  pub next : Pending
  pub path : path_of next ≡ path_of place
  pub count : next.list_count ≡ place.list_count
  pub below : next.is_below ≡ place.is_below
  pub same_terms : terms_of search.on_way.terms ≡ searching folders chosen terms
  pub beginning : beginning_of search ≡ begun_with (next ∷ []) lists

-- so it does where the path is put into a new one with these lists
pub search_begins : (listing made search : Lister) (place next : Pending) {folders : Folders} {chosen : Chosen} → made.on_way.lists.items ≡ listing.on_way.lists.items → terms_of made.on_way.terms ≡ searching folders chosen (terms_of listing.on_way.terms) → made.pending.items ≡ []
    → search.on_way ≡ made.on_way → search.pending.items ≡ made.pending.items ++ next ∷ [] → path_of next ≡ path_of place → next.list_count ≡ length made.on_way.lists.items → next.is_below ≡ place.is_below → place.list_count ≡ length listing.on_way.lists.items
    → IsSearch (terms_of listing.on_way.terms) (seen_lists listing.on_way.lists.items) place folders chosen search
search_begins listing made search place next lists terms none on_way put path count below whole = record {
  next = next;
  path = path;
  count = count ∙ ap length lists ∙ sym whole;
  below = below;
  same_terms = ap (λ w. terms_of w.terms) on_way ∙ terms;
  beginning = same_beginning search.pending.items (next ∷ []) (seen_lists search.on_way.lists.items) (seen_lists listing.on_way.lists.items)
      (put ∙ ap (λ ps. ps ++ next ∷ []) none) (ap (λ w. seen_lists w.lists.items) on_way ∙ ap seen_lists lists);
}

module _ {terms : Terms} {lists : List (EntryList (Unit {0}))} {place : Pending} {folders : Folders} {chosen : Chosen} {search : Lister} (it : IsSearch terms lists place folders chosen search) where
  pub search_may : MayVisit terms.case (path_of place) → place.list_count ≡ length lists → IsUnderWay search.on_way.terms.case [] search.pending.items (seen_lists search.on_way.lists.items)
  search_may may whole =
      subst (λ (t : Terms). IsUnderWay t.case [] search.pending.items (seen_lists search.on_way.lists.items)) (sym it.same_terms)
      (subst (λ (b : Beginning). IsUnderWay terms.case [] b.pending b.lists) (sym it.beginning)
      (search_under_way it.next lists terms.case (subst (MayVisit terms.case) (sym it.path) may) (omega (arith, it.count, whole))))

  -- the lists are the same in the end, cut to as many as they were
  pub search_keeps : place.list_count ≡ length lists → {after : List (EntryList (Unit {0}))} → KeepsLists (beginning_of search) after → take place.list_count after ≡ lists
  search_keeps whole {after} keeps =
      let kept = subst (λ (b : Beginning). KeepsLists b after) it.beginning keeps in
      kept place.list_count (omega (arith, whole)) (one_kept it.next place.list_count (omega (arith, it.count))) ∙ take_all place.list_count lists (omega (arith, whole))

  module _ {Known : FileTree → Type 0} (may : MaySearch terms lists place folders chosen) where
    -- what follows wherever it began follows here
    search_here : (Holds : Basis → FileTree → List ℕ → Type 0) → OfKnown Known (terms_of search.on_way.terms) (beginning_of search) Holds → OfStanding Known terms lists place (λ basis tree. Holds (search_of folders chosen basis) tree (path_of place))
    search_here Holds holds tree known basis same stands =
        subst (Holds (search_of folders chosen basis) tree) it.path
        (holds tree known (search_of folders chosen basis) (ap (searching folders chosen) same ∙ sym it.same_terms) (path_of it.next)
        (subst (λ (b : Beginning). IsHalfway (search_of folders chosen basis) tree (path_of it.next) [] b.pending b.lists) (sym it.beginning)
        (search_halfway it.next lists (search_of folders chosen basis) tree (stands_as (search_of folders chosen basis) tree lists place it.next it.path it.count it.below (may tree basis same stands)))))

    pub search_says : ¬ AsksSearches folders → (is_any : Bool) → OfKnown Known (terms_of search.on_way.terms) (beginning_of search) (λ basis tree start. IsTrue is_any ↔ ((found : List ℕ) × IsMet basis tree start found × IsTold basis tree found))
        → OfStanding Known terms lists place (λ basis tree. (folder : Folder) → path_of place ≡ start_of folder → IsTrue is_any ↔ HasListedBy folders chosen basis tree folder)
    search_says plain is_any says tree known basis same stands folder is =
        let here = search_here (λ basis tree start. IsTrue is_any ↔ ((found : List ℕ) × IsMet basis tree start found × IsTold basis tree found)) says tree known basis same stands in
        let has = has_found folders plain chosen basis tree folder (path_of place) is in
        ((λ yes. has.0 (here.0 yes)), (λ listed. here.1 (has.1 listed)))

    pub search_asks_here : {old new : Folder → Type 0} → GivesOnly (λ folder. OfKnown Known (terms_of search.on_way.terms) (beginning_of search) (λ basis tree start. IsMet basis tree start (start_of folder))) old new
        → GivesOnly (λ folder. OfStanding Known terms lists place (λ basis tree. IsMet (search_of folders chosen basis) tree (path_of place) (start_of folder))) old new
    search_asks_here {old} asked folder given = ⊎_elim
        (λ (before : old folder). inl before)
        (λ (met : OfKnown Known (terms_of search.on_way.terms) (beginning_of search) (λ basis tree start. IsMet basis tree start (start_of folder))).
        inr (search_here (λ basis tree start. IsMet basis tree start (start_of folder)) met))
        (asked folder given)
