-- A folder is looked at, and a known one is entered.
use Rattle.std.proofs.Common.{◌≡◌, inl, inr, ⊎_elim, ℕ, ◌<◌, true, false, List, [], ◌∷◌, ◌++◌, length, map, Option, None, Some, refl, sym, ap, subst, ◌∙◌, append-nil, length-append, arith}
use Rattle.std.specs.Prelude.{is_some, slice_get, slice_set}
use Rattle.std.specs.List.{Contains, flat_map}
use Rattle.std.proofs.lemmas.Bool.{cases_eq}
use Rattle.std.proofs.lemmas.List.{length-set, map-append}
use Rattle.std.proofs.lemmas.List.Elements.{Contains-append_left, Contains-append_right, Contains-push}
use Rattle.std.proofs.lemmas.Option.{same_Some}
use Rattle.gix_glob.specs.EntryLists.{EntryList}
use Rattle.glob_attributes.specs.Macros.{Definition}
use Rattle.glob_attributes.specs.States.{Assigned, Lists}
use Rattle.glob_trees.specs.declared.on_way.FolderOnWay.{FolderOnWay}
use Rattle.glob_trees.specs.Known.{AddsFolder, FolderNames}
use Rattle.glob_trees.specs.Ways.{Folder, folders_to, start_of}
use Rattle.glob_trees.proofs.lemmas.Cases.{cases_bytes}
use Rattle.glob_trees.proofs.lemmas.OnWay.{not_on_own_way}
use Rattle.glob_trees.proofs.lemmas.WayLemmas.{folders_slash, zip_more}
use Rattle.tree_commands.specs.declared.check_attr.walk.FoundFolder.{FoundFolder}
use Rattle.tree_commands.specs.CheckAttr.{Asked}
use Rattle.tree_commands.specs.Private.AttributeWays.{AreEntered, Holds, IsAt, IsLinked, IsListed, IsOnWay, IsPlaceOf, IsSighted, Sighting, held_lists, last_on, last_sight, own_lists, places_of, top_sight}
use Rattle.tree_commands.proofs.lemmas.AttributeWalks.{all_push, all_weaker, flat_last, get_inside, get_push_cases, get_push_here, get_push_old, holds_more, last_at, last_sight-push, placed, set_apart, set_at, zip_weaker}

module _ (asked : Asked) (macros : List Definition) (shows : Folder → Option (List ℕ) → Type 0) (info : EntryList (List Assigned)) (lists : Lists) (folder : List ℕ) (way : List FolderOnWay) (names : FolderNames) (held : List FoundFolder) (read : List (List ℕ)) (e : AreEntered asked macros shows info lists folder way names held read) where
  -- ---- the last folder on the way

  pub outer_at : IsAt e.sights (last_on way).place (last_sight e.on_way)
  outer_at = last_at (own_lists asked macros) e.sights e.on_way way e.each

  pub outer_inside : (last_on way).place < names.count
  outer_inside = let inside = get_inside (top_sight ∷ e.sights) (last_on way).place (last_sight e.on_way) outer_at in omega (arith, inside, e.known.count, e.known.level)

  -- a folder that is found by its name in it
  pub is_found : (name : List ℕ) (place : ℕ) → names.found (last_on way).place name ≡ Some place → IsPlaceOf e.sights (folder ++ name) place
  is_found name place is =
      let link = e.known.links (last_on way).place name place is in
      let same : link.above ≡ last_sight e.on_way = same_Some link.above (last_sight e.on_way) (sym link.at_outer ∙ outer_at) in
      record {
        deep = link.deep;
        at = link.below;
        there = link.at_place;
        named = link.folder ∙ ap (λ (a : Sighting). start_of a.folder ++ name) same ∙ ap (λ t. t ++ name) (sym e.starts);
      }

  -- ---- one more file was read

  pub read_more : (bytes : List ℕ) (at : Folder) → shows at (Some bytes) → AreEntered asked macros shows info lists folder way names held (read ++ bytes ∷ [])
  read_more bytes at shown = record {
    sights = e.sights;
    known = record {
      count = e.known.count;
      level = e.known.level;
      links = e.known.links;
      sighted = all_weaker (IsSighted asked macros shows read) (IsSighted asked macros shows (read ++ bytes ∷ []))
          (λ s h. record { shown = h.shown; has_read = λ b is. Contains-append_left read (bytes ∷ []) b (h.has_read b is) })
          e.sights e.known.sighted;
      kept = e.known.kept;
    };
    on_way = e.on_way;
    joined = e.joined;
    each = e.each;
    standing = e.standing;
    shown = all_push (λ bytes. (folder : Folder) × shows folder (Some bytes)) read bytes e.shown (at, shown);
    starts = e.starts;
  }

  -- ---- a folder is known

  module _ (new : Sighting) (found : FoundFolder) (name : List ℕ) (named : new.folder ≡ folder ++ name) (sighted : IsSighted asked macros shows read new) (there : found.is_there ≡ is_some new.file) (list : held_lists found ≡ own_lists asked macros new) (more : FolderNames) (place : ℕ) (adds : AddsFolder names more (last_on way).place name place) where
    here : place ≡ length (top_sight ∷ e.sights)
    here = adds.next ∙ e.known.count ∙ e.known.level

    at_old : (k : ℕ) (at : Sighting) → IsAt e.sights k at → IsAt (e.sights ++ new ∷ []) k at
    at_old k at is = get_push_old (top_sight ∷ e.sights) new at k is

    at_new : IsAt (e.sights ++ new ∷ []) place new
    at_new = subst (λ k. slice_get ((top_sight ∷ e.sights) ++ new ∷ []) k ≡ Some new) (sym here) (get_push_here (top_sight ∷ e.sights) new)

    linked_new : IsLinked (e.sights ++ new ∷ []) (last_on way).place name place
    linked_new = record {
      above = last_sight e.on_way;
      at_outer = at_old (last_on way).place (last_sight e.on_way) outer_at;
      below = new;
      at_place = at_new;
      deep = omega (arith, here);
      folder = named ∙ ap (λ t. t ++ name) e.starts;
    }

    linked_old : (outer : ℕ) (text : List ℕ) (other : ℕ) → names.found outer text ≡ Some other → IsLinked (e.sights ++ new ∷ []) outer text other
    linked_old outer text other is =
        let link = e.known.links outer text other is in
        record {
          above = link.above;
          at_outer = at_old outer link.above link.at_outer;
          below = link.below;
          at_place = at_old other link.below link.at_place;
          deep = link.deep;
          folder = link.folder;
        }

    links : (outer : ℕ) (text : List ℕ) (other : ℕ) → more.found outer text ≡ Some other → IsLinked (e.sights ++ new ∷ []) outer text other
    links outer text other is = ⊎_elim
        (λ (same_outer : outer ≡ (last_on way).place). ⊎_elim
        (λ (same_name : text ≡ name).
        let same : place ≡ other = same_Some place other (sym adds.here ∙ ap (λ k. more.found k name) (sym same_outer) ∙ ap (more.found outer) (sym same_name) ∙ is) in
        subst (λ k. IsLinked (e.sights ++ new ∷ []) k text other) (sym same_outer)
        (subst (λ t. IsLinked (e.sights ++ new ∷ []) (last_on way).place t other) (sym same_name)
        (subst (IsLinked (e.sights ++ new ∷ []) (last_on way).place name) same linked_new)))
        (λ (apart : text ≡ name → ⊥). linked_old outer text other (sym (adds.others outer text (λ both. apart both.1)) ∙ is))
        (cases_bytes text name))
        (λ (apart : outer ≡ (last_on way).place → ⊥). linked_old outer text other (sym (adds.others outer text (λ both. apart both.0)) ∙ is))
        (cases_eq outer (last_on way).place)

    kept : (k : ℕ) (one : FoundFolder) (at : Sighting) → slice_get (held ++ found ∷ []) k ≡ Some one → IsAt (e.sights ++ new ∷ []) k at → Holds (own_lists asked macros at) at.file (places_of way) k one
    kept k one at stands sees = ⊎_elim
        (λ (old : slice_get held k ≡ Some one). ⊎_elim
        (λ (seen : slice_get (top_sight ∷ e.sights) k ≡ Some at). e.known.kept k one at old seen)
        (λ (last : (k ≡ length (top_sight ∷ e.sights)) × (new ≡ at)). absurd (let inside = get_inside held k one old in omega (arith, inside, last.0, e.known.level)))
        (get_push_cases (top_sight ∷ e.sights) new at k sees))
        (λ (last : (k ≡ length held) × (found ≡ one)). ⊎_elim
        (λ (seen : slice_get (top_sight ∷ e.sights) k ≡ Some at). absurd (let inside = get_inside (top_sight ∷ e.sights) k at seen in omega (arith, inside, last.0, e.known.level)))
        (λ (both : (k ≡ length (top_sight ∷ e.sights)) × (new ≡ at)).
        subst (λ a. Holds (own_lists asked macros a) a.file (places_of way) k one) both.1
        (subst (Holds (own_lists asked macros new) new.file (places_of way) k) last.1 (record { is_there = there; list = inl list })))
        (get_push_cases (top_sight ∷ e.sights) new at k sees))
        (get_push_cases held found one k stands)

    pub known_more : (now : List FoundFolder) → now ≡ held ++ found ∷ [] → AreEntered asked macros shows info lists folder way more now read
    known_more now grown = record {
      sights = e.sights ++ new ∷ [];
      known = record {
        count = adds.count ∙ (let count = e.known.count in omega (arith, ap length grown, length-append held (found ∷ [])));
        level = let level = e.known.level in omega (arith, ap length grown, length-append held (found ∷ []), length-append e.sights (new ∷ []));
        links = links;
        sighted = all_push (IsSighted asked macros shows read) e.sights new e.known.sighted sighted;
        kept = λ k one at stands sees. kept k one at (subst (λ h. slice_get h k ≡ Some one) grown stands) sees;
      };
      on_way = e.on_way;
      joined = e.joined;
      each = zip_weaker (IsOnWay (own_lists asked macros) e.sights) (IsOnWay (own_lists asked macros) (e.sights ++ new ∷ []))
          (λ at w h. record { sighted = at_old w.place at h.sighted; file = h.file; stands = h.stands; long = h.long; listed = h.listed })
          e.on_way way e.each;
      standing = e.standing;
      shown = e.shown;
      starts = e.starts;
    }

    pub is_known : IsPlaceOf (e.sights ++ new ∷ []) (folder ++ name) place
    is_known = record { deep = omega (arith, here); at = new; there = at_new; named = named }

    pub known_place : (now : List FoundFolder) (grown : now ≡ held ++ found ∷ []) (text : Folder) → text ≡ folder ++ name → IsPlaceOf (known_more now grown).sights text place
    unfolding known_more
    known_place now grown text is = subst (λ f. IsPlaceOf (e.sights ++ new ∷ []) f place) (sym is) is_known

  -- ---- a known folder is entered

  module _ (x : ℕ) (xs : List ℕ) (place : ℕ) (p : IsPlaceOf e.sights (x ∷ xs) place) (level : folders_to (x ∷ xs) ≡ folders_to folder) where
    abbrev own : Lists
    own = own_lists asked macros p.at

    not_on_way : ¬ Contains (places_of way) place
    not_on_way on =
        let there = placed (own_lists asked macros) e.sights e.on_way way e.each place on in
        let same : there.at ≡ p.at = same_Some there.at p.at (sym there.there ∙ p.there) in
        let its : there.at.folder ≡ (x ∷ xs) = ap (λ (a : Sighting). a.folder) same ∙ p.named in
        let among = Contains-append_right ([] ∷ []) (map (λ (a : Sighting). a.folder) e.on_way) there.at.folder there.among in
        not_on_own_way (x ∷ xs) (λ none. absurd (cc)) (subst (Contains (folders_to (x ∷ xs))) its (subst (λ fs. Contains fs there.at.folder) (sym (level ∙ e.joined)) among))

    -- what is kept of it is its list
    pub held_own : (found : FoundFolder) → slice_get held place ≡ Some found → held_lists found ≡ own
    held_own found is = let h = e.known.kept place found p.at is p.there in ⊎_elim
        (λ (same : held_lists found ≡ own). same)
        (λ (away : Contains (places_of way) place × (held_lists found ≡ [])). absurd (not_on_way away.0))
        h.list

    enters : (more : Lists) (there : FolderOnWay) (now : List FoundFolder) → there.place ≡ place → there.length ≡ length (start_of (x ∷ xs)) → IsListed there.has_list own → (file : List ℕ) → p.at.file ≡ Some file
        → more ≡ (flat_map (own_lists asked macros) e.on_way ++ own) ++ info ∷ [] → length now ≡ length held
        → ((k : ℕ) (found : FoundFolder) (at : Sighting) → slice_get now k ≡ Some found → IsAt e.sights k at → Holds (own_lists asked macros at) at.file (places_of way ++ place ∷ []) k found)
        → AreEntered asked macros shows info more (start_of (x ∷ xs)) (way ++ there ∷ []) names now read
    enters more there now its long listed file stands standing same keeps = record {
      sights = e.sights;
      known = record {
        count = e.known.count ∙ sym same;
        level = same ∙ e.known.level;
        links = e.known.links;
        sighted = e.known.sighted;
        kept = λ k found at is sees. subst (λ ps. Holds (own_lists asked macros at) at.file ps k found)
            (ap (λ n. places_of way ++ n ∷ []) (sym its) ∙ sym (map-append (λ (w : FolderOnWay). w.place) way (there ∷ [])))
            (keeps k found at is sees);
      };
      on_way = e.on_way ++ p.at ∷ [];
      joined = folders_slash x xs ∙ ap (λ fs. fs ++ (x ∷ xs) ∷ []) (level ∙ e.joined)
          ∙ ap (λ f. ([] ∷ map (λ (a : Sighting). a.folder) e.on_way) ++ f ∷ []) (sym p.named)
          ∙ ap (λ fs. [] ∷ fs) (sym (map-append (λ (a : Sighting). a.folder) e.on_way (p.at ∷ [])));
      each = zip_more (IsOnWay (own_lists asked macros) e.sights) e.on_way way p.at there e.each (record {
        sighted = subst (λ k. IsAt e.sights k p.at) (sym its) p.there;
        file = file;
        stands = stands;
        long = long ∙ ap (λ f. length (start_of f)) (sym p.named);
        listed = listed;
      });
      standing = standing ∙ ap (λ ls. ls ++ info ∷ []) (sym (flat_last (own_lists asked macros) e.on_way p.at));
      shown = e.shown;
      starts = ap start_of (sym p.named) ∙ ap (λ (a : Sighting). start_of a.folder) (sym (last_sight-push e.on_way p.at));
    }

    -- it has no list
    keeps_none : (k : ℕ) (found : FoundFolder) (at : Sighting) → slice_get held k ≡ Some found → IsAt e.sights k at → Holds (own_lists asked macros at) at.file (places_of way ++ place ∷ []) k found
    keeps_none k found at is sees = holds_more (own_lists asked macros at) at.file (places_of way) place k found (e.known.kept k found at is sees)

    pub enters_none : (there : FolderOnWay) → there.place ≡ place → there.length ≡ length (start_of (x ∷ xs)) → there.has_list ≡ false → (file : List ℕ) → p.at.file ≡ Some file → own ≡ []
        → AreEntered asked macros shows info lists (start_of (x ∷ xs)) (way ++ there ∷ []) names held read
    enters_none there its long unlisted file stands none =
        enters lists there held its long (subst (λ b. IsListed b own) (sym unlisted) none) file stands
        (e.standing ∙ ap (λ ls. ls ++ info ∷ []) (sym (append-nil (flat_map (own_lists asked macros) e.on_way)) ∙ ap (λ ls. flat_map (own_lists asked macros) e.on_way ++ ls) (sym none)))
        refl keeps_none

    -- its list is put on the way
    module _ (old : FoundFolder) (is : slice_get held place ≡ Some old) where
      abbrev new : FoundFolder
      new = record { is_there = old.is_there; list = None }

      keeps_list : (k : ℕ) (found : FoundFolder) (at : Sighting) → slice_get (slice_set held place new) k ≡ Some found → IsAt e.sights k at → Holds (own_lists asked macros at) at.file (places_of way ++ place ∷ []) k found
      keeps_list k found at stands sees = ⊎_elim
          (λ (same : k ≡ place).
          let put : found ≡ new = set_at held place new found (subst (λ n. slice_get (slice_set held place new) n ≡ Some found) same stands) in
          let before = e.known.kept k old at (ap (slice_get held) same ∙ is) sees in
          subst (Holds (own_lists asked macros at) at.file (places_of way ++ place ∷ []) k) (sym put)
          (record { is_there = before.is_there; list = inr (subst (Contains (places_of way ++ place ∷ [])) (sym same) (Contains-push (places_of way) place), refl) }))
          (λ (apart : k ≡ place → ⊥).
          holds_more (own_lists asked macros at) at.file (places_of way) place k found (e.known.kept k found at (sym (set_apart held place k new apart) ∙ stands) sees))
          (cases_eq k place)

      pub enters_list : (more : Lists) (there : FolderOnWay) (list : EntryList (List Assigned)) → there.place ≡ place → there.length ≡ length (start_of (x ∷ xs)) → there.has_list ≡ true → (file : List ℕ) → p.at.file ≡ Some file → own ≡ list ∷ []
          → more ≡ (flat_map (own_lists asked macros) e.on_way ++ own) ++ info ∷ []
          → AreEntered asked macros shows info more (start_of (x ∷ xs)) (way ++ there ∷ []) names (slice_set held place new) read
      enters_list more there list its long listed file stands some standing =
          enters more there (slice_set held place new) its long (subst (λ b. IsListed b own) (sym listed) (list, some)) file stands standing (length-set held place new) keeps_list
