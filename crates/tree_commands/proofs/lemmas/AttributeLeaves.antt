-- The top is entered, and the folder entered last is left.
use Rattle.std.proofs.Common.{◌≡◌, inl, ⊎_elim, ℕ, zero, suc, ◌<◌, List, [], ◌∷◌, ◌++◌, length, map, take, Option, None, Some, refl, sym, ap, subst, ◌∙◌, append-nil, length-append, arith}
use Rattle.std.specs.Prelude.{slice_get, slice_set}
use Rattle.std.specs.List.{AllByRecursion, AllZip, flat_map}
use Rattle.std.proofs.Math.Seq.{take-append_seam}
use Rattle.std.proofs.lemmas.Bool.{cases_eq}
use Rattle.std.proofs.lemmas.List.{length-set, map-append}
use Rattle.std.proofs.lemmas.Option.{same_Some}
use Rattle.gix_glob.specs.EntryLists.{EntryList, entry_list_of}
use Rattle.glob_attributes.specs.Macros.{Definition}
use Rattle.glob_attributes.specs.States.{Assigned, Lists}
use Rattle.glob_attributes.specs.Views.{seen_assignments}
use Rattle.glob_trees.specs.declared.on_way.FolderOnWay.{FolderOnWay}
use Rattle.glob_trees.specs.Known.{FolderNames, KnowsNone}
use Rattle.glob_trees.specs.Ways.{Folder, folders_to, start_of}
use Rattle.glob_trees.proofs.lemmas.WayLemmas.{ZipsLast, zip_last}
use Rattle.tree_commands.specs.declared.check_attr.walk.FoundFolder.{FoundFolder}
use Rattle.tree_commands.specs.CheckAttr.{Asked}
use Rattle.tree_commands.specs.Private.AttributeWays.{AreEntered, Holds, IsAt, IsListed, IsOnWay, PatternList, Sighting, last_on, last_sight, own_lists, places_of, top_sight, unknown}
use Rattle.tree_commands.proofs.lemmas.AttributeWalks.{HasOuter, IsLower, flat_last, has_outer, holds_less, last_long, left_level, last_sight-push, set_apart, set_at}

-- the same, by equal texts and lists
pub moved : {asked : Asked} {macros : List Definition} {shows : Folder → Option (List ℕ) → Type 0} {info : EntryList (List Assigned)} {lists : Lists} {folder : List ℕ} {way : List FolderOnWay} {names : FolderNames} {held : List FoundFolder} {read : List (List ℕ)}
    (other : List ℕ) (longer : List FolderOnWay) (now : List FoundFolder) → other ≡ folder → longer ≡ way → now ≡ held
    → AreEntered asked macros shows info lists folder way names held read → AreEntered asked macros shows info lists other longer names now read
moved {asked = asked} {macros = macros} {shows = shows} {info = info} {lists = lists} {folder = folder} {way = way} {names = names} {held = held} {read = read} other longer now same_folder same_way same_held e =
    subst (λ f. AreEntered asked macros shows info lists f longer names now read) (sym same_folder)
    (subst (λ w. AreEntered asked macros shows info lists folder w names now read) (sym same_way)
    (subst (λ h. AreEntered asked macros shows info lists folder way names h read) (sym same_held) e))

module _ (asked : Asked) (macros : List Definition) (shows : Folder → Option (List ℕ) → Type 0) (info : EntryList (List Assigned)) where
  -- ---- the top alone is entered

  nothing_held : (place : ℕ) (found : FoundFolder) (at : Sighting) → slice_get (unknown ∷ []) place ≡ Some found → IsAt [] place at → Holds (own_lists asked macros at) at.file [] place found
  nothing_held zero found at is there =
      subst (λ a. Holds (own_lists asked macros a) a.file [] 0 found) (same_Some top_sight at there)
      (subst (Holds [] None [] 0) (same_Some unknown found is) (record { is_there = refl; list = inl refl }))
  nothing_held (suc place) found at is there = absurd (cc)

  pub top_entered : (names : FolderNames) (read : List (List ℕ)) → KnowsNone names 1 → AllByRecursion (λ bytes. (folder : Folder) × shows folder (Some bytes)) read
      → AreEntered asked macros shows info (info ∷ []) [] [] names (unknown ∷ []) read
  top_entered names read none shown = record {
    sights = [];
    known = record {
      count = none.count;
      level = refl;
      links = λ outer name place is. absurd (let no = none.none outer name in cc);
      sighted = tt;
      kept = nothing_held;
    };
    on_way = [];
    joined = refl;
    each = tt;
    standing = refl;
    shown = shown;
    starts = refl;
  }

  pub top_entered_as : (lists : Lists) (folder : List ℕ) (way : List FolderOnWay) (names : FolderNames) (held : List FoundFolder) (read : List (List ℕ)) → lists ≡ info ∷ [] → folder ≡ [] → way ≡ [] → held ≡ unknown ∷ [] → KnowsNone names 1
      → AllByRecursion (λ bytes. (folder : Folder) × shows folder (Some bytes)) read → AreEntered asked macros shows info lists folder way names held read
  top_entered_as lists folder way names held read only top none nothing knows shown =
      subst (λ ls. AreEntered asked macros shows info ls folder way names held read) (sym only) (moved folder way held top none nothing (top_entered names read knows shown))

  -- ---- the folder entered last is left

  module _ (lists : Lists) (folder : List ℕ) (way : List FolderOnWay) (names : FolderNames) (held : List FoundFolder) (read : List (List ℕ)) (e : AreEntered asked macros shows info lists folder way names held read) where
    -- no folder is on the way but the top
    pub none_on_way : way ≡ [] → folder ≡ []
    none_on_way none = e.starts ∙ ap (λ ats. start_of (last_sight ats).folder) (none_sighted e.on_way (subst (AllZip (IsOnWay (own_lists asked macros) e.sights) e.on_way) none e.each))
      where
        none_sighted : (ats : List Sighting) → AllZip (IsOnWay (own_lists asked macros) e.sights) ats [] → ats ≡ []
        none_sighted [] each = refl
        none_sighted (at ∷ ats) each = absurd each

    module _ (deep : 0 < length folder) (above : List FolderOnWay) (left : FolderOnWay) (is : way ≡ above ++ left ∷ []) where
      pub zips : ZipsLast (IsOnWay (own_lists asked macros) e.sights) e.on_way above left
      zips = zip_last (IsOnWay (own_lists asked macros) e.sights) e.on_way above left (subst (AllZip (IsOnWay (own_lists asked macros) e.sights) e.on_way) is e.each)

      abbrev own : Lists
      own = own_lists asked macros zips.last

      pub place_at : IsAt e.sights left.place zips.last
      place_at = let here = zips.here in here.sighted

      pub left_listed : IsListed left.has_list own
      left_listed = let here = zips.here in here.listed

      starts : folder ≡ start_of zips.last.folder
      starts = e.starts ∙ ap (λ ats. start_of (last_sight ats).folder) zips.joined ∙ ap (λ (at : Sighting). start_of at.folder) (last_sight-push zips.init zips.last)

      last_deep : 0 < length (start_of zips.last.folder)
      last_deep = subst (λ t. 0 < length t) starts deep

      level : folders_to zips.last.folder ≡ [] ∷ map (λ at. at.folder) zips.init
      level =
          left_level zips.last.folder ([] ∷ map (λ at. at.folder) zips.init) last_deep
          (ap folders_to (sym starts) ∙ e.joined ∙ ap (λ ats. [] ∷ map (λ (at : Sighting). at.folder) ats) zips.joined ∙ ap (λ l. [] ∷ l) (map-append (λ (at : Sighting). at.folder) zips.init (zips.last ∷ [])))

      outer : HasOuter zips.init zips.last.folder
      outer = has_outer zips.init zips.last.folder last_deep level

      low : IsLower (last_sight zips.init).folder zips.last.folder
      low = outer.low

      long : (last_on above).length ≡ length (start_of (last_sight zips.init).folder)
      long = last_long (own_lists asked macros) e.sights zips.init above zips.zip

      begins : take (last_on above).length folder ≡ start_of (last_sight zips.init).folder
      begins =
          ap (λ n. take n folder) long
          ∙ ap (take (length (start_of (last_sight zips.init).folder))) (starts ∙ low.joined)
          ∙ take-append_seam (start_of (last_sight zips.init).folder) low.rest

      pub shorter : length (take (last_on above).length folder) < length folder
      shorter =
          let some = low.some in
          omega (arith, ap length begins, ap length (starts ∙ low.joined), length-append (start_of (last_sight zips.init).folder) low.rest)

      pub standing : lists ≡ (flat_map (own_lists asked macros) zips.init ++ own) ++ info ∷ []
      standing = e.standing ∙ ap (λ ats. flat_map (own_lists asked macros) ats ++ info ∷ []) zips.joined ∙ ap (λ ls. ls ++ info ∷ []) (flat_last (own_lists asked macros) zips.init zips.last)

      pub leaves : (less : Lists) (now : List FoundFolder) → less ≡ flat_map (own_lists asked macros) zips.init ++ info ∷ [] → length now ≡ length held
          → ((place : ℕ) (found : FoundFolder) (at : Sighting) → slice_get now place ≡ Some found → IsAt e.sights place at → Holds (own_lists asked macros at) at.file (places_of above) place found)
          → AreEntered asked macros shows info less (take (last_on above).length folder) above names now read
      leaves less now stands same keeps = record {
        sights = e.sights;
        known = record {
          count = e.known.count ∙ sym same;
          level = same ∙ e.known.level;
          links = e.known.links;
          sighted = e.known.sighted;
          kept = keeps;
        };
        on_way = zips.init;
        joined = ap folders_to begins ∙ outer.level;
        each = zips.zip;
        standing = stands;
        shown = e.shown;
        starts = begins;
      }

      kept_before : (place : ℕ) (found : FoundFolder) (at : Sighting) → slice_get held place ≡ Some found → IsAt e.sights place at → Holds (own_lists asked macros at) at.file (places_of above ++ left.place ∷ []) place found
      kept_before place found at there sighted =
          subst (λ ps. Holds (own_lists asked macros at) at.file ps place found) (ap places_of is ∙ map-append (λ (there : FolderOnWay). there.place) above (left ∷ [])) (e.known.kept place found at there sighted)

      at_left : (place : ℕ) (at : Sighting) → left.place ≡ place → IsAt e.sights place at → own ≡ own_lists asked macros at
      at_left place at same sighted = ap (own_lists asked macros) (same_Some zips.last at (sym place_at ∙ subst (λ k. slice_get (top_sight ∷ e.sights) k ≡ Some at) (sym same) sighted))

      -- no list was on the way
      keeps_none : own ≡ [] → (place : ℕ) (found : FoundFolder) (at : Sighting) → slice_get held place ≡ Some found → IsAt e.sights place at → Holds (own_lists asked macros at) at.file (places_of above) place found
      keeps_none none place found at there sighted =
          holds_less (own_lists asked macros at) at.file (places_of above) left.place place found
          (λ same empty. empty ∙ sym none ∙ at_left place at same sighted)
          (kept_before place found at there sighted)

      pub leaves_none : own ≡ [] → AreEntered asked macros shows info lists (take (last_on above).length folder) above names held read
      leaves_none none =
          leaves lists held (standing ∙ ap (λ ls. (flat_map (own_lists asked macros) zips.init ++ ls) ++ info ∷ []) none ∙ ap (λ ls. ls ++ info ∷ []) (append-nil (flat_map (own_lists asked macros) zips.init)))
          refl (keeps_none none)

      -- the list is kept by its place
      module _ (list : PatternList) (old : FoundFolder) (there : slice_get held left.place ≡ Some old) (its : own ≡ entry_list_of seen_assignments list ∷ []) where
        abbrev new : FoundFolder
        new = record { is_there = old.is_there; list = Some list }

        keeps_list : (place : ℕ) (found : FoundFolder) (at : Sighting) → slice_get (slice_set held left.place new) place ≡ Some found → IsAt e.sights place at → Holds (own_lists asked macros at) at.file (places_of above) place found
        keeps_list place found at stands sighted = ⊎_elim
            (λ (same : place ≡ left.place).
            let put : found ≡ new = set_at held left.place new found (subst (λ k. slice_get (slice_set held left.place new) k ≡ Some found) same stands) in
            let before = kept_before place old at (ap (slice_get held) same ∙ there) sighted in
            subst (Holds (own_lists asked macros at) at.file (places_of above) place) (sym put)
            (record { is_there = before.is_there; list = inl (sym its ∙ at_left place at (sym same) sighted) }))
            (λ (apart : place ≡ left.place → ⊥).
            holds_less (own_lists asked macros at) at.file (places_of above) left.place place found (λ same empty. absurd (apart (sym same)))
            (kept_before place found at (sym (set_apart held left.place place new apart) ∙ stands) sighted))
            (cases_eq place left.place)

        pub leaves_list : (less : Lists) → less ≡ flat_map (own_lists asked macros) zips.init ++ info ∷ []
            → AreEntered asked macros shows info less (take (last_on above).length folder) above names (slice_set held left.place new) read
        leaves_list less stands = leaves less (slice_set held left.place new) stands (length-set held left.place new) keeps_list
