-- The folder entered last is left: the one above it is the last one then.
use Rattle.std.proofs.Common.{◌≡◌, ⊎_elim, ℕ, ◌<◌, ◌≤◌, List, [], ◌∷◌, ◌++◌, length, take, drop, Option, Some, Vec, refl, sym, ap, subst, ◌∙◌, append_assoc, length-append, length-drop, arith}
use Rattle.std.specs.Prelude.{◌↔◌, IsTrue, reverse, slice_get, slice_set}
use Rattle.std.specs.List.{AllZip}
use Rattle.std.proofs.Math.Seq.{take-append_seam}
use Rattle.std.proofs.lemmas.Bool.{cases_eq}
use Rattle.std.proofs.lemmas.List.{drop-append-le, map-append, take-append-drop, take-append-le}
use Rattle.glob_lists.specs.declared.rules.Rules.{Rules}
use Rattle.gix_glob.specs.declared.search.pattern.list.List as patterns
use Rattle.gix_glob.specs.Bytes.{slash}
use Rattle.gix_glob.specs.EntryLists.{EntryList, entry_list_of}
use Rattle.glob_trees.specs.declared.on_way.FolderOnWay.{FolderOnWay}
use Rattle.glob_trees.specs.Private.Entered.{AreEntered, AreUnderWay, EndsWith, HoldsOwn, IsInner, IsKnown, IsOnWay, lists_to, own_lists, places_of}
use Rattle.glob_trees.specs.Known.{FolderNames}
use Rattle.glob_trees.specs.Private.Known.{ArePlaces, name_in}
use Rattle.glob_trees.specs.Ways.{Folder, folders_to, start_of, unless_empty}
use Rattle.glob_trees.proofs.lemmas.Entering.{entered_left, front_same, name_follows}
use Rattle.glob_trees.proofs.lemmas.Known.{holds_less, set_here, set_other, starts_as, zips_last}
use Rattle.glob_trees.proofs.lemmas.Places.{places_less}
use Rattle.glob_trees.proofs.lemmas.WayLemmas.{ZipsLast, last_same, zip_last, zips_some}
use Rattle.glob_trees.proofs.lemmas.WithEntries.{empty_or_not}

some_last : {X : Type 0} (xs : List X) → 0 < length xs → (init : List X) × (last : X) × (xs ≡ init ++ last ∷ [])
some_last [] some = absurd (omega arith)
some_last (x ∷ []) some = ([], x, refl)
some_last (x ∷ y ∷ xs) some = let rest = some_last (y ∷ xs) (omega arith) in (x ∷ rest.0, rest.1, ap (λ l. x ∷ l) rest.2)

-- what lies in a folder begins with what begins what lies in the one above it
start_longer : (folder above : Folder) → ¬ (folder ≡ []) → start_of above ++ drop (length (start_of above)) folder ≡ folder
    → start_of folder ≡ start_of above ++ (drop (length (start_of above)) folder ++ slash ∷ [])
start_longer [] above deep joined = absurd (deep refl)
start_longer (x ∷ xs) above deep joined = sym (ap (λ t. t ++ slash ∷ []) joined) ∙ append_assoc (start_of above) (drop (length (start_of above)) (x ∷ xs)) (slash ∷ [])

module _ {T X V : Type 0} (shows : Folder → EntryList V → Type 0) (gave : Folder → Type 0) (seen : X → V) (n : ℕ) (rules : Rules) (lists : List (EntryList V)) (start : List ℕ) (way : List FolderOnWay) (names : FolderNames) (held : List (Option (patterns.List T X))) (front : List ℕ) (under : AreUnderWay shows gave seen n rules lists start way names held front) (deep : 0 < length start) where
  pub zips : ZipsLast (IsOnWay under.facts (length held)) (folders_to front) under.ends.above under.ends.last
  zips = zips_last shows gave seen n rules lists start way names held front under

  starts : start ≡ start_of zips.last
  unfolding zips
  starts = starts_as shows gave seen n rules lists start way names held front under

  folder_deep : ¬ (zips.last ≡ [])
  folder_deep none = omega (arith, ap length (starts ∙ ap start_of none))

  own_split : own_lists under.facts way ≡ own_lists under.facts under.ends.above ++ (under.facts under.ends.last.place).own ∷ []
  own_split = ap (own_lists under.facts) under.ends.joined ∙ map-append (λ (there : FolderOnWay). (under.facts there.place).own) under.ends.above (under.ends.last ∷ [])

  -- its place, and whether its list is on the way
  pub place_inside : under.ends.last.place < length held
  place_inside = let here = zips.here in here.inside

  pub list_on_way : IsTrue under.ends.last.has_list ↔ (unless_empty (under.facts under.ends.last.place).own ≡ (under.facts under.ends.last.place).own ∷ [])
  list_on_way = let here = zips.here in here.listed

  module _ (less : List (EntryList V)) (listed : lists ≡ less ++ unless_empty (under.facts under.ends.last.place).own) where
    left : AreEntered shows n less rules zips.last (own_lists under.facts under.ends.above) × (folders_to zips.last ≡ zips.init)
    left =
        entered_left shows rules n front zips.init zips.last zips.joined less (own_lists under.facts under.ends.above) (under.facts under.ends.last.place).own
        (subst (AreEntered shows n (less ++ unless_empty (under.facts under.ends.last.place).own) rules front) own_split (subst (λ ls. AreEntered shows n ls rules front (own_lists under.facts way)) listed under.stands))
        folder_deep

    pub few : n ≤ length less
    few = let stands = left.0 in stands.many

    on_way : AllZip (IsOnWay under.facts (length held)) (folders_to zips.last) under.ends.above
    on_way = subst (λ fs. AllZip (IsOnWay under.facts (length held)) fs under.ends.above) (sym left.1) zips.zip

    -- the folder above it
    outer : (init : List FolderOnWay) × (last : FolderOnWay) × (under.ends.above ≡ init ++ last ∷ [])
    outer = some_last under.ends.above (zips_some (IsOnWay under.facts (length held)) zips.last under.ends.above on_way)

    above : ZipsLast (IsOnWay under.facts (length held)) (folders_to zips.last) outer.0 outer.1
    above = zip_last (IsOnWay under.facts (length held)) (folders_to zips.last) outer.0 outer.1 (subst (AllZip (IsOnWay under.facts (length held)) (folders_to zips.last)) outer.2 on_way)

    -- the folders and the places, with the last two of each apart
    folders_apart : folders_to front ≡ (above.init ++ above.last ∷ []) ++ zips.last ∷ []
    folders_apart = zips.joined ∙ ap (λ fs. fs ++ zips.last ∷ []) (sym left.1 ∙ above.joined)

    places_apart : places_of way ≡ (places_of outer.0 ++ outer.1.place ∷ []) ++ under.ends.last.place ∷ []
    places_apart =
        ap places_of under.ends.joined ∙ map-append (λ (there : FolderOnWay). there.place) under.ends.above (under.ends.last ∷ [])
        ∙ ap (λ ps. ps ++ under.ends.last.place ∷ []) (ap places_of outer.2 ∙ map-append (λ (there : FolderOnWay). there.place) outer.0 (outer.1 ∷ []))

    steps : (names.found outer.1.place (name_in above.last zips.last) ≡ Some under.ends.last.place) × ArePlaces names.found (reverse (above.init ++ above.last ∷ [])) (reverse (places_of outer.0 ++ outer.1.place ∷ []))
    steps =
        places_less names.found above.init above.last zips.last (places_of outer.0) outer.1.place under.ends.last.place
        (subst (λ ps. ArePlaces names.found (reverse ((above.init ++ above.last ∷ []) ++ zips.last ∷ [])) (reverse ps)) places_apart (subst (λ fs. ArePlaces names.found (reverse fs) (reverse (places_of way))) folders_apart under.places))

    step_inner : IsInner (under.facts outer.1.place) (name_in above.last zips.last) (under.facts under.ends.last.place)
    step_inner = (under.known.links outer.1.place (name_in above.last zips.last) under.ends.last.place steps.0).1

    -- how what lies in the folder above begins
    longer : start ≡ start_of above.last ++ (drop (length (start_of above.last)) zips.last ++ slash ∷ [])
    longer = starts ∙ start_longer zips.last above.last folder_deep (name_follows zips.last above.init above.last above.joined)

    start_above : take outer.1.length start ≡ start_of above.last
    start_above =
        let here = above.here in
        ap (λ k. take k start) here.long ∙ ap (take (length (start_of above.last))) longer ∙ take-append_seam (start_of above.last) (drop (length (start_of above.last)) zips.last ++ slash ∷ [])

    lists_above : drop n less ≡ lists_to (under.facts outer.1.place)
    lists_above =
        let inner_last = step_inner in
        let own = (under.facts under.ends.last.place).own in
        front_same (drop n less) (under.facts under.ends.last.place).above own (unless_empty own) (empty_or_not own)
        (sym (drop-append-le n less (unless_empty own) few) ∙ ap (drop n) (sym listed) ∙ under.ends.listed)
        ∙ inner_last.above

    fronts_less : take n less ≡ take n lists
    fronts_less = sym (take-append-le n less (unless_empty (under.facts under.ends.last.place).own) few) ∙ ap (take n) (sym listed)

    pub leaves : (now : List (Option (patterns.List T X))) → length now ≡ length held → ((place : ℕ) (o : Option (patterns.List T X)) → slice_get now place ≡ Some o → HoldsOwn seen (places_of under.ends.above) place (under.facts place).own o)
        → (last : FolderOnWay) → EndsWith under.ends.above last
        → AreUnderWay shows gave seen n rules less (take last.length start) under.ends.above names now zips.last
    leaves now same keeps last is =
        let it : last ≡ outer.1 = is outer.0 outer.1 outer.2 in
        let begins : take last.length start ≡ start_of above.last = ap (λ (w : FolderOnWay). take w.length start) it ∙ start_above in
        let here = above.here in
        record {
          facts = under.facts;
          known = record {
            count = under.known.count ∙ sym same;
            links = λ i name place found. let old = under.known.links i name place found in (subst (λ k. place < k) (sym same) old.0, old.1, subst (λ k. i < k) (sym same) old.2);
            known = λ place inside. subst (λ ls. IsKnown shows ls rules (under.facts place)) (sym fronts_less) (under.known.known place (subst (λ k. place < k) same inside));
            kept = keeps;
          };
          stands = left.0;
          on_way = subst (λ k. AllZip (IsOnWay under.facts k) (folders_to zips.last) under.ends.above) (sym same) on_way;
          places = subst (λ ps. ArePlaces names.found (reverse (folders_to zips.last)) (reverse ps)) (sym (ap places_of outer.2 ∙ map-append (λ (there : FolderOnWay). there.place) outer.0 (outer.1 ∷ [])))
              (subst (λ fs. ArePlaces names.found (reverse fs) (reverse (places_of outer.0 ++ outer.1.place ∷ []))) (sym above.joined) steps.1);
          ends = record {
            above = outer.0;
            last = outer.1;
            joined = outer.2;
            starts = begins ∙ sym (ap start_of here.named);
            listed = lists_above;
          };
          at_hand = under.at_hand;
        }

    pub shorter : (last : FolderOnWay) → EndsWith under.ends.above last → length (take last.length start) < length start
    shorter last is =
        let it : last ≡ outer.1 = is outer.0 outer.1 outer.2 in
        let begins : take last.length start ≡ start_of above.last = ap (λ (w : FolderOnWay). take w.length start) it ∙ start_above in
        omega (arith, ap length begins, ap length longer, length-append (start_of above.last) (drop (length (start_of above.last)) zips.last ++ slash ∷ []), length-append (drop (length (start_of above.last)) zips.last) (slash ∷ []))

  -- ---- what is kept then

  kept_before : (place : ℕ) (o : Option (patterns.List T X)) → slice_get held place ≡ Some o → HoldsOwn seen (places_of under.ends.above ++ under.ends.last.place ∷ []) place (under.facts place).own o
  kept_before place o there =
      subst (λ ps. HoldsOwn seen ps place (under.facts place).own o) (ap places_of under.ends.joined ∙ map-append (λ (there : FolderOnWay). there.place) under.ends.above (under.ends.last ∷ [])) (under.known.kept place o there)

  -- no list was on the way
  pub keeps_none : unless_empty (under.facts under.ends.last.place).own ≡ [] → (place : ℕ) (o : Option (patterns.List T X)) → slice_get held place ≡ Some o → HoldsOwn seen (places_of under.ends.above) place (under.facts place).own o
  keeps_none none place o there =
      holds_less seen (places_of under.ends.above) place (under.facts place).own under.ends.last.place o (λ same. subst (λ k. unless_empty (under.facts k).own ≡ []) (sym same) none) (kept_before place o there)

  -- the list is kept by its place
  pub keeps_list : (list : patterns.List T X) → entry_list_of seen list ≡ (under.facts under.ends.last.place).own → unless_empty (under.facts under.ends.last.place).own ≡ (under.facts under.ends.last.place).own ∷ []
      → (place : ℕ) (o : Option (patterns.List T X)) → slice_get (slice_set held under.ends.last.place (Some list)) place ≡ Some o → HoldsOwn seen (places_of under.ends.above) place (under.facts place).own o
  keeps_list list is some place o there = ⊎_elim
      (λ (same : place ≡ under.ends.last.place).
      let put : o ≡ Some list = set_here held under.ends.last.place (Some list) o (subst (λ k. slice_get (slice_set held under.ends.last.place (Some list)) k ≡ Some o) same there) in
      subst (HoldsOwn seen (places_of under.ends.above) place (under.facts place).own) (sym put) (subst (λ k. (entry_list_of seen list ≡ (under.facts k).own) × (unless_empty (under.facts k).own ≡ (under.facts k).own ∷ [])) (sym same) (is, some)))
      (λ (apart : place ≡ under.ends.last.place → ⊥).
      holds_less seen (places_of under.ends.above) place (under.facts place).own under.ends.last.place o (λ same. absurd (apart same)) (kept_before place o (sym (set_other held under.ends.last.place place (Some list) apart) ∙ there)))
      (cases_eq place under.ends.last.place)

  -- the last list is the folder's
  pub last_list : (less : List (EntryList V)) (list : EntryList V) → lists ≡ less ++ list ∷ [] → unless_empty (under.facts under.ends.last.place).own ≡ (under.facts under.ends.last.place).own ∷ [] → list ≡ (under.facts under.ends.last.place).own
  last_list less list joined some =
      let facts = under.facts under.ends.last.place in
      (last_same less (take n lists ++ facts.above) list facts.own
      (sym joined ∙ sym (take-append-drop n lists) ∙ ap (λ ls. take n lists ++ ls) (under.ends.listed ∙ ap (λ ls. facts.above ++ ls) some) ∙ sym (append_assoc (take n lists) facts.above (facts.own ∷ [])))).1

  pub list_apart : (less : List (EntryList V)) (list : EntryList V) → lists ≡ less ++ list ∷ [] → unless_empty (under.facts under.ends.last.place).own ≡ (under.facts under.ends.last.place).own ∷ [] → lists ≡ less ++ unless_empty (under.facts under.ends.last.place).own
  list_apart less list joined some = joined ∙ ap (λ ls. less ++ ls) (ap (λ l. l ∷ []) (last_list less list joined some) ∙ sym some)

  -- where it has a list, some list is on the way
  pub some_list : unless_empty (under.facts under.ends.last.place).own ≡ (under.facts under.ends.last.place).own ∷ [] → 0 < length lists
  some_list some =
      let facts = under.facts under.ends.last.place in
      omega (arith, ap length (under.ends.listed ∙ ap (λ ls. facts.above ++ ls) some), length-append facts.above (facts.own ∷ []), length-drop n lists)
