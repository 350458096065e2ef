-- What is known of folders stays known where one is entered again, asked for, or left.
use Rattle.std.proofs.Common.{◌≡◌, ◌⊎◌, inl, inr, ⊎_elim, ℕ, zero, suc, ◌+◌, ◌<◌, ◌≤◌, Bool, true, false, cond, List, [], ◌∷◌, ◌++◌, length, map, take, drop, Option, None, Some, Vec, refl, sym, ap, subst, ◌∙◌, append_assoc, length-append, take_all, slice_index, arith}
use Rattle.std.specs.Prelude.{◌↔◌, IsTrue, eqb, is_some, option_to_list, reverse, slice_get, slice_set}
use Rattle.std.specs.List.{AllZip, Contains}
use Rattle.std.proofs.Math.Seq.{drop-length}
use Rattle.std.proofs.lemmas.Bool.{cases_eq, false≢true, false_from_ne_true}
use Rattle.std.proofs.lemmas.Bool.Decides.{Decides-eqb}
use Rattle.std.proofs.lemmas.List.{length-set, map-append, take-append-drop, take-append-le, drop-append-le}
use Rattle.std.proofs.lemmas.List.Elements.{Contains-append_cases, Contains-append_left, Contains-append_right, Contains-push, Contains-push_cases}
use Rattle.std.proofs.lemmas.Option.{same_Some, slice_get_within}
use Rattle.glob_lists.specs.declared.rules.Rules.{Rules}
use Rattle.gix_glob.specs.declared.search.pattern.list.List as patterns
use Rattle.gix_glob.specs.Bytes.{HasByte, slash}
use Rattle.gix_glob.specs.EntryLists.{EntryList, entry_list_of}
use Rattle.glob_lists.specs.Deciding.{BasesAreFolders}
use Rattle.glob_trees.specs.declared.on_way.FolderOnWay.{FolderOnWay}
use Rattle.glob_trees.specs.Private.Entered.{AreEntered, AreKnown, AreUnderWay, EndsWith, Facts, HoldsOwn, IsInner, IsKnown, IsOnWay, gave_but, lists_to, own_lists, places_of}
use Rattle.glob_trees.specs.Known.{AddsFolder, FolderNames}
use Rattle.glob_trees.specs.Private.Known.{ArePlaces, name_in}
use Rattle.glob_trees.specs.Trees.{Ignores}
use Rattle.glob_trees.specs.Ways.{Folder, IsListOf, folders_to, start_of, unless_empty}
use Rattle.glob_trees.proofs.lemmas.Cases.{cases_bytes}
use Rattle.glob_trees.proofs.lemmas.Entering.{entered_folder, entered_slash, entered_stays, entered_top, name_follows}
use Rattle.glob_trees.proofs.lemmas.OnWay.{none_contained, not_on_own_way}
use Rattle.glob_trees.proofs.lemmas.Places.{named, places_more, places_stay}
use Rattle.glob_trees.proofs.lemmas.Stepping.{passing, passing_way}
use Rattle.glob_trees.proofs.lemmas.WayLemmas.{ZipsLast, folders_slash, zip_last, zip_more}
use Rattle.glob_trees.proofs.lemmas.WithEntries.{not_both}

pub but_one : {S : Type 0} (gave : S → Folder → Type 0) (source : S) (one folder : Folder) → ¬ gave_but gave one source folder → gave source folder → folder ≡ one
but_one gave source one folder none given = ⊎_elim
    (λ (same : folder ≡ one). same)
    (λ (apart : folder ≡ one → ⊥). absurd (none (given, apart)))
    (cases_bytes folder one)

-- ---- what is known of folders

-- what is known, with one folder more at a place
abbrev facts_with : {V : Type 0} → (ℕ → Facts V) → ℕ → Facts V → ℕ → Facts V
facts_with facts place new at = cond (eqb at place) new (facts at)

module _ {V : Type 0} (facts : ℕ → Facts V) (place : ℕ) (new : Facts V) where
  facts_here : facts_with facts place new place ≡ new
  facts_here = ap (λ b. cond b new (facts place)) ((Decides-eqb place place).1 refl)

  facts_other : (at : ℕ) → at < place → facts_with facts place new at ≡ facts at
  facts_other at less = ap (λ b. cond b new (facts at)) (false_from_ne_true (eqb at place) (λ too. let same = (Decides-eqb at place).0 too in omega arith))

  on_way_stays : (folders : List Folder) (way : List FolderOnWay) → AllZip (IsOnWay facts place) folders way → AllZip (IsOnWay (facts_with facts place new) (place + 1)) folders way
  on_way_stays [] [] zip = tt
  on_way_stays [] (w ∷ way) zip = absurd zip
  on_way_stays (f ∷ folders) [] zip = absurd zip
  on_way_stays (f ∷ folders) (w ∷ way) zip =
      let here = zip.0 in
      let same = facts_other w.place here.inside in (
        record {
          inside = let inside = here.inside in omega arith;
          named = ap (λ (k : Facts V). k.folder) same ∙ here.named;
          long = here.long;
          listed = subst (λ (k : Facts V). IsTrue w.has_list ↔ (unless_empty k.own ≡ k.own ∷ [])) (sym same) here.listed;
        },
        on_way_stays folders way zip.1,
      )

  own_stays : (folders : List Folder) (way : List FolderOnWay) → AllZip (IsOnWay facts place) folders way → own_lists (facts_with facts place new) way ≡ own_lists facts way
  own_stays folders [] zip = refl
  own_stays [] (w ∷ way) zip = absurd zip
  own_stays (f ∷ folders) (w ∷ way) zip =
      let here = zip.0 in
      ap (λ (k : Facts V). k.own ∷ own_lists (facts_with facts place new) way) (facts_other w.place here.inside) ∙ ap (λ ls. (facts w.place).own ∷ ls) (own_stays folders way zip.1)

-- ---- what stands at a place

module _ {X : Type 0} where
  pub set_here : (xs : List X) (i : ℕ) (x y : X) → slice_get (slice_set xs i x) i ≡ Some y → y ≡ x
  set_here [] zero x y is = absurd (cc)
  set_here [] (suc i) x y is = absurd (cc)
  set_here (z ∷ xs) zero x y is = sym (same_Some x y is)
  set_here (z ∷ xs) (suc i) x y is = set_here xs i x y is

  pub set_other : (xs : List X) (i j : ℕ) (x : X) → ¬ (j ≡ i) → slice_get (slice_set xs i x) j ≡ slice_get xs j
  set_other [] i j x apart = refl
  set_other (z ∷ xs) zero zero x apart = absurd (apart refl)
  set_other (z ∷ xs) zero (suc j) x apart = refl
  set_other (z ∷ xs) (suc i) zero x apart = refl
  set_other (z ∷ xs) (suc i) (suc j) x apart = set_other xs i j x (λ same. apart (ap suc same))

  push_here : (xs : List X) (x : X) (i : ℕ) (y : X) → slice_get (xs ++ x ∷ []) i ≡ Some y → (slice_get xs i ≡ Some y) ⊎ ((i ≡ length xs) × (y ≡ x))
  push_here [] x zero y is = inr (refl, sym (same_Some x y is))
  push_here [] x (suc i) y is = inl is
  push_here (z ∷ xs) x zero y is = inl is
  push_here (z ∷ xs) x (suc i) y is = ⊎_elim
      (λ (before : slice_get xs i ≡ Some y). inl before)
      (λ (last : (i ≡ length xs) × (y ≡ x)). inr (ap suc last.0, last.1))
      (push_here xs x i y is)

module _ {T X V : Type 0} (seen : X → V) (way : List ℕ) (place : ℕ) (own : EntryList V) where
  holds_more : (last : ℕ) (o : Option (patterns.List T X)) → HoldsOwn seen way place own o → HoldsOwn seen (way ++ last ∷ []) place own o
  holds_more last None h = ⊎_elim
      (λ (on_way : Contains way place). inl (Contains-append_left way (last ∷ []) place on_way))
      (λ (empty : unless_empty own ≡ []). inr empty)
      h
  holds_more last (Some list) h = h

  -- a folder that isn't on the way any more is another one, or its list has no entries
  pub holds_less : (last : ℕ) (o : Option (patterns.List T X)) → (place ≡ last → unless_empty own ≡ []) → HoldsOwn seen (way ++ last ∷ []) place own o → HoldsOwn seen way place own o
  holds_less last None none h = ⊎_elim
      (λ (on_way : Contains (way ++ last ∷ []) place). ⊎_elim
      (λ (before : Contains way place). inl before)
      (λ (same : last ≡ place). inr (none (sym same)))
      (Contains-push_cases way last place on_way))
      (λ (empty : unless_empty own ≡ []). inr empty)
      h
  holds_less last (Some list) none h = h

on_way_named : {V : Type 0} (facts : ℕ → Facts V) (count : ℕ) (folders : List Folder) (way : List FolderOnWay) → AllZip (IsOnWay facts count) folders way → (place : ℕ) → Contains (places_of way) place → Contains folders (facts place).folder
on_way_named facts count folders [] zip place h = absurd (none_contained place h)
on_way_named facts count [] (w ∷ way) zip place h = absurd zip
on_way_named facts count (f ∷ folders) (w ∷ way) zip place h = ⊎_elim
    (λ (first : Contains (w.place ∷ []) place). ⊎_elim
    (λ (none : Contains [] place). absurd (none_contained place none))
    (λ (same : w.place ≡ place).
    let here = zip.0 in
    subst (λ k. Contains (f ∷ folders) (facts k).folder) same (subst (Contains (f ∷ folders)) (sym here.named) (Contains-append_left (f ∷ []) folders f (Contains-push [] f))))
    (Contains-push_cases [] w.place place first))
    (λ (later : Contains (places_of way) place). Contains-append_right (f ∷ []) folders (facts place).folder (on_way_named facts count folders way zip.1 place later))
    (Contains-append_cases (w.place ∷ []) (places_of way) place h)

-- the lists that are kept of a folder
view_kept : {T X V : Type 0} (seen : X → V) (way : List ℕ) (place : ℕ) (own : EntryList V) → ¬ Contains way place → (o : Option (patterns.List T X)) → HoldsOwn seen way place own o
    → (map (entry_list_of seen) (option_to_list o) ≡ unless_empty own) × (IsTrue (is_some o) ↔ (unless_empty own ≡ own ∷ []))
view_kept seen way place own off None h = ⊎_elim
    (λ (on_way : Contains way place). absurd (off on_way))
    (λ (empty : unless_empty own ≡ []). (sym empty, ((λ never. absurd (false≢true never)), (λ some. absurd (not_both own empty some)))))
    h
view_kept seen way place own off (Some list) h = (ap (λ l. l ∷ []) h.0 ∙ sym h.1, ((λ _. h.1), (λ _. refl)))

-- ---- the top

pub at_top : {T X V : Type 0} (shows : Folder → EntryList V → Type 0) (gave : Folder → Type 0) (seen : X → V) (n : ℕ) (rules : Rules) (lists : List (EntryList V)) (list : EntryList V) (names : FolderNames) (has_list : Bool)
    → length lists ≡ n → BasesAreFolders lists → IsListOf shows [] list → ((folder : Folder) → gave folder → folder ≡ []) → names.count ≡ 1 → ((outer : ℕ) (name : List ℕ) → names.found outer name ≡ None) → (IsTrue has_list ↔ (unless_empty list ≡ list ∷ []))
    → AreUnderWay {T = T} {X = X} shows gave seen n rules (lists ++ unless_empty list) [] ((record { place = 0; length = 0; has_list = has_list }) ∷ []) names (None ∷ []) []
at_top {T} {X} {V} shows gave seen n rules lists list names has_list count bases of given one none listed =
    let top : Facts V = record { folder = []; above = []; own = list } in
    let past : drop n lists ≡ [] = subst (λ k. drop k lists ≡ []) count (drop-length lists) in
    record {
      facts = λ _. top;
      known = record {
        count = one;
        links = λ outer name place found. let clash : None ≡ Some place = sym (none outer name) ∙ found in absurd (cc);
        known = λ place inside. record { of = of; unignored = λ deep. absurd (deep refl) };
        kept = held_at_top;
      };
      stands = entered_top shows rules n lists list count bases of;
      on_way = (record { inside = omega (arith); named = refl; long = refl; listed = listed }, tt);
      places = refl;
      ends = record {
        above = [];
        last = record { place = 0; length = 0; has_list = has_list };
        joined = refl;
        starts = refl;
        listed = drop-append-le n lists (unless_empty list) (omega (arith, count)) ∙ ap (λ ls. ls ++ unless_empty list) past;
      };
      at_hand = λ folder was. (0 ∷ [], subst (λ f. ArePlaces names.found (reverse (folders_to (start_of f))) (0 ∷ [])) (sym (given folder was)) refl);
    }
  where
    held_at_top : (place : ℕ) (o : Option (patterns.List T X)) → slice_get (None ∷ []) place ≡ Some o → HoldsOwn seen (0 ∷ []) place list o
    held_at_top zero o is = subst (HoldsOwn seen (0 ∷ []) 0 list) (same_Some None o is) (inl (Contains-push [] 0))
    held_at_top (suc place) o is = absurd (cc)

-- ---- the same, with what calls leave

pub moved : {T X V : Type 0} (shows : Folder → EntryList V → Type 0) (gave : Folder → Type 0) (seen : X → V) (n : ℕ) (rules : Rules) (lists new_lists : List (EntryList V)) (start new_start : List ℕ) (way new_way : List FolderOnWay) (names : FolderNames) (held new_held : List (Option (patterns.List T X))) (front : List ℕ)
    → new_lists ≡ lists → new_start ≡ start → new_way ≡ way → new_held ≡ held → AreUnderWay shows gave seen n rules lists start way names held front → AreUnderWay shows gave seen n rules new_lists new_start new_way names new_held front
moved shows gave seen n rules lists new_lists start new_start way new_way names held new_held front same_lists same_start same_way same_held under =
    subst (λ l. AreUnderWay shows gave seen n rules l new_start new_way names new_held front) (sym same_lists)
    (subst (λ s. AreUnderWay shows gave seen n rules lists s new_way names new_held front) (sym same_start)
    (subst (λ w. AreUnderWay shows gave seen n rules lists start w names new_held front) (sym same_way)
    (subst (λ h. AreUnderWay shows gave seen n rules lists start way names h front) (sym same_held) under)))

-- ---- the last folder

module _ {T X V : Type 0} (shows : Folder → EntryList V → Type 0) (gave : Folder → Type 0) (seen : X → V) (n : ℕ) (rules : Rules) (lists : List (EntryList V)) (start : List ℕ) (way : List FolderOnWay) (names : FolderNames) (held : List (Option (patterns.List T X))) where
  module _ (front : List ℕ) (under : AreUnderWay shows gave seen n rules lists start way names held front) where
    pub zips_last : ZipsLast (IsOnWay under.facts (length held)) (folders_to front) under.ends.above under.ends.last
    zips_last = zip_last (IsOnWay under.facts (length held)) (folders_to front) under.ends.above under.ends.last (subst (AllZip (IsOnWay under.facts (length held)) (folders_to front)) under.ends.joined under.on_way)

    pub starts_as : start ≡ start_of zips_last.last
    starts_as = let here = zips_last.here in under.ends.starts ∙ ap start_of here.named

    pub same_way : (other : List ℕ) → AreEntered shows n lists rules other (own_lists under.facts way) → folders_to other ≡ folders_to front → AreUnderWay shows gave seen n rules lists start way names held other
    same_way other stands same = record {
      facts = under.facts;
      known = under.known;
      stands = stands;
      on_way = subst (λ fs. AllZip (IsOnWay under.facts (length held)) fs way) (sym same) under.on_way;
      places = subst (λ fs. ArePlaces names.found (reverse fs) (reverse (places_of way))) (sym same) under.places;
      ends = under.ends;
      at_hand = under.at_hand;
    }

    -- what lies right in the last folder
    pub under_start : AreUnderWay shows gave seen n rules lists start way names held start
    under_start =
        let stays = entered_stays shows rules n front zips_last.init zips_last.last zips_last.joined lists (own_lists under.facts way) under.stands in
        subst (AreUnderWay shows gave seen n rules lists start way names held) (sym starts_as) (same_way (start_of zips_last.last) stays.0 stays.1)

  module _ (path : List ℕ) where
    -- a byte more, which is no slash
    pub under_byte : (place : ℕ) → place < length path → ¬ (slice_index path place ≡ slash) → AreUnderWay shows gave seen n rules lists start way names held (take place path) → AreUnderWay shows gave seen n rules lists start way names held (take (place + 1) path)
    under_byte place inside other under =
        same_way (take place path) under (take (place + 1) path) (passing shows rules n lists (own_lists under.facts way) path place inside other under.stands) (passing_way path place inside other)

    -- all bytes more, of which none is a slash
    pub under_rest : (more place : ℕ) → place + more ≡ length path → ((j : ℕ) → place ≤ j → ¬ HasByte path j slash) → AreUnderWay shows gave seen n rules lists start way names held (take place path) → AreUnderWay shows gave seen n rules lists start way names held path
    under_rest zero place ends none under = subst (AreUnderWay shows gave seen n rules lists start way names held) (take_all place path (omega arith)) under
    under_rest (suc more) place ends none under =
        under_rest more (place + 1) (omega arith) (λ j from. none j (omega arith))
        (under_byte place (omega arith) (λ is. none place (omega arith) (record { inside = omega arith; is = is })) under)

  -- ---- a folder in the last one

  module _ (x : ℕ) (xs : List ℕ) (under : AreUnderWay shows gave seen n rules lists start way names held (x ∷ xs)) where
    -- its name there
    pub name_here : start_of (under.facts under.ends.last.place).folder ++ drop under.ends.last.length (x ∷ xs) ≡ x ∷ xs
    name_here =
        let zips = zips_last (x ∷ xs) under in
        let here = zips.here in
        ap (λ f. start_of f ++ drop under.ends.last.length (x ∷ xs)) here.named ∙ ap (λ k. start_of zips.last ++ drop k (x ∷ xs)) here.long ∙ name_follows (x ∷ xs) zips.init zips.last zips.joined

    pub same_name : drop under.ends.last.length (x ∷ xs) ≡ name_in (zips_last (x ∷ xs) under).last (x ∷ xs)
    same_name = let here = (zips_last (x ∷ xs) under).here in ap (λ k. drop k (x ∷ xs)) here.long

    some : ¬ ((x ∷ xs) ≡ [])
    some none = absurd (cc)

    -- how it begins, and how what lies in it does
    pub start_here : start ++ drop (length start) (x ∷ xs) ≡ x ∷ xs
    start_here =
        let zips = zips_last (x ∷ xs) under in
        ap (λ s. s ++ drop (length s) (x ∷ xs)) (starts_as (x ∷ xs) under) ∙ name_follows (x ∷ xs) zips.init zips.last zips.joined

    pub last_long : under.ends.last.length ≡ length start
    last_long = let here = (zips_last (x ∷ xs) under).here in here.long ∙ ap length (sym (starts_as (x ∷ xs) under))

    pub start_fits : length start ≤ length (x ∷ xs)
    start_fits = omega (arith, ap length start_here, length-append start (drop (length start) (x ∷ xs)))

    pub start_then : start ++ drop (length start) ((x ∷ xs) ++ slash ∷ []) ≡ (x ∷ xs) ++ slash ∷ []
    start_then = ap (λ t. start ++ t) (drop-append-le (length start) (x ∷ xs) (slash ∷ []) start_fits) ∙ sym (append_assoc start (drop (length start) (x ∷ xs)) (slash ∷ [])) ∙ ap (λ t. t ++ slash ∷ []) start_here

    last_places : reverse (places_of way) ≡ reverse (places_of under.ends.above ++ under.ends.last.place ∷ [])
    last_places = ap (λ w. reverse (places_of w)) under.ends.joined ∙ ap reverse (map-append (λ (there : FolderOnWay). there.place) under.ends.above (under.ends.last ∷ []))

    places_here : ArePlaces names.found (reverse ((zips_last (x ∷ xs) under).init ++ (zips_last (x ∷ xs) under).last ∷ [])) (reverse (places_of under.ends.above ++ under.ends.last.place ∷ []))
    places_here =
        let zips = zips_last (x ∷ xs) under in
        subst (ArePlaces names.found (reverse (zips.init ++ zips.last ∷ []))) last_places (subst (λ fs. ArePlaces names.found (reverse fs) (reverse (places_of way))) zips.joined under.places)

    way_to : folders_to (start_of (x ∷ xs)) ≡ ((zips_last (x ∷ xs) under).init ++ (zips_last (x ∷ xs) under).last ∷ []) ++ (x ∷ xs) ∷ []
    way_to = let zips = zips_last (x ∷ xs) under in folders_slash x xs ∙ ap (λ fs. fs ++ (x ∷ xs) ∷ []) zips.joined

    -- a folder whose list was given is found
    pub found_once : gave (x ∷ xs) → (place : ℕ) × (names.found under.ends.last.place (drop under.ends.last.length (x ∷ xs)) ≡ Some place)
    found_once given =
        let zips = zips_last (x ∷ xs) under in
        let there = under.at_hand (x ∷ xs) given in
        let found = named names.found zips.init zips.last (x ∷ xs) (places_of under.ends.above) under.ends.last.place there.0 places_here
        (subst (λ fs. ArePlaces names.found (reverse fs) there.0) way_to there.1) in
        (found.0, ap (names.found under.ends.last.place) same_name ∙ found.1)

    -- the places where it has this one
    places_with : (more : FolderNames) (place length : ℕ) (has_list : Bool) → ArePlaces more.found (reverse ((zips_last (x ∷ xs) under).init ++ (zips_last (x ∷ xs) under).last ∷ [])) (reverse (places_of under.ends.above ++ under.ends.last.place ∷ []))
        → more.found under.ends.last.place (drop under.ends.last.length (x ∷ xs)) ≡ Some place
        → ArePlaces more.found (reverse (folders_to ((x ∷ xs) ++ slash ∷ []))) (reverse (places_of (way ++ (record { place = place; length = length; has_list = has_list }) ∷ [])))
    places_with more place length has_list there is =
        let zips = zips_last (x ∷ xs) under in
        let longer = places_more more.found zips.init zips.last (x ∷ xs) (places_of under.ends.above) under.ends.last.place place there (sym (ap (more.found under.ends.last.place) same_name) ∙ is) in
        let last : FolderOnWay = record { place = place; length = length; has_list = has_list } in
        let places : places_of (way ++ last ∷ []) ≡ (places_of under.ends.above ++ under.ends.last.place ∷ []) ++ place ∷ [] =
        map-append (λ (there : FolderOnWay). there.place) way (last ∷ []) ∙ ap (λ ps. ps ++ place ∷ []) (ap places_of under.ends.joined ∙ map-append (λ (there : FolderOnWay). there.place) under.ends.above (under.ends.last ∷ [])) in
        subst (λ fs. ArePlaces more.found (reverse fs) (reverse (places_of (way ++ last ∷ [])))) (sym way_to) (subst (λ ps. ArePlaces more.found (reverse ((zips.init ++ zips.last ∷ []) ++ (x ∷ xs) ∷ [])) (reverse ps)) (sym places) longer)

    -- the lists on the way are all
    all_lists : take n lists ++ drop n lists ≡ lists
    all_lists = take-append-drop n lists

    fronts_stay : (more : List (EntryList V)) → take n (lists ++ more) ≡ take n lists
    fronts_stay more = take-append-le n lists more under.stands.many

    -- ---- it is entered again

    module _ (place : ℕ) (is : names.found under.ends.last.place (drop under.ends.last.length (x ∷ xs)) ≡ Some place) where
      found_here : (place < length held) × IsInner (under.facts under.ends.last.place) (drop under.ends.last.length (x ∷ xs)) (under.facts place)
      found_here = let it = under.known.links under.ends.last.place (drop under.ends.last.length (x ∷ xs)) place is in (it.0, it.1)

      folder_here : (under.facts place).folder ≡ x ∷ xs
      folder_here = let here = found_here.1 in here.folder ∙ name_here

      above_here : (under.facts place).above ≡ drop n lists
      above_here = let here = found_here.1 in here.above ∙ sym under.ends.listed

      list_here : IsListOf shows (x ∷ xs) (under.facts place).own
      list_here = let known = under.known.known place found_here.0 in subst (λ f. IsListOf shows f (under.facts place).own) folder_here known.of

      unignored_here : (pair : ℕ × ℕ) → ¬ Ignores lists rules (x ∷ xs) pair
      unignored_here pair ignored =
          let known = under.known.known place found_here.0 in
          known.unignored (λ none. some (sym folder_here ∙ none)) pair
          (subst (λ f. Ignores (take n lists ++ (under.facts place).above) rules f pair) (sym folder_here)
          (subst (λ ls. Ignores (take n lists ++ ls) rules (x ∷ xs) pair) (sym above_here) (subst (λ ls. Ignores ls rules (x ∷ xs) pair) (sym all_lists) ignored)))

      off_way : ¬ Contains (places_of way) place
      off_way h = not_on_own_way (x ∷ xs) some (subst (Contains (folders_to (x ∷ xs))) folder_here (on_way_named under.facts (length held) (folders_to (x ∷ xs)) way under.on_way place h))

      module _ (kept : Option (patterns.List T X)) (there : slice_get held place ≡ Some kept) where
        held_here : (map (entry_list_of seen) (option_to_list kept) ≡ unless_empty (under.facts place).own) × (IsTrue (is_some kept) ↔ (unless_empty (under.facts place).own ≡ (under.facts place).own ∷ []))
        held_here = view_kept seen (places_of way) place (under.facts place).own off_way kept (under.known.kept place kept there)

        on_way_again : IsOnWay under.facts (length held) (x ∷ xs) (record { place = place; length = length (start_of (x ∷ xs)); has_list = is_some kept })
        on_way_again = record { inside = found_here.0; named = folder_here; long = refl; listed = held_here.1 }

        known_again : (more : List (EntryList V)) → AreKnown seen shows (take n (lists ++ more)) rules under.facts names (slice_set held place None) (places_of way ++ place ∷ [])
        known_again more = record {
          count = under.known.count ∙ sym (length-set held place None);
          links = λ outer name other found. let old = under.known.links outer name other found in (subst (λ k. other < k) (sym (length-set held place None)) old.0, old.1, subst (λ k. outer < k) (sym (length-set held place None)) old.2);
          known = λ other inside. subst (λ ls. IsKnown shows ls rules (under.facts other)) (sym (fronts_stay more)) (under.known.known other (subst (λ k. other < k) (length-set held place None) inside));
          kept = λ other o stands. ⊎_elim
              (λ (same : other ≡ place).
              let none : o ≡ None = set_here held place None o (subst (λ k. slice_get (slice_set held place None) k ≡ Some o) same stands) in
              subst (HoldsOwn seen (places_of way ++ place ∷ []) other (under.facts other).own) (sym none) (inl (subst (Contains (places_of way ++ place ∷ [])) (sym same) (Contains-push (places_of way) place))))
              (λ (apart : other ≡ place → ⊥). holds_more seen (places_of way) other (under.facts other).own place o (under.known.kept other o (sym (set_other held place other None apart) ∙ stands)))
              (cases_eq other place);
        }

        pub again : AreUnderWay shows gave seen n rules (lists ++ map (entry_list_of seen) (option_to_list kept)) (start_of (x ∷ xs)) (way ++ (record { place = place; length = length (start_of (x ∷ xs)); has_list = is_some kept }) ∷ []) names (slice_set held place None) ((x ∷ xs) ++ slash ∷ [])
        again =
            let last : FolderOnWay = record { place = place; length = length (start_of (x ∷ xs)); has_list = is_some kept } in
            let own = (under.facts place).own in
            let view = held_here.0 in
            let places = map-append (λ (there : FolderOnWay). there.place) way (last ∷ []) in
            let stands = entered_folder shows rules n lists (own_lists under.facts way) x xs own under.stands unignored_here list_here in
            record {
              facts = under.facts;
              known = subst (AreKnown seen shows (take n (lists ++ map (entry_list_of seen) (option_to_list kept))) rules under.facts names (slice_set held place None)) (sym places) (known_again (map (entry_list_of seen) (option_to_list kept)));
              stands = subst (λ ls. AreEntered shows n (lists ++ ls) rules ((x ∷ xs) ++ slash ∷ []) (own_lists under.facts (way ++ last ∷ []))) (sym view)
                  (subst (AreEntered shows n (lists ++ unless_empty own) rules ((x ∷ xs) ++ slash ∷ [])) (sym (map-append (λ (there : FolderOnWay). (under.facts there.place).own) way (last ∷ []))) stands);
              on_way = subst (λ k. AllZip (IsOnWay under.facts k) (folders_to ((x ∷ xs) ++ slash ∷ [])) (way ++ last ∷ [])) (sym (length-set held place None))
                  (subst (λ fs. AllZip (IsOnWay under.facts (length held)) fs (way ++ last ∷ [])) (sym (folders_slash x xs)) (zip_more (IsOnWay under.facts (length held)) (folders_to (x ∷ xs)) way (x ∷ xs) last under.on_way on_way_again));
              places = places_with names place (length (start_of (x ∷ xs))) (is_some kept) places_here is;
              ends = record {
                above = way;
                last = last;
                joined = refl;
                starts = sym (ap start_of folder_here);
                listed = drop-append-le n lists (map (entry_list_of seen) (option_to_list kept)) under.stands.many ∙ ap (λ ls. drop n lists ++ ls) view ∙ ap (λ ls. ls ++ unless_empty own) (sym above_here);
              };
              at_hand = under.at_hand;
            }

    -- ---- it was just asked for

    module _ (list : EntryList V) (of : IsListOf shows (x ∷ xs) list) (unignored : (pair : ℕ × ℕ) → ¬ Ignores lists rules (x ∷ xs) pair) (more : FolderNames) (place : ℕ) (adds : AddsFolder names more under.ends.last.place (drop under.ends.last.length (x ∷ xs)) place) (none : names.found under.ends.last.place (drop under.ends.last.length (x ∷ xs)) ≡ None) where
      abbrev asked : Facts V
      asked = record { folder = x ∷ xs; above = drop n lists; own = list }

      abbrev facts_then : ℕ → Facts V
      facts_then = facts_with under.facts place asked

      at_end : place ≡ length held
      at_end = adds.next ∙ under.known.count

      last_before : under.ends.last.place < place
      last_before = let here = (zips_last (x ∷ xs) under).here in let inside = here.inside in omega (arith, at_end)

      one_more : length (held ++ None ∷ []) ≡ place + 1
      one_more = length-append held (None ∷ []) ∙ ap (λ k. k + 1) (sym at_end)

      -- it is the name of the new folder, or another one
      is_it : (outer : ℕ) (name : List ℕ) → ((outer ≡ under.ends.last.place) × (name ≡ drop under.ends.last.length (x ∷ xs))) ⊎ ((outer ≡ under.ends.last.place) × (name ≡ drop under.ends.last.length (x ∷ xs)) → ⊥)
      is_it outer name = ⊎_elim
          (λ (same : outer ≡ under.ends.last.place). ⊎_elim
          (λ (too : name ≡ drop under.ends.last.length (x ∷ xs)). inl (same, too))
          (λ (apart : name ≡ drop under.ends.last.length (x ∷ xs) → ⊥). inr (λ both. apart both.1))
          (cases_bytes name (drop under.ends.last.length (x ∷ xs))))
          (λ (apart : outer ≡ under.ends.last.place → ⊥). inr (λ both. apart both.0))
          (cases_eq outer under.ends.last.place)

      stays : (outer : ℕ) (name : List ℕ) (other : ℕ) → names.found outer name ≡ Some other → more.found outer name ≡ Some other
      stays outer name other found = ⊎_elim
          (λ (it : (outer ≡ under.ends.last.place) × (name ≡ drop under.ends.last.length (x ∷ xs))).
          let clash : None ≡ Some other = sym none ∙ sym (ap (λ k. names.found k name) it.0 ∙ ap (names.found under.ends.last.place) it.1) ∙ found in
          absurd (cc))
          (λ (apart : (outer ≡ under.ends.last.place) × (name ≡ drop under.ends.last.length (x ∷ xs)) → ⊥). adds.others outer name apart ∙ found)
          (is_it outer name)

      new_link : (outer : ℕ) (name : List ℕ) (other : ℕ) → more.found outer name ≡ Some other → (outer ≡ under.ends.last.place) × (name ≡ drop under.ends.last.length (x ∷ xs)) → (other < length (held ++ None ∷ [])) × IsInner (facts_then outer) name (facts_then other) × (outer < length (held ++ None ∷ []))
      new_link outer name other found it =
          let same : other ≡ place = same_Some other place (sym found ∙ ap (λ k. more.found k name) it.0 ∙ ap (more.found under.ends.last.place) it.1 ∙ adds.here) in (
            omega (arith, one_more, same),
            subst (λ k. IsInner (facts_then k) name (facts_then other)) (sym it.0)
                (subst (λ t. IsInner (facts_then under.ends.last.place) t (facts_then other)) (sym it.1)
                (subst (λ k. IsInner (facts_then under.ends.last.place) (drop under.ends.last.length (x ∷ xs)) (facts_then k)) (sym same)
                (subst (λ (k : Facts V). IsInner (facts_then under.ends.last.place) (drop under.ends.last.length (x ∷ xs)) k) (sym (facts_here under.facts place asked))
                (subst (λ (k : Facts V). IsInner k (drop under.ends.last.length (x ∷ xs)) asked) (sym (facts_other under.facts place asked under.ends.last.place last_before))
                (record { folder = sym name_here; above = under.ends.listed }))))),
            subst (λ k. k < length (held ++ None ∷ [])) (sym it.0) (omega (arith, one_more, last_before)),
          )

      old_link : (outer : ℕ) (name : List ℕ) (other : ℕ) → names.found outer name ≡ Some other → (other < length (held ++ None ∷ [])) × IsInner (facts_then outer) name (facts_then other) × (outer < length (held ++ None ∷ []))
      old_link outer name other found =
          let old = under.known.links outer name other found in
          let inside = old.2 in
          let before = old.0 in (
            omega (arith, one_more, at_end),
            subst (λ (k : Facts V). IsInner k name (facts_then other)) (sym (facts_other under.facts place asked outer (omega (arith, at_end, inside))))
                (subst (λ (k : Facts V). IsInner (under.facts outer) name k) (sym (facts_other under.facts place asked other (omega (arith, at_end)))) old.1),
            omega (arith, one_more, at_end, inside),
          )

      known_at : (fronts : List (EntryList V)) → fronts ≡ take n lists → IsKnown shows fronts rules asked
      known_at fronts same = record {
        of = of;
        unignored = λ deep pair ignored. unignored pair (subst (λ ls. Ignores ls rules (x ∷ xs) pair) (ap (λ ls. ls ++ drop n lists) same ∙ all_lists) ignored);
      }

      known_then : AreKnown seen shows (take n (lists ++ unless_empty list)) rules facts_then more (held ++ None ∷ []) (places_of way ++ place ∷ [])
      known_then = record {
        count = adds.count ∙ ap (λ k. k + 1) (sym adds.next) ∙ sym one_more;
        links = λ outer name other found. ⊎_elim
            (λ (it : (outer ≡ under.ends.last.place) × (name ≡ drop under.ends.last.length (x ∷ xs))). new_link outer name other found it)
            (λ (apart : (outer ≡ under.ends.last.place) × (name ≡ drop under.ends.last.length (x ∷ xs)) → ⊥). old_link outer name other (sym (adds.others outer name apart) ∙ found))
            (is_it outer name);
        known = λ other inside. ⊎_elim
            (λ (same : other ≡ place). subst (λ k. IsKnown shows (take n (lists ++ unless_empty list)) rules (facts_then k)) (sym same)
            (subst (λ (k : Facts V). IsKnown shows (take n (lists ++ unless_empty list)) rules k) (sym (facts_here under.facts place asked)) (known_at (take n (lists ++ unless_empty list)) (fronts_stay (unless_empty list)))))
            (λ (apart : other ≡ place → ⊥).
            let before : other < place = grind (arith, one_more, inside, apart) in
            subst (λ (k : Facts V). IsKnown shows (take n (lists ++ unless_empty list)) rules k) (sym (facts_other under.facts place asked other before))
            (subst (λ ls. IsKnown shows ls rules (under.facts other)) (sym (fronts_stay (unless_empty list))) (under.known.known other (subst (λ k. other < k) at_end before))))
            (cases_eq other place);
        kept = λ other o stands. ⊎_elim
            (λ (was : slice_get held other ≡ Some o).
            let inside = slice_get_within held other o was in
            subst (λ (k : Facts V). HoldsOwn seen (places_of way ++ place ∷ []) other k.own o) (sym (facts_other under.facts place asked other (omega (arith, at_end))))
            (holds_more seen (places_of way) other (under.facts other).own place o (under.known.kept other o was)))
            (λ (last : (other ≡ length held) × (o ≡ None)).
            subst (HoldsOwn seen (places_of way ++ place ∷ []) other (facts_then other).own) (sym last.1) (inl (subst (Contains (places_of way ++ place ∷ [])) (at_end ∙ sym last.0) (Contains-push (places_of way) place))))
            (push_here held None other o stands);
      }

      on_way_before : AllZip (IsOnWay under.facts place) (folders_to (x ∷ xs)) way
      on_way_before = subst (λ k. AllZip (IsOnWay under.facts k) (folders_to (x ∷ xs)) way) (sym at_end) under.on_way

      module _ (real : Folder → Type 0) (given : (folder : Folder) → real folder → ¬ (folder ≡ x ∷ xs) → gave folder) (has_list : Bool) (listed : IsTrue has_list ↔ (unless_empty list ≡ list ∷ [])) where
        on_way_then : IsOnWay facts_then (place + 1) (x ∷ xs) (record { place = place; length = length (start_of (x ∷ xs)); has_list = has_list })
        on_way_then = record {
          inside = omega (arith);
          named = ap (λ (k : Facts V). k.folder) (facts_here under.facts place asked);
          long = refl;
          listed = subst (λ (k : Facts V). IsTrue has_list ↔ (unless_empty k.own ≡ k.own ∷ [])) (sym (facts_here under.facts place asked)) listed;
        }

        places_then : ArePlaces more.found (reverse (folders_to ((x ∷ xs) ++ slash ∷ []))) (reverse (places_of (way ++ (record { place = place; length = length (start_of (x ∷ xs)); has_list = has_list }) ∷ [])))
        places_then = places_with more place (length (start_of (x ∷ xs))) has_list (places_stay names.found more.found stays _ _ places_here) adds.here

        pub anew : AreUnderWay shows real seen n rules (lists ++ unless_empty list) (start_of (x ∷ xs)) (way ++ (record { place = place; length = length (start_of (x ∷ xs)); has_list = has_list }) ∷ []) more (held ++ None ∷ []) ((x ∷ xs) ++ slash ∷ [])
        anew =
            let last : FolderOnWay = record { place = place; length = length (start_of (x ∷ xs)); has_list = has_list } in
            let here = facts_here under.facts place asked in
            let own : own_lists facts_then (way ++ last ∷ []) ≡ own_lists under.facts way ++ list ∷ [] =
            map-append (λ (there : FolderOnWay). (facts_then there.place).own) way (last ∷ []) ∙ ap (λ ls. ls ++ (facts_then place).own ∷ []) (own_stays under.facts place asked (folders_to (x ∷ xs)) way on_way_before) ∙ ap (λ (k : Facts V). own_lists under.facts way ++ k.own ∷ []) here in
            record {
              facts = facts_then;
              known = subst (AreKnown seen shows (take n (lists ++ unless_empty list)) rules facts_then more (held ++ None ∷ [])) (sym (map-append (λ (there : FolderOnWay). there.place) way (last ∷ []))) known_then;
              stands = subst (AreEntered shows n (lists ++ unless_empty list) rules ((x ∷ xs) ++ slash ∷ [])) (sym own) (entered_folder shows rules n lists (own_lists under.facts way) x xs list under.stands unignored of);
              on_way = subst (λ k. AllZip (IsOnWay facts_then k) (folders_to ((x ∷ xs) ++ slash ∷ [])) (way ++ last ∷ [])) (sym one_more)
                  (subst (λ fs. AllZip (IsOnWay facts_then (place + 1)) fs (way ++ last ∷ [])) (sym (folders_slash x xs))
                  (zip_more (IsOnWay facts_then (place + 1)) (folders_to (x ∷ xs)) way (x ∷ xs) last (on_way_stays under.facts place asked (folders_to (x ∷ xs)) way on_way_before) on_way_then));
              places = places_then;
              ends = record {
                above = way;
                last = last;
                joined = refl;
                starts = sym (ap (λ (k : Facts V). start_of k.folder) here);
                listed = drop-append-le n lists (unless_empty list) under.stands.many ∙ sym (ap (λ (k : Facts V). lists_to k) here);
              };
              at_hand = λ folder was. ⊎_elim
                  (λ (same : folder ≡ x ∷ xs). (reverse (places_of (way ++ last ∷ [])), subst (λ f. ArePlaces more.found (reverse (folders_to (start_of f))) (reverse (places_of (way ++ last ∷ [])))) (sym same) places_then))
                  (λ (apart : folder ≡ x ∷ xs → ⊥). let there = under.at_hand folder (given folder was apart) in (there.0, places_stay names.found more.found stays (reverse (folders_to (start_of folder))) there.0 there.1))
                  (cases_bytes folder (x ∷ xs));
            }

-- ---- the same, of a front that isn't the top

module _ {T X V : Type 0} (shows : Folder → EntryList V → Type 0) (gave : Folder → Type 0) (seen : X → V) (n : ℕ) (rules : Rules) (lists : List (EntryList V)) (start : List ℕ) (way : List FolderOnWay) (names : FolderNames) (held : List (Option (patterns.List T X))) where
  -- the name of what lies in the last folder
  pub fits : (front : List ℕ) → ¬ (front ≡ []) → AreUnderWay shows gave seen n rules lists start way names held front → (last : FolderOnWay) → EndsWith way last → last.length ≤ length front
  fits [] deep under last is = absurd (deep refl)
  fits (x ∷ xs) deep under last is =
      let long = last_long shows gave seen n rules lists start way names held x xs under in
      let short = start_fits shows gave seen n rules lists start way names held x xs under in
      subst (λ (w : FolderOnWay). w.length ≤ length (x ∷ xs)) (sym (is under.ends.above under.ends.last under.ends.joined)) (omega (arith, long, short))

  pub start_within : (front : List ℕ) → ¬ (front ≡ []) → AreUnderWay shows gave seen n rules lists start way names held front → length start ≤ length front
  start_within [] deep under = absurd (deep refl)
  start_within (x ∷ xs) deep under = start_fits shows gave seen n rules lists start way names held x xs under

  -- how what lies in it begins
  pub start_next : (front : List ℕ) → ¬ (front ≡ []) → AreUnderWay shows gave seen n rules lists start way names held front → start ++ drop (length start) (front ++ slash ∷ []) ≡ start_of front
  start_next [] deep under = absurd (deep refl)
  start_next (x ∷ xs) deep under = start_then shows gave seen n rules lists start way names held x xs under

  -- it was given once
  pub once : (front : List ℕ) → ¬ (front ≡ []) → (under : AreUnderWay shows gave seen n rules lists start way names held front) → names.found under.ends.last.place (drop under.ends.last.length front) ≡ None → ¬ gave front
  once [] deep under none given = absurd (deep refl)
  once (x ∷ xs) deep under none given =
      let found = found_once shows gave seen n rules lists start way names held x xs under given in
      let clash : None ≡ Some found.0 = sym none ∙ found.1 in
      absurd (cc)

  pub entered_again : (front : List ℕ) → ¬ (front ≡ []) → (under : AreUnderWay shows gave seen n rules lists start way names held front) → (place : ℕ) → names.found under.ends.last.place (drop under.ends.last.length front) ≡ Some place → (kept : Option (patterns.List T X)) → slice_get held place ≡ Some kept
      → AreUnderWay shows gave seen n rules (lists ++ map (entry_list_of seen) (option_to_list kept)) (start_of front) (way ++ (record { place = place; length = length (start_of front); has_list = is_some kept }) ∷ []) names (slice_set held place None) (front ++ slash ∷ [])
  entered_again [] deep under = absurd (deep refl)
  entered_again (x ∷ xs) deep under = again shows gave seen n rules lists start way names held x xs under

  pub entered_anew : (front : List ℕ) → ¬ (front ≡ []) → (under : AreUnderWay shows gave seen n rules lists start way names held front) → (list : EntryList V) → IsListOf shows front list → ((pair : ℕ × ℕ) → ¬ Ignores lists rules front pair)
      → (more : FolderNames) (place : ℕ) → AddsFolder names more under.ends.last.place (drop under.ends.last.length front) place → names.found under.ends.last.place (drop under.ends.last.length front) ≡ None
      → (real : Folder → Type 0) → ((folder : Folder) → real folder → ¬ (folder ≡ front) → gave folder) → (has_list : Bool) → (IsTrue has_list ↔ (unless_empty list ≡ list ∷ []))
      → AreUnderWay shows real seen n rules (lists ++ unless_empty list) (start_of front) (way ++ (record { place = place; length = length (start_of front); has_list = has_list }) ∷ []) more (held ++ None ∷ []) (front ++ slash ∷ [])
  entered_anew [] deep under = absurd (deep refl)
  entered_anew (x ∷ xs) deep under = anew shows gave seen n rules lists start way names held x xs under

  -- the last folder is known
  pub last_inside : (front : List ℕ) → (under : AreUnderWay shows gave seen n rules lists start way names held front) → under.ends.last.place < names.count
  last_inside front under =
      let here = (zips_last shows gave seen n rules lists start way names held front under).here in
      let inside = here.inside in
      omega (arith, inside, under.known.count)

  pub long_as_start : (front : List ℕ) → (under : AreUnderWay shows gave seen n rules lists start way names held front) → (last : FolderOnWay) → EndsWith way last → last.length ≡ length start
  long_as_start front under last is =
      let here = (zips_last shows gave seen n rules lists start way names held front under).here in
      ap (λ (w : FolderOnWay). w.length) (is under.ends.above under.ends.last under.ends.joined) ∙ here.long ∙ ap length (sym (starts_as shows gave seen n rules lists start way names held front under))

  -- a path that begins with a slash enters no folder there
  pub under_slash : (front : List ℕ) → front ≡ [] → AreUnderWay shows gave seen n rules lists start way names held front → ((pair : ℕ × ℕ) → ¬ Ignores lists rules front pair) → AreUnderWay shows gave seen n rules lists start way names held (front ++ slash ∷ [])
  under_slash [] none under kept = same_way shows gave seen n rules lists start way names held [] under (slash ∷ []) (entered_slash shows rules n lists (own_lists under.facts way) under.stands kept) refl
  under_slash (x ∷ xs) none under kept = absurd (cc)

  -- what a source showed it shows on, and it gave no list more
  module _ (shows_on : Folder → EntryList V → Type 0) (gave_then : Folder → Type 0) (goes_on : (folder : Folder) (list : EntryList V) → shows folder list → shows_on folder list) (gives : (folder : Folder) → gave_then folder → gave folder) where
    list_goes_on : (folder : Folder) (list : EntryList V) → IsListOf shows folder list → IsListOf shows_on folder list
    list_goes_on folder list of = record { shown = goes_on folder list of.shown; based = of.based }

    zip_goes_on : (folders : List Folder) (own : List (EntryList V)) → AllZip (IsListOf shows) folders own → AllZip (IsListOf shows_on) folders own
    zip_goes_on [] [] zip = tt
    zip_goes_on [] (l ∷ own) zip = absurd zip
    zip_goes_on (f ∷ folders) [] zip = absurd zip
    zip_goes_on (f ∷ folders) (l ∷ own) zip = (list_goes_on f l zip.0, zip_goes_on folders own zip.1)

    pub under_goes_on : (front : List ℕ) → AreUnderWay shows gave seen n rules lists start way names held front → AreUnderWay shows_on gave_then seen n rules lists start way names held front
    under_goes_on front under = record {
      facts = under.facts;
      known = record {
        count = under.known.count;
        links = under.known.links;
        known = λ place inside. let known = under.known.known place inside in record { of = list_goes_on (under.facts place).folder (under.facts place).own known.of; unignored = known.unignored };
        kept = under.known.kept;
      };
      stands = record {
        many = under.stands.many;
        bases = under.stands.bases;
        shown = zip_goes_on (folders_to front) (own_lists under.facts way) under.stands.shown;
        standing = under.stands.standing;
        none = under.stands.none;
      };
      on_way = under.on_way;
      places = under.places;
      ends = under.ends;
      at_hand = λ folder given. under.at_hand folder (gives folder given);
    }
