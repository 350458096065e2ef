-- Folders that are entered and left, and what is kept of each.
use Rattle.std.proofs.Common.{◌≡◌, ◌⊎◌, inl, inr, ⊎_elim, ℕ, zero, suc, ◌-◌, ◌<◌, List, [], ◌∷◌, ◌++◌, length, map, drop, Option, Some, refl, sym, ap, subst, ◌∙◌, append_assoc, append-nil, length-append, arith}
use Rattle.std.specs.Prelude.{slice_get, slice_set}
use Rattle.std.specs.List.{AllByRecursion, AllZip, Contains, flat_map}
use Rattle.std.proofs.lemmas.Grind.{flat_map-append}
use Rattle.std.proofs.lemmas.List.{map-append}
use Rattle.std.proofs.lemmas.List.Elements.{Contains-append_cases, Contains-append_left, Contains-append_right, Contains-push, Contains-push_cases}
use Rattle.std.proofs.lemmas.Option.{same_Some}
use Rattle.gix_glob.specs.Bytes.{slash}
use Rattle.glob_attributes.specs.States.{Lists}
use Rattle.glob_trees.specs.declared.on_way.FolderOnWay.{FolderOnWay}
use Rattle.glob_trees.specs.Ways.{Folder, folders_to, start_of}
use Rattle.glob_trees.proofs.lemmas.Entering.{name_follows}
use Rattle.glob_trees.proofs.lemmas.InFolder.{last_splits}
use Rattle.glob_trees.proofs.lemmas.OnWay.{none_contained}
use Rattle.glob_trees.proofs.lemmas.WayLemmas.{HasLastFolder, folders_slash, last_folder, last_same}
use Rattle.tree_commands.specs.declared.check_attr.walk.FoundFolder.{FoundFolder}
use Rattle.tree_commands.specs.Private.AttributeWays.{Holds, IsAt, IsOnWay, Sighting, held_lists, last_on, last_sight, places_of}

-- ---- lists and their elements

module _ {X : Type 0} where
  pub get_push_old : (xs : List X) (x y : X) (k : ℕ) → slice_get xs k ≡ Some y → slice_get (xs ++ x ∷ []) k ≡ Some y
  get_push_old [] x y zero is = absurd (cc)
  get_push_old [] x y (suc k) is = absurd (cc)
  get_push_old (z ∷ xs) x y zero is = is
  get_push_old (z ∷ xs) x y (suc k) is = get_push_old xs x y k is

  pub get_push_here : (xs : List X) (x : X) → slice_get (xs ++ x ∷ []) (length xs) ≡ Some x
  get_push_here [] x = refl
  get_push_here (z ∷ xs) x = get_push_here xs x

  pub get_push_cases : (xs : List X) (x y : X) (k : ℕ) → slice_get (xs ++ x ∷ []) k ≡ Some y → (slice_get xs k ≡ Some y) ⊎ ((k ≡ length xs) × (x ≡ y))
  get_push_cases [] x y zero is = inr (refl, same_Some x y is)
  get_push_cases [] x y (suc k) is = absurd (cc)
  get_push_cases (z ∷ xs) x y zero is = inl is
  get_push_cases (z ∷ xs) x y (suc k) is = ⊎_elim
      (λ (old : slice_get xs k ≡ Some y). inl old)
      (λ (new : (k ≡ length xs) × (x ≡ y)). inr (ap suc new.0, new.1))
      (get_push_cases xs x y k is)

  pub get_inside : (xs : List X) (k : ℕ) (y : X) → slice_get xs k ≡ Some y → k < length xs
  get_inside [] zero y is = absurd (cc)
  get_inside [] (suc k) y is = absurd (cc)
  get_inside (z ∷ xs) zero y is = omega arith
  get_inside (z ∷ xs) (suc k) y is = let inside = get_inside xs k y is in omega arith

  pub all_push : (P : X → Type 0) (xs : List X) (x : X) → AllByRecursion P xs → P x → AllByRecursion P (xs ++ x ∷ [])
  all_push P [] x all here = (here, tt)
  all_push P (z ∷ xs) x all here = (all.0, all_push P xs x all.1 here)

  pub all_weaker : (P Q : X → Type 0) → ((x : X) → P x → Q x) → (xs : List X) → AllByRecursion P xs → AllByRecursion Q xs
  all_weaker P Q gives [] all = tt
  all_weaker P Q gives (x ∷ xs) all = (gives x all.0, all_weaker P Q gives xs all.1)

  pub all_at : (P : X → Type 0) (xs : List X) (k : ℕ) (x : X) → AllByRecursion P xs → slice_get xs k ≡ Some x → P x
  all_at P [] zero x all is = absurd (cc)
  all_at P [] (suc k) x all is = absurd (cc)
  all_at P (z ∷ xs) zero x all is = subst P (same_Some z x is) all.0
  all_at P (z ∷ xs) (suc k) x all is = all_at P xs k x all.1 is

  pub last_cases : (xs : List X) → (xs ≡ []) ⊎ ((init : List X) × (last : X) × (xs ≡ init ++ last ∷ []))
  last_cases [] = inl refl
  last_cases (x ∷ xs) = ⊎_elim
      (λ (none : xs ≡ []). inr ([], x, ap (λ l. x ∷ l) none))
      (λ (some : (init : List X) × (last : X) × (xs ≡ init ++ last ∷ [])). inr (x ∷ some.0, some.1, ap (λ l. x ∷ l) some.2))
      (last_cases xs)

  pub set_at : (xs : List X) (i : ℕ) (x y : X) → slice_get (slice_set xs i x) i ≡ Some y → y ≡ x
  set_at [] zero x y is = absurd (cc)
  set_at [] (suc i) x y is = absurd (cc)
  set_at (z ∷ xs) zero x y is = sym (same_Some x y is)
  set_at (z ∷ xs) (suc i) x y is = set_at xs i x y is

  pub set_apart : (xs : List X) (i j : ℕ) (x : X) → ¬ (j ≡ i) → slice_get (slice_set xs i x) j ≡ slice_get xs j
  set_apart [] i j x apart = refl
  set_apart (z ∷ xs) zero zero x apart = absurd (apart refl)
  set_apart (z ∷ xs) zero (suc j) x apart = refl
  set_apart (z ∷ xs) (suc i) zero x apart = refl
  set_apart (z ∷ xs) (suc i) (suc j) x apart = set_apart xs i j x (λ same. apart (ap suc same))

pub zip_weaker : {A B : Type 0} (R Q : A → B → Type 0) → ((x : A) (y : B) → R x y → Q x y) → (xs : List A) (ys : List B) → AllZip R xs ys → AllZip Q xs ys
zip_weaker R Q gives [] [] zip = tt
zip_weaker R Q gives [] (y ∷ ys) zip = absurd zip
zip_weaker R Q gives (x ∷ xs) [] zip = absurd zip
zip_weaker R Q gives (x ∷ xs) (y ∷ ys) zip = (gives x y zip.0, zip_weaker R Q gives xs ys zip.1)

pub flat_last : {X A : Type 0} (f : X → List A) (init : List X) (last : X) → flat_map f (init ++ last ∷ []) ≡ flat_map f init ++ f last
flat_last f init last = flat_map-append f init (last ∷ []) ∙ ap (λ l. flat_map f init ++ l) (append-nil (f last))

-- ---- the last folder on the way

pub last_on-push : (way : List FolderOnWay) (there : FolderOnWay) → last_on (way ++ there ∷ []) ≡ there
last_on-push [] there = refl
last_on-push (w ∷ []) there = refl
last_on-push (w ∷ v ∷ way) there = last_on-push (v ∷ way) there

pub last_on-get : (way : List FolderOnWay) (there : FolderOnWay) → slice_get way (length way - 1) ≡ Some there → there ≡ last_on way
last_on-get way there is =
    let split = last_splits way there is in
    sym (ap last_on split.1 ∙ last_on-push split.0 there)

pub last_sight-push : (sights : List Sighting) (at : Sighting) → last_sight (sights ++ at ∷ []) ≡ at
last_sight-push [] at = refl
last_sight-push (s ∷ []) at = refl
last_sight-push (s ∷ t ∷ sights) at = last_sight-push (t ∷ sights) at

module _ (own : Sighting → Lists) (sights : List Sighting) where
  pub last_long : (ats : List Sighting) (way : List FolderOnWay) → AllZip (IsOnWay own sights) ats way → (last_on way).length ≡ length (start_of (last_sight ats).folder)
  last_long [] [] each = refl
  last_long [] (w ∷ way) each = absurd each
  last_long (at ∷ ats) [] each = absurd each
  last_long (at ∷ []) (w ∷ []) each = let here = each.0 in here.long
  last_long (at ∷ []) (w ∷ v ∷ way) each = absurd each.1
  last_long (at ∷ b ∷ ats) (w ∷ []) each = absurd each.1
  last_long (at ∷ b ∷ ats) (w ∷ v ∷ way) each = last_long (b ∷ ats) (v ∷ way) each.1

  pub last_at : (ats : List Sighting) (way : List FolderOnWay) → AllZip (IsOnWay own sights) ats way → IsAt sights (last_on way).place (last_sight ats)
  last_at [] [] each = refl
  last_at [] (w ∷ way) each = absurd each
  last_at (at ∷ ats) [] each = absurd each
  last_at (at ∷ []) (w ∷ []) each = let here = each.0 in here.sighted
  last_at (at ∷ []) (w ∷ v ∷ way) each = absurd each.1
  last_at (at ∷ b ∷ ats) (w ∷ []) each = absurd each.1
  last_at (at ∷ b ∷ ats) (w ∷ v ∷ way) each = last_at (b ∷ ats) (v ∷ way) each.1

  -- a place on the way is that of a folder there
  pub record IsPlaced (ats : List Sighting) (place : ℕ) : Type 0 where
    pub at : Sighting
    pub among : Contains (map (λ a. a.folder) ats) at.folder
    pub there : IsAt sights place at

  pub placed : (ats : List Sighting) (way : List FolderOnWay) → AllZip (IsOnWay own sights) ats way → (place : ℕ) → Contains (places_of way) place → IsPlaced ats place
  placed [] [] each place h = absurd (none_contained place h)
  placed [] (w ∷ way) each place h = absurd each
  placed (at ∷ ats) [] each place h = absurd each
  placed (at ∷ ats) (w ∷ way) each place h = ⊎_elim
      (λ (first : Contains (w.place ∷ []) place). ⊎_elim
      (λ (none : Contains [] place). absurd (none_contained place none))
      (λ (same : w.place ≡ place). record {
        at = at;
        among = Contains-append_left (at.folder ∷ []) (map (λ a. a.folder) ats) at.folder (Contains-push [] at.folder);
        there = let here = each.0 in subst (λ k. IsAt sights k at) same here.sighted;
      })
      (Contains-push_cases [] w.place place first))
      (λ (later : Contains (places_of way) place).
      let rest = placed ats way each.1 place later in
      record { at = rest.at; among = Contains-append_right (at.folder ∷ []) (map (λ a. a.folder) ats) rest.at.folder rest.among; there = rest.there })
      (Contains-append_cases (w.place ∷ []) (places_of way) place h)

-- ---- folders above and below

-- what lies in a folder begins as what lies in another one, and more
pub record IsLower (outer folder : Folder) : Type 0 where
  pub rest : List ℕ
  pub joined : start_of folder ≡ start_of outer ++ rest
  pub some : 0 < length rest

pub left_level : (folder : Folder) (above : List Folder) → 0 < length (start_of folder) → folders_to (start_of folder) ≡ above ++ folder ∷ [] → folders_to folder ≡ above
left_level [] above deep is = absurd (omega (arith, deep))
left_level (x ∷ xs) above deep is = (last_same (folders_to (x ∷ xs)) above (x ∷ xs) (x ∷ xs) (sym (folders_slash x xs) ∙ is)).0

-- a folder's own way is that of what lies right in the last folder on it
stays_level : (folder : Folder) (fs : List Folder) (f : Folder) → folders_to folder ≡ ([] ∷ fs) ++ f ∷ [] → folders_to (start_of f) ≡ folders_to folder
stays_level folder fs f is = ⊎_elim
    (λ (only : folders_to folder ≡ [] ∷ []). absurd (omega (arith, ap length (sym only ∙ is), length-append fs (f ∷ []))))
    (λ (h : HasLastFolder folder).
    let same : f ≡ h.first ∷ h.more = (last_same ([] ∷ fs) (folders_to (h.first ∷ h.more)) f (h.first ∷ h.more) (sym is ∙ h.listed)).1 in
    ap (λ g. folders_to (start_of g)) same ∙ folders_slash h.first h.more ∙ sym h.listed)
    (last_folder folder)

lower : (folder : Folder) (fs : List Folder) (f : Folder) → 0 < length (start_of folder) → folders_to folder ≡ fs ++ f ∷ [] → IsLower f folder
lower [] fs f deep is = absurd (omega (arith, deep))
lower (x ∷ xs) fs f deep is = record {
  rest = drop (length (start_of f)) (x ∷ xs) ++ slash ∷ [];
  joined = sym (ap (λ t. t ++ slash ∷ []) (name_follows (x ∷ xs) fs f is)) ∙ append_assoc (start_of f) (drop (length (start_of f)) (x ∷ xs)) (slash ∷ []);
  some = omega (arith, length-append (drop (length (start_of f)) (x ∷ xs)) (slash ∷ []));
}

-- the folder that lies right above, as it was sighted
pub record HasOuter (ats : List Sighting) (folder : Folder) : Type 0 where
  pub low : IsLower (last_sight ats).folder folder
  pub level : folders_to (start_of (last_sight ats).folder) ≡ [] ∷ map (λ a. a.folder) ats

has_outer_at : (ats init : List Sighting) (last : Sighting) (folder : Folder) → 0 < length (start_of folder) → folders_to folder ≡ [] ∷ map (λ a. a.folder) ats → ats ≡ init ++ last ∷ [] → HasOuter ats folder
has_outer_at ats init last folder deep is some =
    let it : (last_sight ats).folder ≡ last.folder = ap (λ l. (last_sight l).folder) some ∙ ap (λ (a : Sighting). a.folder) (last_sight-push init last) in
    let ends : folders_to folder ≡ ([] ∷ map (λ a. a.folder) init) ++ last.folder ∷ [] = is ∙ ap (λ l. [] ∷ map (λ (a : Sighting). a.folder) l) some ∙ ap (λ l. [] ∷ l) (map-append (λ (a : Sighting). a.folder) init (last ∷ [])) in
    record {
      low = subst (λ f. IsLower f folder) (sym it) (lower folder ([] ∷ map (λ a. a.folder) init) last.folder deep ends);
      level = ap (λ f. folders_to (start_of f)) it ∙ stays_level folder (map (λ a. a.folder) init) last.folder ends ∙ is;
    }

pub has_outer : (ats : List Sighting) (folder : Folder) → 0 < length (start_of folder) → folders_to folder ≡ [] ∷ map (λ a. a.folder) ats → HasOuter ats folder
has_outer ats folder deep is = ⊎_elim
    (λ (none : ats ≡ []).
    let it : (last_sight ats).folder ≡ [] = ap (λ l. (last_sight l).folder) none in
    record {
      low = record { rest = start_of folder; joined = ap (λ f. start_of f ++ start_of folder) (sym it); some = deep };
      level = ap (λ f. folders_to (start_of f)) it ∙ ap (λ l. [] ∷ map (λ (a : Sighting). a.folder) l) (sym none);
    })
    (λ (some : (init : List Sighting) × (last : Sighting) × (ats ≡ init ++ last ∷ [])). has_outer_at ats some.0 some.1 folder deep is some.2)
    (last_cases ats)

-- ---- what is kept by a place

-- one place more on the way, or one fewer
pub holds_more : (own : Lists) (file : Option (List ℕ)) (way : List ℕ) (more place : ℕ) (found : FoundFolder) → Holds own file way place found → Holds own file (way ++ more ∷ []) place found
holds_more own file way more place found h = record {
  is_there = h.is_there;
  list = ⊎_elim
      (λ (same : held_lists found ≡ own). inl same)
      (λ (away : Contains way place × (held_lists found ≡ [])). inr (Contains-append_left way (more ∷ []) place away.0, away.1))
      h.list;
}

pub holds_less : (own : Lists) (file : Option (List ℕ)) (way : List ℕ) (last place : ℕ) (found : FoundFolder) → (last ≡ place → held_lists found ≡ [] → held_lists found ≡ own) → Holds own file (way ++ last ∷ []) place found → Holds own file way place found
holds_less own file way last place found here h = record {
  is_there = h.is_there;
  list = ⊎_elim
      (λ (same : held_lists found ≡ own). inl same)
      (λ (away : Contains (way ++ last ∷ []) place × (held_lists found ≡ [])). ⊎_elim
      (λ (on : Contains way place). inr (on, away.1))
      (λ (same : last ≡ place). inl (here same away.1))
      (Contains-push_cases way last place away.0))
      h.list;
}
