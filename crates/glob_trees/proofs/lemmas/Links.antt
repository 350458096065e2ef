-- One folder more is found by its name, and each other one as before.
use Rattle.std.proofs.Common.{◌≡◌, ⊎_elim, ℕ, zero, suc, ◌<◌, Bool, true, List, [], ◌∷◌, ◌++◌, length, Option, None, Some, Result, Ok, Err, Vec, refl, sym, ap, subst, ◌∙◌, length-append, arith}
use Rattle.std.specs.Prelude.{IfSome, OnErr, OnOk, slice_get, slice_set}
use Rattle.std.specs.declared.cmp.Ordering.{Ordering}
use Rattle.std.specs.Ordering.{eq_by_cmp, nat_cmp}
use Rattle.std.specs.Cmp.{eq_by_cmp_equiv}
use Rattle.std.specs.Cmp.Lexicographic.{slice_cmp}
use Rattle.std.specs.BTreeMap.{BTreeMap, Updates, is_at}
use Rattle.std.specs.Map.{AreApart, IsKeyTest, KeepsOthers, lookup}
use Rattle.std.proofs.lemmas.Bool.{cases_eq, false_from_ne_true}
use Rattle.std.proofs.lemmas.Cmp.{nat_list_cmp_total}
use Rattle.std.proofs.lemmas.List.{length-set}
use Rattle.std.proofs.lemmas.Option.{same_Some}
use Rattle.std.proofs.lemmas.Map.Text.{is_eq-slice_cmp}
use Rattle.std.proofs.lemmas.Slice.Eq.{bytes_eq-Decides}
use Rattle.glob_trees.specs.Known.{AddsFolder, FolderNames, KnowsNone}
use Rattle.glob_trees.specs.Links.{link, named_in}
use Rattle.glob_trees.specs.Private.Known.{AreInside}
use Rattle.glob_trees.proofs.lemmas.Cases.{cases_bytes}

-- ---- the folders of which one changes

set_there : {X : Type 0} (xs : List X) (i : ℕ) (x : X) → i < length xs → slice_get (slice_set xs i x) i ≡ Some x
set_there [] i x inside = absurd (omega arith)
set_there (y ∷ xs) zero x inside = refl
set_there (y ∷ xs) (suc i) x inside = set_there xs i x (omega arith)

set_apart : {X : Type 0} (xs : List X) (i j : ℕ) (x : X) → ¬ (j ≡ i) → slice_get (slice_set xs i x) j ≡ slice_get xs j
set_apart [] i j x apart = refl
set_apart (z ∷ xs) zero zero x apart = absurd (apart refl)
set_apart (z ∷ xs) zero (suc j) x apart = refl
set_apart (z ∷ xs) (suc i) zero x apart = refl
set_apart (z ∷ xs) (suc i) (suc j) x apart = set_apart xs i j x (λ same. apart (ap suc same))

module _ {Z : Type 0} where
  -- keys in order of their bytes
  abbrev pub key_cmp : Vec ℕ Z → Vec ℕ Z → Ordering
  key_cmp x y = slice_cmp nat_cmp x.items y.items

  abbrev at_name : List ℕ → Vec ℕ Z → Bool
  at_name name = is_at (λ (key : Vec ℕ Z). slice_cmp nat_cmp name key.items)

  same_bytes : (name : List ℕ) (key : Vec ℕ Z) → at_name name key ≡ true → name ≡ key.items
  same_bytes name key there = (bytes_eq-Decides name key.items).0 (sym (is_eq-slice_cmp name key.items) ∙ there)

  apart_names : (name other : List ℕ) → ¬ (other ≡ name) → AreApart (at_name name) (at_name other)
  apart_names name other apart key there = false_from_ne_true (at_name other key) (λ too. apart (same_bytes other key too ∙ sym (same_bytes name key there)))

  one_name : (name : List ℕ) → IsKeyTest (eq_by_cmp key_cmp) (at_name name)
  one_name name x y = (eq_by_cmp_equiv nat_list_cmp_total).congr name x.items y.items

  kept_others : (name : List ℕ) (old new : List (Vec ℕ Z × ℕ)) → KeepsOthers (eq_by_cmp key_cmp) (at_name name) old new → (other : List ℕ) → ¬ (other ≡ name) → lookup (at_name other) new ≡ lookup (at_name other) old
  unfolding KeepsOthers
  kept_others name old new keeps other apart = keeps (at_name other) (one_name other) (apart_names name other apart)

  -- a name more in one folder
  named_then : (key : Vec ℕ Z) (name : List ℕ) → key.items ≡ name → (old new : BTreeMap (Vec ℕ Z) ℕ) (place : ℕ) → Updates key_cmp old new key (Some place)
      → (named_in (Some new) name ≡ Some place) × ((other : List ℕ) → ¬ (other ≡ name) → named_in (Some new) other ≡ named_in (Some old) other)
  named_then key name is old new place updates = (
    subst (λ t. named_in (Some new) t ≡ Some place) is updates.1,
    λ other apart. kept_others key.items old.entries new.entries updates.3 other (λ same. apart (same ∙ is)),
  )

  -- an empty folder more changes nothing
  link_more : (inner : List (BTreeMap (Vec ℕ Z) ℕ)) (empty : BTreeMap (Vec ℕ Z) ℕ) → empty.entries ≡ [] → (outer : ℕ) (name : List ℕ) → link (inner ++ empty ∷ []) outer name ≡ link inner outer name
  link_more [] empty none zero name = ap (lookup (at_name name)) none
  link_more [] empty none (suc outer) name = refl
  link_more (m ∷ inner) empty none zero name = refl
  link_more (m ∷ inner) empty none (suc outer) name = link_more inner empty none outer name

  -- what is known by these names
  abbrev pub names_by : List (BTreeMap (Vec ℕ Z) ℕ) → FolderNames
  names_by inner = record { count = length inner; found = link inner }

  none_found : (empty : BTreeMap (Vec ℕ Z) ℕ) → empty.entries ≡ [] → (outer : ℕ) (name : List ℕ) → link (empty ∷ []) outer name ≡ None
  none_found empty none zero name = ap (lookup (at_name name)) none
  none_found empty none (suc outer) name = refl

  pub knows_top : (inner all : List (BTreeMap (Vec ℕ Z) ℕ)) (empty : BTreeMap (Vec ℕ Z) ℕ) → length inner ≡ 0 → empty.entries ≡ [] → all ≡ inner ++ empty ∷ [] → KnowsNone (names_by all) 1
  knows_top [] all empty few none pushed = subst (λ ls. KnowsNone (names_by ls) 1) (sym pushed) (record { count = refl; none = none_found empty none })
  knows_top (m ∷ inner) all empty few none pushed = absurd (omega arith)

  -- each folder that is found is known
  pub inside_more : (inner : List (BTreeMap (Vec ℕ Z) ℕ)) (empty : BTreeMap (Vec ℕ Z) ℕ) → empty.entries ≡ [] → AreInside inner → AreInside (inner ++ empty ∷ [])
  inside_more inner empty none inside outer name place found =
      let before : place < length inner = inside outer name place (sym (link_more inner empty none outer name) ∙ found) in
      omega (arith, before, length-append inner (empty ∷ []))

  same_links : (inner : List (BTreeMap (Vec ℕ Z) ℕ)) (outer : ℕ) (before after : BTreeMap (Vec ℕ Z) ℕ) → outer < length inner → slice_get inner outer ≡ Some before → after.entries ≡ before.entries
      → (other : ℕ) (name : List ℕ) → link (slice_set inner outer after) other name ≡ link inner other name
  same_links inner outer before after inside there same other name = ⊎_elim
      (λ (it : other ≡ outer).
      ap (λ k. link (slice_set inner outer after) k name) it ∙ ap (λ o. named_in o name) (set_there inner outer after inside) ∙ ap (lookup (at_name name)) same ∙ sym (ap (λ o. named_in o name) there) ∙ ap (λ k. link inner k name) (sym it))
      (λ (elsewhere : other ≡ outer → ⊥). ap (λ o. named_in o name) (set_apart inner outer other after elsewhere))
      (cases_eq other outer)

  inside_same : (inner : List (BTreeMap (Vec ℕ Z) ℕ)) (outer : ℕ) (before after : BTreeMap (Vec ℕ Z) ℕ) → outer < length inner → slice_get inner outer ≡ Some before → after.entries ≡ before.entries → AreInside inner → AreInside (slice_set inner outer after)
  inside_same inner outer before after inside there same all other name place found =
      let was : place < length inner = all other name place (sym (same_links inner outer before after inside there same other name) ∙ found) in
      omega (arith, was, length-set inner outer after)

  inside_adds : (old new : List (BTreeMap (Vec ℕ Z) ℕ)) (outer : ℕ) (name : List ℕ) (place : ℕ) → AddsFolder (names_by old) (names_by new) outer name place → AreInside old → AreInside new
  inside_adds old new outer name place adds all other text found_place found = ⊎_elim
      (λ (same : text ≡ name). ⊎_elim
      (λ (there : other ≡ outer).
      let it : found_place ≡ place = same_Some found_place place (sym found ∙ ap (λ k. link new k text) there ∙ ap (link new outer) same ∙ adds.here) in
      omega (arith, it, adds.next, adds.count))
      (λ (elsewhere : other ≡ outer → ⊥). stays other text found_place (λ both. elsewhere both.0) found)
      (cases_eq other outer))
      (λ (differs : text ≡ name → ⊥). stays other text found_place (λ both. differs both.1) found)
      (cases_bytes text name)
    where
      stays : (other : ℕ) (text : List ℕ) (at : ℕ) → ¬ ((other ≡ outer) × (text ≡ name)) → link new other text ≡ Some at → at < length new
      stays other text at apart found =
          let was : at < length old = all other text at (sym (adds.others other text apart) ∙ found) in
          omega (arith, was, adds.count)

  pub adds : (old : List (BTreeMap (Vec ℕ Z) ℕ)) (empty before after : BTreeMap (Vec ℕ Z) ℕ) (outer : ℕ) (key : Vec ℕ Z) (name : List ℕ) (place : ℕ) → empty.entries ≡ [] → outer < length old → slice_get (old ++ empty ∷ []) outer ≡ Some before
      → key.items ≡ name → place ≡ length old → Updates key_cmp before after key (Some place) → AddsFolder (names_by old) (names_by (slice_set (old ++ empty ∷ []) outer after)) outer name place
  adds old empty before after outer key name place none inside there is next updates =
      let all = old ++ empty ∷ [] in
      let then = named_then key name is before after place updates in
      let long = length-append old (empty ∷ []) in
      let here : slice_get (slice_set all outer after) outer ≡ Some after = set_there all outer after (omega (arith, long)) in
      record {
        next = next;
        count = length-set all outer after ∙ long;
        here = ap (λ o. named_in o name) here ∙ then.0;
        others = λ other text apart. ⊎_elim
            (λ (same : other ≡ outer).
            let differs : ¬ (text ≡ name) = λ too. apart (same, too) in
            ap (λ k. link (slice_set all outer after) k text) same ∙ ap (λ o. named_in o text) here ∙ then.1 text differs ∙ ap (λ o. named_in o text) (sym there) ∙ link_more old empty none outer text ∙ ap (λ k. link old k text) (sym same))
            (λ (elsewhere : other ≡ outer → ⊥). ap (λ o. named_in o text) (set_apart all outer other after elsewhere) ∙ link_more old empty none other text)
            (cases_eq other outer);
      }

  -- a name is put into a folder, or memory for it was refused
  pub inside_put : {A E : Type 0} (result : Result A E) (old : List (BTreeMap (Vec ℕ Z) ℕ)) (empty before after : BTreeMap (Vec ℕ Z) ℕ) (outer : ℕ) (key : Vec ℕ Z) (place : ℕ) → empty.entries ≡ [] → outer < length old → slice_get (old ++ empty ∷ []) outer ≡ Some before
      → place ≡ length old → OnOk result (Updates key_cmp before after key (Some place)) → OnErr result (after.entries ≡ before.entries) → AreInside old → AreInside (slice_set (old ++ empty ∷ []) outer after)
  inside_put (Ok a) old empty before after outer key place none inside there next updates same all =
      inside_adds old (slice_set (old ++ empty ∷ []) outer after) outer key.items place (adds old empty before after outer key key.items place none inside there refl next updates) all
  inside_put (Err e) old empty before after outer key place none inside there next updates same all =
      inside_same (old ++ empty ∷ []) outer before after (omega (arith, inside, length-append old (empty ∷ []))) there same (inside_more old empty none all)

  pub if_inside : (inner : List (BTreeMap (Vec ℕ Z) ℕ)) (outer : ℕ) (name : List ℕ) (result : Option ℕ) → result ≡ link inner outer name → AreInside inner → IfSome result (λ place. place < length inner)
  if_inside inner outer name None is all = tt
  if_inside inner outer name (Some place) is all = all outer name place (sym is)
