-- A sorted tree of names after one more is put in.
use Rattle.std.proofs.Common.{◌≡◌, ⊎_elim, ℕ, Bool, true, false, cond, List, [], ◌∷◌, Option, None, Some, Ordering, Less, Equal, Greater, nat_cmp, is_eq, refl, sym, ap, ◌∙◌, Vec}
use Rattle.std.specs.Prelude.{if◌then◌else◌}
use Rattle.std.specs.Vec.{vec_items}
use Rattle.std.specs.Map.{lookup}
use Rattle.std.specs.Str.{bytes_eq}
use Rattle.std.specs.BTreeMap.{insert_entry}
use Rattle.std.specs.Cmp.Lexicographic.{slice_cmp}
use Rattle.std.specs.Ordering.{match_ordering}
use Rattle.std.proofs.lemmas.Bool.{cases_Bool, false≢true}
use Rattle.std.proofs.lemmas.Map.Text.{is_eq-slice_cmp}
use Rattle.std.proofs.lemmas.Slice.Eq.{bytes_eq-Decides}

same_bytes : (x y : List ℕ) → bytes_eq x y ≡ true → x ≡ y
same_bytes x y is = (bytes_eq-Decides x y).0 is

are_equal : (x y : List ℕ) → x ≡ y → bytes_eq x y ≡ true
are_equal x y is = (bytes_eq-Decides x y).1 is

pub bytes_eq-turned : (x y : List ℕ) → bytes_eq x y ≡ bytes_eq y x
bytes_eq-turned x y =
    ⊎_elim
    (λ yes. yes ∙ sym (are_equal y x (sym (same_bytes x y yes))))
    (λ no. ⊎_elim
    (λ yes. absurd (false≢true (sym no ∙ are_equal x y (sym (same_bytes y x yes)))))
    (λ other. no ∙ sym other)
    (cases_Bool (bytes_eq y x)))
    (cases_Bool (bytes_eq x y))

module _ {X Z : Type 0} (key : Vec ℕ Z) (value : X) (other : List ℕ) where
  abbrev order : Vec ℕ Z → Vec ℕ Z → Ordering
  order x y = slice_cmp nat_cmp (vec_items x) (vec_items y)

  abbrev finds : Vec ℕ Z → Bool
  finds k = is_eq (slice_cmp nat_cmp other (vec_items k))

  abbrev chosen : Bool → Option X → Option X
  chosen b old = if b then Some value else old

  finds-key : finds key ≡ bytes_eq (vec_items key) other
  finds-key = is_eq-slice_cmp other (vec_items key) ∙ bytes_eq-turned other (vec_items key)

  -- a key that is as the one that is put in
  equal_keys : (k : Vec ℕ Z) → order key k ≡ Equal → vec_items key ≡ vec_items k
  equal_keys k is = same_bytes (vec_items key) (vec_items k) (sym (is_eq-slice_cmp (vec_items key) (vec_items k)) ∙ ap is_eq is)

  at_equal : (e : Vec ℕ Z × X) (es : List (Vec ℕ Z × X)) → vec_items key ≡ vec_items e.0 → (b : Bool) → finds key ≡ b
      → lookup finds ((e.0, value) ∷ es) ≡ chosen b (lookup finds (e ∷ es))
  at_equal e es same true is =
      ap (λ b. cond b (Some value) (lookup finds es)) (ap (λ l. is_eq (slice_cmp nat_cmp other l)) (sym same) ∙ is)
  at_equal e es same false is =
      let no : finds e.0 ≡ false = ap (λ l. is_eq (slice_cmp nat_cmp other l)) (sym same) ∙ is in
      ap (λ b. cond b (Some value) (lookup finds es)) no ∙ sym (ap (λ b. cond b (Some e.1) (lookup finds es)) no)

  at_greater : (e : Vec ℕ Z × X) (es ins : List (Vec ℕ Z × X)) → order key e.0 ≡ Greater → lookup finds ins ≡ chosen (bytes_eq (vec_items key) other) (lookup finds es)
      → (b : Bool) → finds e.0 ≡ b → lookup finds (e ∷ ins) ≡ chosen (bytes_eq (vec_items key) other) (lookup finds (e ∷ es))
  at_greater e es ins more before true is =
      let its : other ≡ vec_items e.0 = same_bytes other (vec_items e.0) (sym (is_eq-slice_cmp other (vec_items e.0)) ∙ is) in
      let apart : bytes_eq (vec_items key) other ≡ false =
      ap (bytes_eq (vec_items key)) its ∙ sym (is_eq-slice_cmp (vec_items key) (vec_items e.0)) ∙ ap is_eq more in
      ap (λ b. cond b (Some e.1) (lookup finds ins)) is
      ∙ sym (ap (λ b. chosen b (lookup finds (e ∷ es))) apart ∙ ap (λ b. cond b (Some e.1) (lookup finds es)) is)
  at_greater e es ins more before false is =
      ap (λ b. cond b (Some e.1) (lookup finds ins)) is ∙ before
      ∙ sym (ap (λ b. chosen (bytes_eq (vec_items key) other) (cond b (Some e.1) (lookup finds es))) is)

  at_order : (e : Vec ℕ Z × X) (es : List (Vec ℕ Z × X)) → lookup finds (insert_entry order es key value) ≡ chosen (bytes_eq (vec_items key) other) (lookup finds es)
      → (o : Ordering) → order key e.0 ≡ o
      → lookup finds (match_ordering o ((key, value) ∷ e ∷ es) ((e.0, value) ∷ es) (e ∷ insert_entry order es key value)) ≡ chosen (bytes_eq (vec_items key) other) (lookup finds (e ∷ es))
  at_order e es before Less is = ap (λ b. cond b (Some value) (lookup finds (e ∷ es))) finds-key
  at_order e es before Equal is =
      at_equal e es (equal_keys e.0 is) (bytes_eq (vec_items key) other) finds-key
  at_order e es before Greater is = at_greater e es (insert_entry order es key value) is before (finds e.0) refl

  pub lookup-inserted : (es : List (Vec ℕ Z × X)) → lookup finds (insert_entry order es key value) ≡ chosen (bytes_eq (vec_items key) other) (lookup finds es)
  lookup-inserted [] = ap (λ b. cond b (Some value) None) finds-key
  lookup-inserted (e ∷ es) = at_order e es (lookup-inserted es) (order key e.0) refl
