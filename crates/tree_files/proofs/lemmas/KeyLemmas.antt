-- Sets of texts: which are in one after an insertion.
use Rattle.std.proofs.Common.{◌≡◌, ◌⊎◌, inl, inr, ℕ, Bool, true, false, ◌||◌, List, [], ◌∷◌, Vec, IsTrue, ◌↔◌, refl, sym, ap, ◌∙◌}
use Rattle.std.specs.declared.cmp.Ordering.{Ordering}
use Rattle.std.specs.declared.cmp.Ordering.TheVariants.{Less, Equal, Greater}
use Rattle.std.specs.Ordering.{is_eq, match_ordering, nat_cmp}
use Rattle.std.specs.Cmp.Lexicographic.{slice_cmp}
use Rattle.std.specs.List.{list_any}
use Rattle.std.specs.BTreeMap.{is_at}
use Rattle.std.specs.BTreeSet.{insert_key}
use Rattle.std.proofs.lemmas.Map.Text.{is_eq-slice_cmp}
use Rattle.std.proofs.lemmas.Slice.Eq.{bytes_eq-Decides}

or_rotate : (a b c : Bool) → (a || (b || c)) ≡ ((b || c) || a)
or_rotate true true c = refl
or_rotate true false true = refl
or_rotate true false false = refl
or_rotate false true c = refl
or_rotate false false true = refl
or_rotate false false false = refl

or_assoc : (a b c : Bool) → (a || (b || c)) ≡ ((a || b) || c)
or_assoc true b c = refl
or_assoc false b c = refl

or_again : (a b : Bool) → (a || b) ≡ ((a || b) || a)
or_again true b = refl
or_again false true = refl
or_again false false = refl

or_cases : (a b : Bool) → (a || b) ≡ true → (a ≡ true) ⊎ (b ≡ true)
or_cases true b is = inl refl
or_cases false b is = inr is

or_first : (a b : Bool) → a ≡ true → (a || b) ≡ true
or_first a b is = ap (λ x. x || b) is

or_second : (a b : Bool) → b ≡ true → (a || b) ≡ true
or_second true b is = refl
or_second false b is = is

module _ {Z : Type 0} where
  -- keys in order of their bytes
  abbrev key_cmp : Vec ℕ Z → Vec ℕ Z → Ordering
  key_cmp x y = slice_cmp nat_cmp x.items y.items

  abbrev pub is_key : List ℕ → Vec ℕ Z → Bool
  is_key text = is_at (λ (key : Vec ℕ Z). slice_cmp nat_cmp text key.items)

  pub same_text : (text : List ℕ) (key : Vec ℕ Z) → is_key text key ≡ true → text ≡ key.items
  same_text text key is = (bytes_eq-Decides text key.items).0 (sym (is_eq-slice_cmp text key.items) ∙ is)

  pub own_text : (text : List ℕ) (key : Vec ℕ Z) → text ≡ key.items → is_key text key ≡ true
  own_text text key same = is_eq-slice_cmp text key.items ∙ (bytes_eq-Decides text key.items).1 same

  module _ (text : List ℕ) (key : Vec ℕ Z) where
    by_order : (x : Vec ℕ Z) (keys inserted : List (Vec ℕ Z)) → list_any (is_key text) inserted ≡ (list_any (is_key text) keys || is_key text key) → (order : Ordering) → key_cmp key x ≡ order
        → list_any (is_key text) (match_ordering order (key ∷ x ∷ keys) (x ∷ keys) (x ∷ inserted)) ≡ (list_any (is_key text) (x ∷ keys) || is_key text key)
    by_order x keys inserted later Less is = or_rotate (is_key text key) (is_key text x) (list_any (is_key text) keys)
    by_order x keys inserted later Equal is =
        let same : key.items ≡ x.items = same_text key.items x (ap is_eq is) in
        or_again (is_key text x) (list_any (is_key text) keys) ∙ ap (λ t. (is_key text x || list_any (is_key text) keys) || is_eq (slice_cmp nat_cmp text t)) (sym same)
    by_order x keys inserted later Greater is = ap (λ b. is_key text x || b) later ∙ or_assoc (is_key text x) (list_any (is_key text) keys) (is_key text key)

    any_inserted : (keys : List (Vec ℕ Z)) → list_any (is_key text) (insert_key key_cmp keys key) ≡ (list_any (is_key text) keys || is_key text key)
    any_inserted [] = or_rotate (is_key text key) false false
    any_inserted (x ∷ keys) = by_order x keys (insert_key key_cmp keys key) (any_inserted keys) (key_cmp key x) refl

    -- a text is a key then if it was one, or is the new one
    pub is_inserted : (old new : List (Vec ℕ Z)) → new ≡ insert_key key_cmp old key → IsTrue (list_any (is_key text) new) ↔ (IsTrue (list_any (is_key text) old) ⊎ (text ≡ key.items))
    is_inserted old new are = (
      (λ among. by_cases (or_cases (list_any (is_key text) old) (is_key text key) (sym all ∙ among))),
      from,
    )
      where
        all : list_any (is_key text) new ≡ (list_any (is_key text) old || is_key text key)
        all = ap (list_any (is_key text)) are ∙ any_inserted old

        by_cases : (list_any (is_key text) old ≡ true) ⊎ (is_key text key ≡ true) → IsTrue (list_any (is_key text) old) ⊎ (text ≡ key.items)
        by_cases (inl was) = inl was
        by_cases (inr is) = inr (same_text text key is)

        from : IsTrue (list_any (is_key text) old) ⊎ (text ≡ key.items) → IsTrue (list_any (is_key text) new)
        from (inl was) = all ∙ or_first (list_any (is_key text) old) (is_key text key) was
        from (inr is) = all ∙ or_second (list_any (is_key text) old) (is_key text key) (own_text text key is)
