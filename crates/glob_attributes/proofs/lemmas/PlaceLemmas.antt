-- The first place of a text at which a test passes.
use Rattle.std.proofs.Common.{◌≡◌, ⊎_elim, ℕ, suc, ◌+◌, ◌-◌, ◌<◌, ◌≤◌, Bool, true, false, cond, not, List, [], ◌∷◌, length, take, drop, None, Some, refl, sym, ap, ◌∙◌, take_all, le_refl, arith}
use Rattle.std.specs.Prelude.{position, nat_lt, ◌||◌}
use Rattle.std.proofs.lemmas.List.{drop_all, take_rest}
use Rattle.std.specs.List.{after_first, before_first, list_any, position_or_len, prefix_len}
use Rattle.std.proofs.lemmas.Bool.{cases_Bool, ltb-true, ltb-false, lt-ltb, le-ltb}
use Rattle.std.proofs.lemmas.List.Sums.{prefix_len-le-length}

shift : (a b : ℕ) → nat_lt a b ≡ nat_lt (1 + a) (suc b)
shift a b =
    ⊎_elim
    (λ yes. let less = ltb-true a b yes in yes ∙ sym (lt-ltb (1 + a) (suc b) (omega arith)))
    (λ no. let more = ltb-false a b no in no ∙ sym (le-ltb (1 + a) (suc b) (omega arith)))
    (cases_Bool (nat_lt a b))

-- nothing stands behind the end, as a slice of it has it
pub end_empty : (text : List ℕ) → take (length text - length text) (drop (length text) text) ≡ []
end_empty text = take_rest text (length text) ∙ drop_all (length text) text (le_refl _)

module _ (p : ℕ → Bool) where
  -- a byte that passes is the first place; another one leaves it to the bytes after it
  pub place-here : (b : ℕ) (text : List ℕ) → p b ≡ true → position_or_len p (b ∷ text) ≡ 0
  place-here b text e = ap (λ t. cond (not t) (1 + position_or_len p text) 0) e

  pub place-later : (b : ℕ) (text : List ℕ) → p b ≡ false → position_or_len p (b ∷ text) ≡ 1 + position_or_len p text
  place-later b text e = ap (λ t. cond (not t) (1 + position_or_len p text) 0) e

  pub place-le : (text : List ℕ) → position_or_len p text ≤ length text
  place-le text = prefix_len-le-length (λ b. not (p b)) text

  -- what a search for the place answers
  pub position-Some : (text : List ℕ) (place : ℕ) → position p text ≡ Some place → (position_or_len p text < length text) × (position_or_len p text ≡ place)
  position-Some text place is =
      ⊎_elim
      (λ yes. let found : Some (position_or_len p text) ≡ Some place = sym (ap (λ t. cond t (Some (position_or_len p text)) None) yes) ∙ is in
      (ltb-true _ _ yes, cc))
      (λ no. let none : None ≡ Some place = sym (ap (λ t. cond t (Some (position_or_len p text)) None) no) ∙ is in absurd (cc))
      (cases_Bool (nat_lt (position_or_len p text) (length text)))

  pub position-None : (text : List ℕ) → position p text ≡ None → position_or_len p text ≡ length text
  position-None text is =
      ⊎_elim
      (λ yes. let none : Some (position_or_len p text) ≡ None = sym (ap (λ t. cond t (Some (position_or_len p text)) None) yes) ∙ is in absurd (cc))
      (λ no. let high = ltb-false _ _ no in let low = place-le text in omega arith)
      (cases_Bool (nat_lt (position_or_len p text) (length text)))

  -- whether some byte passes, by that place
  pub list_any-place : (text : List ℕ) → list_any p text ≡ nat_lt (position_or_len p text) (length text)
  list_any-place [] = refl
  list_any-place (b ∷ text) =
      ⊎_elim
      (λ e. ap (λ t. t || list_any p text) e ∙ sym (ap (λ n. nat_lt n (length (b ∷ text))) (place-here b text e) ∙ lt-ltb 0 (length (b ∷ text)) (omega arith)))
      (λ e. ap (λ t. t || list_any p text) e ∙ list_any-place text ∙ shift (position_or_len p text) (length text) ∙ sym (ap (λ n. nat_lt n (length (b ∷ text))) (place-later b text e)))
      (cases_Bool (p b))

  -- what stands before the place, from it on, and after it
  pub before-found : (text : List ℕ) (place : ℕ) → position p text ≡ Some place → take place text ≡ before_first p text
  before-found text place is = ap (λ n. take n text) (sym ((position-Some text place is).1))

  pub from-found : (text : List ℕ) (place : ℕ) → position p text ≡ Some place → drop place text ≡ drop (position_or_len p text) text
  from-found text place is = ap (λ n. drop n text) (sym ((position-Some text place is).1))

  pub after-found : (text : List ℕ) (place : ℕ) → position p text ≡ Some place → drop (place + 1) text ≡ after_first p text
  after-found text place is = ap (λ n. drop (n + 1) text) (sym ((position-Some text place is).1))

  pub any-found : (text : List ℕ) (place : ℕ) → position p text ≡ Some place → list_any p text ≡ true
  any-found text place is = list_any-place text ∙ lt-ltb (position_or_len p text) (length text) (position-Some text place is).0

  pub before-none : (text : List ℕ) → position p text ≡ None → text ≡ before_first p text
  before-none text is = sym (ap (λ n. take n text) (position-None text is) ∙ take_all (length text) text (le_refl _))

  pub from-none : (text : List ℕ) → position p text ≡ None → [] ≡ drop (position_or_len p text) text
  from-none text is = sym (ap (λ n. drop n text) (position-None text is) ∙ drop_all (length text) text (le_refl _))

  pub any-none : (text : List ℕ) → position p text ≡ None → list_any p text ≡ false
  any-none text is = list_any-place text ∙ le-ltb (position_or_len p text) (length text) (let e = position-None text is in omega arith)

-- what passes a test twice denied passes it
pub prefix_len-twice : (p : ℕ → Bool) (text : List ℕ) → position_or_len (λ b. not (p b)) text ≡ prefix_len p text
prefix_len-twice p [] = refl
prefix_len-twice p (b ∷ text) =
    ⊎_elim
    (λ e. ap (λ t. cond (not (not t)) (1 + position_or_len (λ b. not (p b)) text) 0) e ∙ ap (λ n. 1 + n) (prefix_len-twice p text) ∙ sym (ap (λ t. cond t (1 + prefix_len p text) 0) e))
    (λ e. ap (λ t. cond (not (not t)) (1 + position_or_len (λ b. not (p b)) text) 0) e ∙ sym (ap (λ t. cond t (1 + prefix_len p text) 0) e))
    (cases_Bool (p b))
