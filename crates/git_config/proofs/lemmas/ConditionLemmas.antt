-- What stands behind a word, and what the words of conditions ask.
use Rattle.std.proofs.Common.{◌≡◌, ℕ, Bool, true, false, List, [], ◌∷◌, ◌++◌, ◌+◌, length, take, drop, Option, None, Some, Bor, Result, Ok, Err, refl, sym, ap, subst, ◌∙◌, inl, inr}
use Rattle.std.specs.Prelude.{◌↔◌, Any, IfOk, IsTrue, MatchOption, codes, nat_eq}
use Rattle.std.specs.declared.alloc.AllocError.{AllocError}
use Rattle.std.proofs.lemmas.Bool.{false≢true}
use Rattle.std.proofs.lemmas.List.{append_cancel_left, take-append-drop}
use Rattle.git_config.specs.declared.surroundings.Surroundings.{Surroundings}
use Rattle.git_config.specs.Includes.{HasUrl, Holds}
use lib.Pointwise.{bytes_decides, pointwise}

-- ---- a word in front

pub take_front : (front text : List ℕ) → take (length front) (front ++ text) ≡ front
take_front [] text = refl
take_front (x ∷ front) text = ap (λ (l : List ℕ). x ∷ l) (take_front front text)

pub drop_front : (front text : List ℕ) → drop (length front) (front ++ text) ≡ text
drop_front [] text = refl
drop_front (x ∷ front) text = drop_front front text

-- a front that was stripped stood there
pub stripped : (front text : List ℕ) → pointwise nat_eq (take (length front) text) front ≡ true → text ≡ front ++ drop (length front) text
stripped front text h = sym (take-append-drop (length front) text) ∙ ap (λ (l : List ℕ). l ++ drop (length front) text) ((bytes_decides (take (length front) text) front).0 h)

-- what stripping a word answers
pub behind_as : (r : Option (Bor (List ℕ))) (front text : List ℕ)
    → MatchOption r (pointwise nat_eq (take (length front) text) front ≡ false)
    (λ x. (pointwise nat_eq (take (length front) text) front ≡ true) × (x.now ≡ drop (length front) text) × (length x.now + length front ≡ length text))
    → MatchOption r ((told : List ℕ) → ¬ (text ≡ front ++ told)) (λ x. text ≡ front ++ x.now)
behind_as None front text h =
    λ told e. false≢true (sym h ∙ ap (λ (l : List ℕ). pointwise nat_eq (take (length front) l) front) e ∙ (bytes_decides (take (length front) (front ++ told)) front).1 (take_front front told))
behind_as (Some x) front text h = stripped front text h.0 ∙ ap (λ (l : List ℕ). front ++ l) (sym h.1)

-- ---- what stands before the colon

-- other words stand there
other_word : (a b : List ℕ) (n : ℕ) → pointwise nat_eq (take n a) (take n b) ≡ false → pointwise nat_eq (take n b) (take n b) ≡ true → a ≡ b → ⊥
other_word a b n differs same e = false≢true (sym differs ∙ ap (λ (l : List ℕ). pointwise nat_eq (take n l) (take n b)) e ∙ same)

module _ (around : Surroundings) (real : Option (List ℕ)) where
  of_url : (told : List ℕ) → Holds around real (codes "hasconfig:remote.*.url:" ++ told) → HasUrl around told
  of_url told (t, inl (e, h)) = absurd (other_word (codes "hasconfig:remote.*.url:" ++ told) (codes "gitdir:" ++ t) 1 refl refl e)
  of_url told (t, inr (inl (e, h))) = absurd (other_word (codes "hasconfig:remote.*.url:" ++ told) (codes "gitdir/i:" ++ t) 1 refl refl e)
  of_url told (t, inr (inr (inl (e, h)))) = absurd (other_word (codes "hasconfig:remote.*.url:" ++ told) (codes "onbranch:" ++ t) 1 refl refl e)
  of_url told (t, inr (inr (inr (e, h)))) = subst (λ (l : List ℕ). HasUrl around l) (sym (append_cancel_left (codes "hasconfig:remote.*.url:") told t e)) h

  -- an answer to an equal question
  answers : {P : Type 0} (condition is : List ℕ) (r : Result Bool AllocError) → condition ≡ is → (P → Holds around real is) → (Holds around real is → P)
      → IfOk r (λ so. IsTrue so ↔ P) → IfOk r (λ so. IsTrue so ↔ Holds around real condition)
  answers condition is (Ok so) e f g h = (λ t. subst (λ (l : List ℕ). Holds around real l) (sym e) (f (h.0 t)), λ q. h.1 (g (subst (λ (l : List ℕ). Holds around real l) e q)))
  answers condition is (Err fault) e f g h = tt

  pub holds_url : (condition told : List ℕ) (so : Bool) → condition ≡ codes "hasconfig:remote.*.url:" ++ told → (IsTrue so ↔ HasUrl around told) → IsTrue so ↔ Holds around real condition
  holds_url condition told so e h = answers condition (codes "hasconfig:remote.*.url:" ++ told) (Ok so) e (λ f. (told, inr (inr (inr (refl, f))))) (of_url told) h

  -- none of the words
  pub holds_not : (condition : List ℕ) → ((told : List ℕ) → ¬ (condition ≡ codes "gitdir:" ++ told)) → ((told : List ℕ) → ¬ (condition ≡ codes "gitdir/i:" ++ told))
      → ((told : List ℕ) → ¬ (condition ≡ codes "onbranch:" ++ told)) → ((told : List ℕ) → ¬ (condition ≡ codes "hasconfig:remote.*.url:" ++ told)) → ¬ Holds around real condition
  holds_not condition a b c d (t, inl (e, h)) = a t e
  holds_not condition a b c d (t, inr (inl (e, h))) = b t e
  holds_not condition a b c d (t, inr (inr (inl (e, h)))) = c t e
  holds_not condition a b c d (t, inr (inr (inr (e, h)))) = d t e
