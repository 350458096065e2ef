-- What is written for a value.
use Rattle.std.proofs.Common.{◌≡◌, inl, inr, ℕ, Bool, true, false, IsTrue, List, refl, sym, ◌∙◌}
use Rattle.std.specs.Prelude.{◌↔◌}
use Rattle.std.proofs.lemmas.Bool.{false≢true}
use Rattle.gix_glob.specs.declared.wildmatch.Mode.{Mode}
use Rattle.gix_glob.specs.Matching.{Splits}
use Rattle.glob_lines.specs.Values.{WritesAnswer}
use Rattle.glob_lines.specs.Private.Answering.{word_of}

module _ (pattern : List ℕ) (mode : Mode) (value : List ℕ) where
  -- the word for the answer of the matcher
  pub answer_written : (answer : Bool) → IsTrue answer ↔ Splits value pattern mode → WritesAnswer pattern mode value (word_of answer)
  answer_written true told = inl (told.0 refl, refl)
  answer_written false told = inr (λ splits. absurd (false≢true (told.1 splits)), refl)

  pub answer_once : (a b : List ℕ) → WritesAnswer pattern mode value a → WritesAnswer pattern mode value b → a ≡ b
  answer_once a b (inl x) (inl y) = x.1 ∙ sym y.1
  answer_once a b (inl x) (inr y) = absurd (y.0 x.0)
  answer_once a b (inr x) (inl y) = absurd (x.0 y.0)
  answer_once a b (inr x) (inr y) = x.1 ∙ sym y.1
