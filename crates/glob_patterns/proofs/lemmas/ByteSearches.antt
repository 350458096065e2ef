-- What a search for a byte says of the whole text.
use Rattle.std.proofs.Common.{◌≡◌, ℕ, Bool, List, Option, None, Some, get_or, sym, ◌∙◌, ap, arith}
use Rattle.std.specs.Prelude.{is_some}
use Rattle.std.specs.List.{list_any}
use Rattle.std.proofs.lemmas.Bool.{false_from_ne_true}
use Rattle.std.proofs.lemmas.List.{get_or_default}
use Rattle.std.proofs.lemmas.List.Folds.{list_any_at, list_any_none}
use Rattle.memchr.specs.Find.{IsFirstByte}

-- a byte is found exactly where some byte passes the test
pub is_some_first_byte : (test : ℕ → Bool) (text : List ℕ) (r : Option ℕ) → IsFirstByte test text r → is_some r ≡ list_any test text
is_some_first_byte test text None h =
    sym (list_any_none test text (λ k d inside. ap test (get_or_default text k d 0 inside) ∙ false_from_ne_true (test (get_or text k 0)) (h k (omega arith) inside)))
is_some_first_byte test text (Some k) h = sym (list_any_at test text k 0 h.0.high h.1)
