-- Which folder of a path from the root is the top: each is asked that ends before a slash, and at last the path itself.
use Rattle.std.proofs.Common.{◌≡◌, ◌≢◌, inl, inr, ℕ, ◌+◌, false, true, List, drop, length, take, Option, Bool, None, Some, IfSome, ap, arith, below_more, subst, sym, ◌∙◌}
use Rattle.std.specs.Prelude.{slice_get}
use Rattle.std.proofs.lemmas.Option.{slice_get_within}
use Rattle.std.specs.Option.{option_and_then}
use Rattle.gix_glob.specs.Bytes.{slash}
use Rattle.pathspecs.specs.Leading.{leads_from_root}
use Rattle.pathspecs.specs.Spelling.{Spelt, spelt_by}
use Rattle.tree_commands.specs.CheckIgnore.{EndsFolder, IsLeftBehindTop, LeadsNowhere, LeadsTo, NoTopBefore, Question}

module _ (is_top : List ℕ → Option Bool) (path : List ℕ) where
  pub none_yet : NoTopBefore is_top path 0
  none_yet e below ends = absurd (omega arith)

  pub none_more : (end : ℕ) → NoTopBefore is_top path end → (EndsFolder path end → IfSome (is_top (take end path)) (λ is. is ≡ false)) → NoTopBefore is_top path (end + 1)
  none_more end before here = below_more (λ e. EndsFolder path e → IfSome (is_top (take e path)) (λ is. is ≡ false)) end before here

  -- no folder ends within a name
  within_name : (end byte : ℕ) → slice_get path end ≡ Some byte → byte ≢ slash → ¬ EndsFolder path end
  within_name end byte there other (inl same) = other (cc)
  within_name end byte there other (inr last) = let within = slice_get_within path end byte there in absurd (omega arith)

  pub none_by_name : (end byte : ℕ) → slice_get path end ≡ Some byte → byte ≢ slash → NoTopBefore is_top path end → NoTopBefore is_top path (end + 1)
  none_by_name end byte there other before = none_more end before (λ ends. absurd (within_name end byte there other ends))

  pub left_behind : (end : ℕ) (left : List ℕ) → EndsFolder path end → NoTopBefore is_top path end → IfSome (is_top (take end path)) (λ is. is ≡ true) → left ≡ drop (end + 1) path → IsLeftBehindTop is_top path left
  left_behind end left ends before top rest = record { end = end; ends = ends; top = top; first = before; rest = rest }

-- a told path that leads nowhere by its text
module _ (question : Question) (told : List ℕ) (spelt : Spelt) (says : spelt_by told ≡ Some spelt) (nowhere : question.leads told ≡ None) where
  pub nowhere_else : leads_from_root spelt ≡ None → LeadsNowhere question told
  nowhere_else none = (
    nowhere,
    subst (λ (led : Option (List ℕ)). IfSome led (λ way. NoTopBefore question.known.is_top way (length way + 1))) (sym (ap (option_and_then leads_from_root) says ∙ none)) tt,
  )

  pub nowhere_over : (way : List ℕ) → leads_from_root spelt ≡ Some way → NoTopBefore question.known.is_top way (length way + 1) → LeadsNowhere question told
  nowhere_over way led none = (
    nowhere,
    subst (λ (led : Option (List ℕ)). IfSome led (λ way. NoTopBefore question.known.is_top way (length way + 1))) (sym (ap (option_and_then leads_from_root) says ∙ led)) none,
  )

  pub led_over : (way left : List ℕ) → leads_from_root spelt ≡ Some way → IsLeftBehindTop question.known.is_top way left → LeadsTo question told left
  led_over way left led behind = inr (nowhere, way, ap (option_and_then leads_from_root) says ∙ led, behind)
