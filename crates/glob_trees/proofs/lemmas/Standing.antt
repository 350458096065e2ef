-- Where no mapping stands at a pair of places.
use Rattle.std.proofs.Common.{◌≡◌, ℕ, List, None, Some, sym, subst, ◌∙◌}
use Rattle.std.specs.Prelude.{slice_get}
use Rattle.std.proofs.lemmas.Option.{same_Some}
use Rattle.gix_glob.specs.declared.search.pattern.list.List as patterns
use Rattle.glob_trees.specs.TreeParts.{HasMappingAt}

module _ {T X : Type 0} (lists : List (patterns.List T X)) (pair : ℕ × ℕ) where
  pub no_list_at : slice_get lists pair.0 ≡ None → ¬ HasMappingAt lists pair
  no_list_at none h = let there = h.2.of_lists in absurd (cc)

  pub no_mapping_at : (list : patterns.List T X) → slice_get lists pair.0 ≡ Some list → slice_get list.patterns.items pair.1 ≡ None → ¬ HasMappingAt lists pair
  no_mapping_at list there none h =
      let same : list ≡ h.0 = same_Some list h.0 (sym there ∙ h.2.of_lists) in
      let here = subst (λ (l : patterns.List T X). slice_get l.patterns.items pair.1 ≡ Some h.1) (sym same) h.2.of_list in
      absurd (cc)
