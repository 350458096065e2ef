-- Paths that are told by usual names, from the top: they are where they lead.
use Rattle.std.proofs.Common.{◌≡◌, ◌≢◌, ℕ, true, false, List, [], ◌∷◌, Some, refl, ap, ◌∙◌}
use Rattle.glob_lists.specs.Paths.{IsPlainPath}
use Rattle.git_paths.specs.declared.standpoint.Standpoint.{Standpoint}
use Rattle.git_paths.specs.Paths.{names_folder, parts_of}
use Rattle.git_paths.specs.Standpoints.{led}
use Rattle.tree_answers.specs.Records.{LeadsAsTold}
use Rattle.tree_commands.specs.CheckAttr.{or_dot}
use Rattle.tree_commands.proofs.lemmas.IgnoreLemmas.{led_here}

some_as_told : (told : List ℕ) → told ≢ [] → or_dot told ≡ told
some_as_told [] some = absurd (some refl)
some_as_told (b ∷ told) some = refl

module _ (told : List ℕ) (plain : IsPlainPath told) (leads : LeadsAsTold told) where
  pub usual_led : (standpoint : Standpoint) → standpoint.is_inside ≡ true → standpoint.here.items ≡ [] → led standpoint (or_dot told) ≡ Some told
  usual_led standpoint inside here =
      ap (led standpoint) (some_as_told told plain.some) ∙ led_here standpoint told inside here plain.relative (leads []).0

  pub usual_file : names_folder false (parts_of (or_dot told)) ≡ false
  usual_file = ap (λ t. names_folder false (parts_of t)) (some_as_told told plain.some) ∙ (leads []).1
