use Rattle.std.proofs.Common.{rules, ap, sym, ◌∙◌}
use Rattle.std.specs.Option.{option_copied}
use Rattle.git_paths.specs.Paths.{names_folder, parts_left}
use Rattle.git_paths.proofs.paths.walk.Goals as goal

pub parts-preserved : goal.parts-preserved
parts-preserved c =
    let known = c.parts.is_folder in record {
      leads = search rules;
      folder =
          c.says_folder-is_folder.ensures known
          ∙ (ap (names_folder known) (sym c.first_part.ensures)
          ∙ (ap (λ rest. names_folder known (parts_left (option_copied rest))) (sym c.in-Some.is) ∙ c.parts.invariant.folder));
    }
