use Rattle.std.proofs.Common.{◌≡◌, ◌∷◌, List, ℕ, Option, codes, ap, ◌∙◌}
use Rattle.std.specs.Borrow.{Bor}
use Rattle.std.specs.Option.{option_copied}
use Rattle.tree_commands.specs.FileTrees.{names_in}
use Rattle.tree_commands.specs.Private.Listing.{names_left}
use Rattle.tree_commands.proofs.lemmas.NameLemmas.{is_wanted, met_next}
use Rattle.tree_commands.proofs.files.source.FolderNames.of_names.Goals as goal

pub names-preserved : goal.names-preserved
names-preserved c =
    let name = c.first_name.result.0.now in
    let rest = names_left (option_copied c.first_name.result.1) in
    let left : names_left (option_copied c.names.rest) ≡ name ∷ rest = ap (λ (r : Option (Bor (List ℕ))). names_left (option_copied r)) c.in-Some.is ∙ c.first_name.ensures in
    record {
      git = met_next (codes ".git") c.names.has_git c.eq-has_git.result name _ rest (names_in c.args.bytes.items) left (is_wanted (codes ".git") c.eq-has_git.result name c.as_slice-in-Some.result.now c.eq-has_git.ensures c.as_slice-in-Some.ensures) c.names.invariant.git;
      patterns = met_next (codes ".gitignore") c.names.has_patterns c.eq-has_patterns.result name _ rest (names_in c.args.bytes.items) left (is_wanted (codes ".gitignore") c.eq-has_patterns.result name c.as_slice-in-Some-2.result.now c.eq-has_patterns.ensures c.as_slice-in-Some-2.ensures) c.names.invariant.patterns;
    }
