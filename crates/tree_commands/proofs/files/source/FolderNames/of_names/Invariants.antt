use Rattle.std.proofs.Common.{codes, length}
use Rattle.std.specs.Option.{option_copied}
use Rattle.tree_commands.specs.FileTrees.{names_in}
use Rattle.tree_commands.specs.Private.Listing.{names_left}
use Rattle.tree_commands.proofs.lemmas.NameLemmas.{IsMetOrLeft}
use Rattle.tree_commands.proofs.files.source.FolderNames.of_names.Given as goal

-- what the names so far tell
abbrev pub invariant-names : goal.invariant-names
invariant-names l = record {
  git : IsMetOrLeft (codes ".git") l.has_git (names_left (option_copied l.rest)) (names_in l.fn.bytes.items);
  patterns : IsMetOrLeft (codes ".gitignore") l.has_patterns (names_left (option_copied l.rest)) (names_in l.fn.bytes.items);
}

abbrev pub decreases-names : goal.decreases-names
decreases-names l = length (names_left (option_copied l.rest))
