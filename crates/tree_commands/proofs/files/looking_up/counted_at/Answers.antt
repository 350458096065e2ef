use Rattle.std.proofs.Common.{ℕ, List, sym, ap, ◌∙◌}
use Rattle.git_index.specs.Entries.{starting_with}
use Rattle.tree_commands.proofs.lemmas.LookupLemmas.{all_count_at}
use Rattle.tree_commands.proofs.files.looking_up.counted_at.Goals as goal

pub returns-then-is_empty : goal.returns-then-is_empty
returns-then-is_empty c =
    let entries = c.args.index.now in
    all_count_at c.told_in-folder.result.now entries (sym c.is_empty.ensures ∙ c.if-is_empty.true) ∙ ap (λ (folder : List ℕ). starting_with folder entries) c.told_in-folder.ensures
