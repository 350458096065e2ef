use Rattle.std.proofs.Common.{map, sym, ap, ◌∙◌}
use Rattle.gix_glob.specs.Entries.{entry_of}
use Rattle.glob_attributes.specs.Narrowing.{concerns}
use Rattle.glob_attributes.specs.Views.{seen_assignments}
use Rattle.glob_attributes.proofs.lemmas.KeptLemmas.{filter-map}
use Rattle.tree_commands.specs.Private.AttributeWays.{asked_of, kept_entries}
use Rattle.tree_commands.proofs.check_attr.kept_lists.keep_asked.Goals as goal

pub returns-in-Names-clause-entries : goal.returns-in-Names-clause-entries
returns-in-Names-clause-entries c =
    ap (map (entry_of seen_assignments)) c.keep_named.ensures.kept
    ∙ filter-map (entry_of seen_assignments) (λ entry. concerns (map (λ name. name.now) c.in-Names.names.now) c.args.macros.now entry.value) c.args.list.patterns.items
    ∙ ap (λ asked. kept_entries (asked_of asked) c.args.macros.now (map (entry_of seen_assignments) c.args.list.patterns.items)) (sym c.in-Names.is)
