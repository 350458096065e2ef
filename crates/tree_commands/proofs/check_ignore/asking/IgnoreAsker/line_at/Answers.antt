use Rattle.std.proofs.Common.{Bool, None, Some, ap, ◌∙◌, if◌then◌else◌}
use Rattle.gix_glob.specs.Entries.{entry_of}
use Rattle.gix_glob.specs.EntryLists.{entry_list_of}
use Rattle.tree_commands.specs.Private.Finding.{line_of}
use Rattle.tree_commands.proofs.lemmas.FindingLemmas.{line_stands}
use Rattle.tree_commands.proofs.check_ignore.asking.IgnoreAsker.line_at.Goals as goal

pub returns-then-not-counts : goal.returns-then-not-counts
returns-then-not-counts g c =
    let list = c.in_ok-decision.decision.list.now in
    let mapping = c.in_ok-decision.decision.mapping.now in
    let line = line_of (entry_list_of {V = Unit {0}} (λ _. tt) list) (entry_of {V = Unit {0}} (λ _. tt) mapping) in (
      Some line,
      line_stands c.args.self.now.finder.tree.lists c.args.pair c.in_ok-pair.field-0 list mapping c.in_ok-pair.was c.in_ok-decision.ensures,
      ap (λ (b : Bool). if b then Some line else None) c.if-not-counts.ensures,
    )

pub returns : goal.returns
returns g c =
    let list = c.in_ok-decision.decision.list.now in
    let mapping = c.in_ok-decision.decision.mapping.now in
    let line = line_of (entry_list_of {V = Unit {0}} (λ _. tt) list) (entry_of {V = Unit {0}} (λ _. tt) mapping) in (
      Some line,
      line_stands c.args.self.now.finder.tree.lists c.args.pair c.in_ok-pair.field-0 list mapping c.in_ok-pair.was c.in_ok-decision.ensures,
      ap (λ l. Some l) c.line_of.ensures ∙ ap (λ (b : Bool). if b then Some line else None) c.if-not-counts.ensures,
    )
