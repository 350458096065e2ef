-- The pattern that decides tells.
use Rattle.std.proofs.Common.{map, ap, sym, ◌∙◌}
use Rattle.std.proofs.lemmas.Bool.{false≢true}
use Rattle.gix_glob.specs.EntryLists.{entry_list_of}
use Rattle.gix_glob.specs.Patterns.{is_negative}
use Rattle.tree_commands.proofs.lemmas.IgnoringLemmas.{none_ignores, tells_ignored}
use Rattle.tree_commands.proofs.files.ignoring.is_ignored_by.Goals as goal

pub returns-in-Some : goal.returns-in-Some
returns-in-Some g c =
    let has = rw c.from_plain-path.ensures at c.in-Some.ensures in
    tells_ignored (map (entry_list_of g.T.Pattern.seen) c.args.lists.now) c.args.case c.args.path.now c.args.is_dir has.0 has.1 c.is_negative.result (c.is_negative.ensures ∙ ap is_negative (sym has.2))

pub returns-in-None : goal.returns-in-None
returns-in-None g c =
    let none = rw c.from_plain-path.ensures at c.in-None.ensures in
    (λ no. absurd (false≢true no), λ it. absurd (none_ignores (map (entry_list_of g.T.Pattern.seen) c.args.lists.now) c.args.case c.args.path.now c.args.is_dir none it))
