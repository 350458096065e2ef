use Rattle.std.proofs.Common.{◌≡◌, ◌++◌, sym, ap, ◌∙◌, rules}
use Rattle.std.specs.Prelude.{Option, is_some}
use Rattle.std.proofs.lemmas.Bool.{false≢true}
use Rattle.tree_commands.specs.declared.files.source.EntryKind.{EntryKind}
use Rattle.tree_commands.proofs.lemmas.BesideLemmas.{says_false}
use Rattle.tree_commands.proofs.files.entries.has_entry.Goals as goal

pub returns-then-not-is_entry_name-clause-there : goal.returns-then-not-is_entry_name-clause-there
returns-then-not-is_entry_name-clause-there g c = λ tree known. says_false (λ both. false≢true (sym c.if-not-is_entry_name.true ∙ c.is_entry_name.ensures.1 both.0))

pub returns-clause-there : goal.returns-clause-there
returns-clause-there g c =
    let is : c.deref.result.now ≡ c.args.start.now ++ c.args.name.now = search rules in
    λ tree known.
    let here : c.in_ok-found.found ≡ tree.kind (c.args.start.now ++ c.args.name.now) = c.in_ok-found.ensures.found tree known ∙ ap tree.kind is in
    let same : c.is_some.result ≡ is_some (tree.kind (c.args.start.now ++ c.args.name.now)) = c.is_some.ensures ∙ ap (λ (o : Option EntryKind). is_some o) here in
    ((λ yes. (c.is_entry_name.ensures.0 c.if-not-is_entry_name.false, sym same ∙ yes)), (λ both. same ∙ both.1))
