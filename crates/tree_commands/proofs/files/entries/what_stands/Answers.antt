use Rattle.std.proofs.lemmas.Result.{IfOk-weaker}
use Rattle.tree_commands.specs.Private.Listing.{seen_lists}
use Rattle.tree_commands.proofs.lemmas.EntryLemmas.{stands_ignored, stands_kept}
use Rattle.tree_commands.proofs.files.entries.what_stands.Goals as goal

pub returns-in-Always-clause-found : goal.returns-in-Always-clause-found
returns-in-Always-clause-found g c =
    λ tree known. stands_ignored (seen_lists c.args.on_way.now.lists.items) c.args.on_way.now.terms.case tree c.args.path.now (λ is_dir. rw c.deref.ensures.value at (c.in-Always.ensures is_dir))

pub returns-in-Never-clause-found : goal.returns-in-Never-clause-found
returns-in-Never-clause-found g c =
    IfOk-weaker c.kind_at.result _ _
    (λ found is tree known. stands_kept (seen_lists c.args.on_way.now.lists.items) c.args.on_way.now.terms.case tree c.args.path.now found (is tree known) (λ is_dir. rw c.deref.ensures.value at (c.in-Never.ensures is_dir)))
    c.kind_at.ensures.found
