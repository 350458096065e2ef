use Rattle.std.proofs.Common.{List, None, option_map, is_some, sym, ap, ◌∙◌}
use Rattle.std.specs.List.{last_or}
use Rattle.git_index.specs.Entries.{Tracked}
use Rattle.git_index.proofs.lemmas.Alike.{last_of_tracked, tracked_by_last}
use Rattle.git_index.proofs.folded_paths.FoldedPaths.is_tracked.Goals as goal

pub returns : goal.returns
returns c = λ entries same.
    let path = c.args.path.now in
    let alike = rw (← c.self.view_is, ← c.deref.ensures.value) at same path in
    let told = c.is_some.ensures ∙ ap is_some (c.last_kind.ensures ∙ ap (λ (es : List Tracked). option_map (λ (e : Tracked). e.kind) (last_or None es)) alike) in (
      λ yes. tracked_by_last entries path (sym told ∙ yes),
      λ has. told ∙ last_of_tracked entries path has,
    )
