use Rattle.std.proofs.Common.{map, sym}
use Rattle.git_index.specs.Entries.{tracked}
use Rattle.git_index.proofs.lemmas.Alike.{below_there}
use Rattle.git_index.proofs.folded_paths.FoldedPaths.has_below.Goals as goal

pub returns : goal.returns
returns c = λ entries same.
    let folder = c.args.folder.now in
    let own = map tracked c.deref.result.now in
    let alike = rw (← c.self.view_is, ← c.deref.ensures.value) at same in (
      λ yes. below_there own entries alike folder (c.has_below.ensures.0 yes),
      λ below. c.has_below.ensures.1 (below_there entries own (λ path. sym (alike path)) folder below),
    )
