use Rattle.std.proofs.Common.{sym, ◌∙◌}
use Rattle.tree_commands.specs.FileTrees.{AreFoundIn}
use Rattle.tree_commands.proofs.lemmas.VisitLemmas.{enters_weaker}
use Rattle.tree_commands.proofs.files.lister.Lister.enter_beside.Goals as goal

pub returns-in_default-clause-enters : goal.returns-in_default-clause-enters
returns-in_default-clause-enters g c =
    let file = rw c.deref.ensures.value at c.in_default.ensures in
    absurd (file.1 c.requires.ends)

pub returns-clause-enters : goal.returns-clause-enters
returns-clause-enters g c = record {
  folder = c.in-Some.folder.now;
  start = sym c.deref.ensures.value ∙ c.in-Some.ensures;
  enters = enters_weaker (λ tree. g.S.FileSource.shows c.names_in.new.source tree × AreFoundIn tree c.in-Some.folder.now c.in_ok-names.names) (g.S.FileSource.shows c.args.source.now)
      (λ tree known. (c.names_in.ensures.stays tree known, c.in_ok-names.ensures.found tree known)) _ _ _ _ _ _ _ _ c.in_ok-enter.ensures.enters;
}
