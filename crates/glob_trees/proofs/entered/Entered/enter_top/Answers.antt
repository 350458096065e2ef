-- A folder is on the way, or none is known.
use Rattle.std.proofs.Common.{ap, length, sym, ◌∙◌}
use Rattle.std.proofs.lemmas.Bool.{eqb-false, eqb-true}
use Rattle.glob_trees.proofs.lemmas.InFolder.{fresh_yet, nothing, somewhere}
use Rattle.glob_trees.proofs.entered.Entered.enter_top.Goals as goal

pub ask_for_top-requires : goal.ask_for_top-requires
ask_for_top-requires g c = record {
  fresh = fresh_yet (g.S.FolderLists.shows g.T.Pattern.Seen) g.S.FolderLists.gave g.T.Pattern.seen c.args.self.now c.requires.ready
      (sym c.as_slice.ensures.value ∙ nothing c.as_slice.result.now (eqb-true _ _ (sym c.is_empty.ensures ∙ c.if-is_empty.true)));
}

pub returns-clause-under : goal.returns-clause-under
returns-clause-under g c =
    somewhere (g.S.FolderLists.shows g.T.Pattern.Seen) g.S.FolderLists.gave g.T.Pattern.seen c.args.self.now c.requires.ready
    (λ none. eqb-false _ _ (sym c.is_empty.ensures ∙ c.if-is_empty.false) (ap length (c.as_slice.ensures.value ∙ none)))
