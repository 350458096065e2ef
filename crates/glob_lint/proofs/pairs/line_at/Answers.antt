-- The parts of the line are those of its entry.
use Rattle.std.proofs.Common.{sym, ap, ◌∙◌}
use Rattle.gix_glob.specs.EntryLists.{EntryList}
use Rattle.glob_lint.specs.Lines.{line_of}
use Rattle.glob_lint.proofs.lemmas.Held.{entry_held, list_held}
use Rattle.glob_lint.proofs.pairs.line_at.Goals as goal

pub returns : goal.returns
returns c =
    let lists = c.args.lists.now in
    let held = c.index-lists-pair.result in
    let there = c.requires in
    let list_is = list_held lists c.args.pair held c.index-lists-pair.is there.0 there.1 in
    let entry_is = entry_held lists c.args.pair held c.index-lists-pair.is there.0 there.1 in
    record {
      entry = there.0;
      at = there.1;
      is = c.at.ensures there.0 entry_is ∙ ap (λ (l : EntryList (Unit {0})). line_of l there.0) (sym list_is);
    }
