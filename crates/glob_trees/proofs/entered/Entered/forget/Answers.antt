-- The lists that stand before those of all folders stay.
use Rattle.std.proofs.Common.{length, map, sym, subst, ◌∙◌, ap, length-take-le}
use Rattle.std.proofs.lemmas.List.{take-map}
use Rattle.std.proofs.lemmas.List.Elements.{All-take}
use Rattle.gix_glob.specs.EntryLists.{entry_list_of}
use Rattle.glob_lists.specs.Deciding.{BasesAreFolders, HasFolder}
use Rattle.glob_trees.proofs.entered.Entered.forget.Goals as goal

pub returns-clause-fresh : goal.returns-clause-fresh
returns-clause-fresh g c =
    let self = c.args.self.now in
    let n = self.front_count in
    let seen = g.T.Pattern.seen in
    let items = c.truncate.ensures.items in
    record {
      count = ap length items ∙ length-take-le n self.lists.items c.requires.fronts.many;
      bases = subst (λ ls. BasesAreFolders (map (entry_list_of seen) ls)) (sym items)
          (subst BasesAreFolders (take-map (entry_list_of seen) n self.lists.items) (All-take HasFolder n (map (entry_list_of seen) self.lists.items) c.requires.fronts.bases));
      way = c.clear-2.ensures.items;
      folder = c.clear.ensures.items;
      known = c.new.ensures.count;
      kept = c.new-2.ensures.items;
      none_given = c.forget.ensures.none;
    }
