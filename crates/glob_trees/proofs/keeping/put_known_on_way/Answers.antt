-- What is kept by the place is taken out, be it none.
use Rattle.std.proofs.Common.{Some, ap, sym, ◌∙◌}
use Rattle.std.proofs.lemmas.Option.{slice_get-get_or}
use Rattle.glob_trees.proofs.lemmas.Putting.{puts_kept, puts_none}
use Rattle.glob_trees.proofs.keeping.put_known_on_way.Goals as goal

pub returns-in_ok-put_kept-clause-puts : goal.returns-in_ok-put_kept-clause-puts
returns-in_ok-put_kept-clause-puts g c =
    puts_kept c.args.place c.args.bytes c.args.way.now.items c.push.new.self.items c.args.lists.now.items c.args.kept.now.items c.index.result.now c.is_some-has_list.result
    (slice_get-get_or c.args.kept.now.items c.args.place c.index.result.now c.requires ∙ ap Some (sym c.index.ensures)) c.is_some-has_list.ensures c.in_ok-push.ensures.items
    c.put_kept.new.lists.items c.put_kept.new.kept.items c.in_ok-put_kept.ensures.puts

pub returns-else-has_list-clause-puts : goal.returns-else-has_list-clause-puts
returns-else-has_list-clause-puts g c =
    puts_none c.args.place c.args.bytes c.args.way.now.items c.push.new.self.items c.args.lists.now.items c.args.kept.now.items c.index.result.now c.is_some-has_list.result
    (slice_get-get_or c.args.kept.now.items c.args.place c.index.result.now c.requires ∙ ap Some (sym c.index.ensures)) c.is_some-has_list.ensures c.in_ok-push.ensures.items
    c.if-has_list.false
