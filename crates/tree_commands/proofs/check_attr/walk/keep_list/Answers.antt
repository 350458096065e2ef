use Rattle.std.proofs.Common.{◌-◌, length, refl, ap}
use Rattle.std.proofs.lemmas.Option.{slice_get_read}
use Rattle.tree_commands.proofs.lemmas.AttributeKept.{takes_out}
use Rattle.tree_commands.proofs.check_attr.walk.keep_list.Goals as goal

pub returns : goal.returns
returns c =
    let parts = c.remove-list.ensures.by_index in
    let where_at = ap (λ l. length l - 2) c.as_slice.ensures.value in
    let out = takes_out c.args.lists.now.items _ c.remove-list.result c.remove-list.new.self.items c.requires.some where_at c.remove-list.ensures.value parts.2 in
    record {
      front = out.front;
      list = c.remove-list.result;
      last = out.last;
      joined = out.joined;
      left = out.left;
      old = c.index_mut.result.now;
      there = slice_get_read c.args.found.now.items (length c.args.found.now.items) c.args.place _ refl c.requires.place c.index_mut.ensures.value;
      here = refl;
    }
