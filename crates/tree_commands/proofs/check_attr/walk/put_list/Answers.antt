use Rattle.std.proofs.Common.{◌-◌, ◌++◌, ◌∷◌, [], length, refl, sym, ap, ◌∙◌}
use Rattle.std.specs.Prelude.{slice_set}
use Rattle.std.specs.Option.{option_to_list}
use Rattle.std.proofs.lemmas.Option.{slice_get_read}
use Rattle.tree_commands.proofs.lemmas.AttributeKept.{put_before}
use Rattle.tree_commands.proofs.check_attr.walk.put_list.Goals as goal

pub returns-in_ok-insert : goal.returns-in_ok-insert
returns-in_ok-insert c = record {
  old = c.index_mut.result.now;
  there = slice_get_read c.args.found.now.items (length c.args.found.now.items) c.args.place _ refl c.requires.place c.index_mut.ensures.value;
  here = ap (λ l. slice_set c.args.found.now.items c.args.place (record { is_there = c.index_mut.result.now.is_there; list = l })) c.take.ensures.after;
  put = λ front last joined.
      put_before c.args.lists.now.items front last c.in-Some.list _ _ joined (ap (λ l. length l - 1) c.as_slice.ensures.value) c.in_ok-insert.ensures.items
      ∙ ap (λ o. front ++ (option_to_list o ++ last ∷ [])) (sym c.in-Some.is ∙ c.take.ensures.value);
}

pub returns-in_default : goal.returns-in_default
returns-in_default c = record {
  old = c.index_mut.result.now;
  there = slice_get_read c.args.found.now.items (length c.args.found.now.items) c.args.place _ refl c.requires.place c.index_mut.ensures.value;
  here = ap (λ l. slice_set c.args.found.now.items c.args.place (record { is_there = c.index_mut.result.now.is_there; list = l })) c.take.ensures.after;
  put = λ front last joined. joined ∙ ap (λ o. front ++ (option_to_list o ++ last ∷ [])) (sym c.in_default.is ∙ c.take.ensures.value);
}
