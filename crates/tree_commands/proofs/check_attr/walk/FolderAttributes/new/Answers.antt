-- The top alone is entered.
use Rattle.std.proofs.Common.{◌++◌, ◌∷◌, [], map, ap, ◌∙◌}
use Rattle.gix_glob.specs.EntryLists.{entry_list_of}
use Rattle.glob_attributes.specs.Views.{seen_assignments}
use Rattle.tree_commands.specs.Private.AttributeWays.{unknown}
use Rattle.tree_commands.proofs.lemmas.AttributeLeaves.{top_entered_as}
use Rattle.tree_commands.proofs.check_attr.walk.FolderAttributes.new.Goals as goal

pub returns : goal.returns
returns g c = record {
  asks = c.requires.asks;
  macros = c.requires.macros;
  source = c.requires.source;
  read = [];
  has_read = c.requires.read;
  entered = top_entered_as _ _ _ _ _ _ _ _ _ []
      (ap (map (entry_list_of seen_assignments)) (c.in_ok-push.ensures.items ∙ ap (λ ls. ls ++ c.args.info ∷ []) c.new-lists.ensures.items) ∙ ap (λ l. l ∷ []) c.requires.info)
      c.new.ensures.items c.new-2.ensures.items
      (c.in_ok-know_top.ensures.found ∙ ap (λ fs. fs ++ unknown ∷ []) c.new-found.ensures.items)
      c.in_ok-know_top.ensures.known tt;
}
