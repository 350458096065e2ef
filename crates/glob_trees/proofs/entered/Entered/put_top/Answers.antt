-- The top is on the way, and its list where it has entries.
use Rattle.std.proofs.Common.{◌++◌, ◌∷◌, [], None, map, ap, ◌∙◌}
use Rattle.std.specs.Prelude.{option_to_list}
use Rattle.std.proofs.lemmas.List.{length-map, map-append}
use Rattle.gix_glob.specs.EntryLists.{entry_list_of}
use Rattle.glob_trees.specs.Known.{names_of}
use Rattle.glob_trees.specs.Ways.{unless_empty}
use Rattle.glob_trees.proofs.lemmas.Known.{at_top, but_one, moved}
use Rattle.glob_trees.proofs.lemmas.Stepping.{ok_both}
use Rattle.glob_trees.proofs.lemmas.WithEntries.{if_any_listed, if_any_view}
use Rattle.glob_trees.proofs.entered.Entered.put_top.Goals as goal

pub returns-clause-under : goal.returns-clause-under
returns-clause-under g c =
    let seen = g.T.Pattern.seen in
    let shows = g.S.FolderLists.shows g.T.Pattern.Seen in
    let gave = g.S.FolderLists.gave in
    let old = c.args.self.now in
    let list = entry_list_of seen c.args.list in
    let fresh = c.requires.fresh in
    let kept = c.prepared_if_any-list.result in
    ok_both c.put_on_way.result _ _ _
    (λ way lists.
    moved (shows old.source) (gave old.source) seen old.front_count old.rules (map (entry_list_of seen) old.lists.items ++ unless_empty list) _ [] _ _ _ (names_of c.add_top.new.self) (None ∷ []) _ []
    (ap (map (entry_list_of seen)) lists ∙ map-append (entry_list_of seen) old.lists.items (option_to_list kept) ∙ ap (λ ls. map (entry_list_of seen) old.lists.items ++ ls) (if_any_view seen c.args.list kept c.prepared_if_any-list.ensures))
    fresh.folder
    (way ∙ ap (λ w. w ++ (record { place = 0; length = 0; has_list = c.is_some.result }) ∷ []) fresh.way ∙ ap (λ b. (record { place = 0; length = 0; has_list = b }) ∷ []) c.is_some.ensures)
    (c.in_ok-push.ensures.items ∙ ap (λ held. held ++ None ∷ []) fresh.kept)
    (at_top (shows old.source) (gave old.source) seen old.front_count old.rules (map (entry_list_of seen) old.lists.items) list (names_of c.add_top.new.self) _ (length-map old.lists.items (entry_list_of seen) ∙ fresh.count) fresh.bases c.requires.of (λ folder was. but_one gave old.source [] folder (fresh.none_given folder) was) c.in_ok-add_top.ensures.count c.in_ok-add_top.ensures.none (if_any_listed seen c.args.list kept c.prepared_if_any-list.ensures)))
    c.put_on_way.ensures.way c.put_on_way.ensures.lists
