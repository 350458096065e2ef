use Rattle.std.proofs.Common.{◌≡◌, ℕ, List, length, map, take, true, sym, ap, subst, ◌∙◌, rules}
use Rattle.std.specs.List.{AllByRecursion}
use Rattle.std.specs.Vec.{vec_items}
use Rattle.gix_glob.specs.EntryLists.{EntryList}
use Rattle.glob_lists.specs.Deciding.{BasesAreFolders}
use Rattle.glob_trees.specs.Ways.{start_of}
use Rattle.tree_commands.specs.FileTrees.{AreFoundIn, FileTree, names_in}
use Rattle.tree_commands.specs.Files.{Terms}
use Rattle.tree_commands.specs.Private.Listing.{AddsOwn, Among, EndsInName, PutsInOrder, reads_list, seen_lists, terms_of}
use Rattle.tree_commands.proofs.lemmas.ListsLemmas.{bases_taken, seen_length, seen_taken}
use Rattle.tree_commands.proofs.lemmas.VisitLemmas.{adds_where, found_as}
use Rattle.tree_commands.proofs.files.lister.Lister.enter.Goals as goal

pub push_list_of-requires : goal.push_list_of-requires
push_list_of-requires g c =
    let taken = seen_taken c.args.next.now.list_count c.args.self.now.on_way.lists.items ∙ ap seen_lists (sym c.truncate.ensures.items) in
    record { folders = subst BasesAreFolders taken (bases_taken c.args.next.now.list_count (seen_lists c.args.self.now.on_way.lists.items) c.requires.folders) }

pub returns-clause-enters : goal.returns-clause-enters
returns-clause-enters g c =
    let Known : FileTree → Type 0 = λ tree. g.S.FileSource.shows c.args.source.now tree × AreFoundIn tree c.args.folder.now c.args.names.now in
    let terms = terms_of c.args.self.now.on_way.terms in
    let folder = c.args.folder.now in
    let new_lists = seen_lists c.push_list_of.new.on_way.lists.items in
    let paths = map vec_items c.in_ok-paths.paths.items in
    let taken = sym (seen_taken c.args.next.now.list_count c.args.self.now.on_way.lists.items ∙ ap seen_lists (sym c.truncate.ensures.items)) in
    let start : c.deref.result.now ≡ start_of folder = c.deref.ensures.value ∙ c.requires.start in
    let as_terms : terms_of c.push_list_of.new.on_way.terms ≡ terms = ap terms_of c.push_list_of.ensures.terms in
    let count : c.len.result ≡ length c.push_list_of.new.on_way.lists.items = search rules in
    let long : c.len.result ≡ length new_lists = count ∙ sym (seen_length c.push_list_of.new.on_way.lists.items) in
    record {
      lists = adds_where (λ tree. g.S.FileSource.shows c.args.source.now tree × AreFoundIn tree folder c.args.names.now × (reads_list terms.chosen c.args.is_ignored ≡ true)) (λ tree. Known tree × (reads_list terms.chosen c.args.is_ignored ≡ true)) (λ tree it. (it.0.0, it.0.1, it.1)) folder (take c.args.next.now.list_count (seen_lists c.args.self.now.on_way.lists.items)) new_lists
          (subst (λ (old : List (EntryList (Unit {0}))). AddsOwn (λ tree. g.S.FileSource.shows c.args.source.now tree × AreFoundIn tree folder c.args.names.now × (reads_list terms.chosen c.args.is_ignored ≡ true)) folder old new_lists) taken c.in_ok-push_list_of.ensures.adds);
      paths = paths;
      each = subst (λ (t : Terms). AllByRecursion (EndsInName t.case (start_of folder)) paths) as_terms (subst (λ (s : List ℕ). AllByRecursion (EndsInName c.push_list_of.new.on_way.terms.case s) paths) start c.in_ok-paths.ensures.each);
      found = λ tree known path. found_as new_lists (terms_of c.push_list_of.new.on_way.terms) terms tree c.deref.result.now (start_of folder) (names_in c.deref-2.result.now) (tree.names folder) path as_terms start
          (ap names_in c.deref-2.ensures.value ∙ known.1.names) (Among paths path) (c.in_ok-paths.ensures.found tree (c.push_list_of.ensures.stays tree known.0) path);
      puts = subst (λ n. PutsInOrder paths n c.args.is_ignored c.args.self.now.pending.items c.put_in_order.new.pending.items) long c.in_ok-put_in_order.ensures;
    }
