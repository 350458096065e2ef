-- The path begins with the folder that was entered last, and has no slash behind it.
use Rattle.std.proofs.Common.{◌≡◌, [], length, take, ap, sym, ◌∙◌, arith}
use Rattle.std.proofs.lemmas.Bool.{eqb-false, eqb-true}
use Rattle.std.proofs.lemmas.Bool.Decides.{Decides-eqb}
use Rattle.std.proofs.lemmas.Slice.Eq.{slice_eq-Decides}
use Rattle.glob_trees.proofs.lemmas.InFolder.{nothing, somewhere, under_all}
use Rattle.glob_trees.proofs.entered.Entered.is_in_folder_of.Goals as goal

pub returns-then-len-start : goal.returns-then-len-start
returns-then-len-start g c begins =
    let shows = g.S.FolderLists.shows g.T.Pattern.Seen in
    let self = c.args.self.now in
    let path = c.args.path.now.bytes in
    let start = c.in-Some.start in
    let told = c.deref.result.now in
    let long : length told ≡ start = c.deref.ensures.len ∙ sym c.len.ensures ∙ c.if-len-start.true in
    let whole : told ≡ take (length told) c.bytes.result.now = (slice_eq-Decides Decides-eqb told (take (length told) c.bytes.result.now) c.starts_with.result c.starts_with.ensures.value).0 begins in
    let front : self.folder.items ≡ take start path = sym c.deref.ensures.value ∙ whole ∙ ap (λ k. take k c.bytes.result.now) long ∙ ap (take start) c.bytes.ensures in
    let last = c.in-Some.ensures in
    let after = last.after in
    let some : ¬ (self.way.items ≡ []) = λ none. eqb-false _ _ (sym c.is_empty.ensures ∙ c.if-is_empty.false) (ap length (c.as_slice.ensures.value ∙ none)) in
    under_all shows g.S.FolderLists.gave g.T.Pattern.seen self path start front (somewhere shows g.S.FolderLists.gave g.T.Pattern.seen self c.requires.ready some) (omega (arith, last.some, after.inside)) last.last

pub returns-in-None : goal.returns-in-None
returns-in-None g c empty =
    let shows = g.S.FolderLists.shows g.T.Pattern.Seen in
    let self = c.args.self.now in
    let path = c.args.path.now.bytes in
    let some : ¬ (self.way.items ≡ []) = λ none. eqb-false _ _ (sym c.is_empty.ensures ∙ c.if-is_empty.false) (ap length (c.as_slice.ensures.value ∙ none)) in
    under_all shows g.S.FolderLists.gave g.T.Pattern.seen self path 0 (sym c.as_slice-in-None.ensures.value ∙ nothing c.as_slice-in-None.result.now (eqb-true _ _ (sym c.is_empty-in-None.ensures ∙ empty))) (somewhere shows g.S.FolderLists.gave g.T.Pattern.seen self c.requires.ready some) (omega (arith)) (λ j _. c.in-None.ensures j)
