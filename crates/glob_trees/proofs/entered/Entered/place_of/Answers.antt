-- The name of the folder in the one entered last.
use Rattle.std.proofs.Common.{drop, take, ap, ◌∙◌}
use Rattle.glob_trees.specs.Known.{names_of}
use Rattle.glob_trees.specs.declared.on_way.FolderOnWay.{FolderOnWay}
use Rattle.glob_trees.proofs.lemmas.InFolder.{tail}
use Rattle.glob_trees.proofs.lemmas.Known.{fits}
use Rattle.glob_trees.proofs.lemmas.Stepping.{some_front}
use Rattle.glob_trees.proofs.entered.Entered.place_of.Goals as goal

pub slice_bounds-name-count : goal.slice_bounds-name-count
slice_bounds-name-count g c =
    fits _ _ _ _ _ _ _ _ _ _ (take c.args.place c.args.path.now) (some_front c.args.path.now c.args.place c.requires.slash c.requires.deep) c.requires.under c.last_on_way-outer.result c.last_on_way-outer.ensures

pub slice_bounds-name-start : goal.slice_bounds-name-start
slice_bounds-name-start g c =
    fits _ _ _ _ _ _ _ _ _ _ (take c.args.place c.args.path.now) (some_front c.args.path.now c.args.place c.requires.slash c.requires.deep) c.requires.under c.last_on_way-outer.result c.last_on_way-outer.ensures

pub returns : goal.returns
returns g c = λ above last joined.
    c.place_in.ensures.found ∙ ap ((names_of c.args.self.now.known).found c.last_on_way-outer.result.place) (tail c.last_on_way-outer.result.length (take c.args.place c.args.path.now))
    ∙ ap (λ (there : FolderOnWay). (names_of c.args.self.now.known).found there.place (drop there.length (take c.args.place c.args.path.now))) (c.last_on_way-outer.ensures above last joined)
