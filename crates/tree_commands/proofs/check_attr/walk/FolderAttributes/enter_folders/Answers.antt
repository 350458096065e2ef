-- A byte that is no slash is passed; where no folder stands, or no slash is left, the path is gone to.
use Rattle.std.proofs.Common.{◌++◌, ◌<◌, ap, sym, subst, ◌∙◌, arith, length}
use Rattle.gix_glob.specs.Bytes.{HasByte, slash}
use Rattle.glob_trees.specs.Ways.{folders_to}
use Rattle.tree_commands.proofs.lemmas.AttributePaths.{gone_as_far, gone_to}
use Rattle.tree_commands.proofs.lemmas.AttributeSteps.{ends_there, level_past, passed}
use Rattle.tree_commands.proofs.check_attr.walk.FolderAttributes.enter_folders.Goals as goal

pub bytes-preserved-then-path-place-ne47 : goal.bytes-preserved-then-path-place-ne47
bytes-preserved-then-path-place-ne47 g c = (
  c.bytes.invariant.0,
  passed c.bytes.self.folder.items c.args.path.now c.bytes.place c.bytes.invariant.1 (let inside = c.requires.ends.inside in let test = c.bytes-test.true in omega (arith, inside, test)) c.if-path-place-ne47.true,
)

pub returns-then-not-branch : goal.returns-then-not-branch
returns-then-not-branch g c =
    let inside : c.bytes.place < length c.args.path.now = let within = c.requires.ends.inside in let test = c.bytes-test.true in omega (arith, within, test) in
    let here : HasByte c.args.path.now c.bytes.place slash = record { inside = inside; is = c.if-path-place-ne47.false } in
    let none = c.in_ok-enter.ensures.none c.if-not-branch.true in
    let ends = ends_there g.Q.Question.shows c.bytes.self.folder.items c.args.path.now c.bytes.place here (λ zero. c.requires.relative (subst (λ k. HasByte c.args.path.now k slash) zero here)) c.bytes.invariant.1 none.1 in
    gone_as_far g.Q.Question.files g.Q.Question.asked g.Q.Question.shows g.S.AttributeFolders.shows _ c.in_ok-enter.ensures.entered c.args.path.now ends.beyond
    (ends.joined ∙ ap (λ f. folders_to f ++ ends.beyond) (sym none.0)) ends.ends

pub returns : goal.returns
returns g c =
    gone_to g.Q.Question.files g.Q.Question.asked g.Q.Question.shows g.S.AttributeFolders.shows _ c.bytes.invariant.0 c.args.path.now
    (level_past c.args.path.now c.bytes.place (λ place past. c.requires.ends.none place (let test = c.bytes-test.false in omega (arith, past, test))) ∙ (let before = c.bytes.invariant.1 in before.level))
