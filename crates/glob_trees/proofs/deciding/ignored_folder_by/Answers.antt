-- The slashes are gone through from the front.
use Rattle.std.proofs.Common.{◌≡◌, ◌<◌, length, slice_index, sym, subst}
use Rattle.gix_glob.specs.Bytes.{HasByte, slash}
use Rattle.glob_trees.proofs.lemmas.Topmost.{all_passed, passed_byte, passed_slash, topmost_here}
use Rattle.glob_trees.proofs.deciding.ignored_folder_by.Goals as goal
use Rattle.glob_trees.proofs.deciding.ignored_folder_by.Given.{Over}
use Rattle.glob_trees.proofs.deciding.ignored_folder_by.Goals.{After-folder_before}

-- the byte at the place is a slash
slash_here : (g : Over) (c : After-folder_before g) → HasByte c.args.path.now.bytes c.loop-place.place slash
slash_here g c = record {
  inside = subst (λ l. c.loop-place.place < length l) c.bytes-bytes.ensures c.loop-place-test.true;
  is = subst (λ l. slice_index l c.loop-place.place ≡ slash) c.bytes-bytes.ensures c.if-bytes-place-ne47.false;
}

pub returns-in-Some-clause-exact : goal.returns-in-Some-clause-exact
returns-in-Some-clause-exact g c = λ lawful.
    let lists = g.L.ListStack.lists c.args.lists.now in
    let at = (goal.at.returns-in-Some-clause-exact g c).After-folder_before in
    topmost_here lists c.args.rules c.args.path.now.bytes c.loop-place.place (c.loop-place.invariant lawful) c.in-Some.pair (slash_here g at) (rw c.folder_before.ensures at (c.in-Some.ensures.exact lawful))

pub loop-place-preserved : goal.loop-place-preserved
loop-place-preserved g c = λ lawful.
    let lists = g.L.ListStack.lists c.args.lists.now in
    let kept = rw c.in_default.is at (rw c.folder_before.ensures at (c.ignoring.ensures.exact lawful)) in
    passed_slash lists c.args.rules c.args.path.now.bytes c.loop-place.place (c.loop-place.invariant lawful) kept

pub loop-place-preserved-then-bytes-place-ne47 : goal.loop-place-preserved-then-bytes-place-ne47
loop-place-preserved-then-bytes-place-ne47 g c = λ lawful.
    let lists = g.L.ListStack.lists c.args.lists.now in
    passed_byte lists c.args.rules c.args.path.now.bytes c.loop-place.place (c.loop-place.invariant lawful)
    (λ here. c.if-bytes-place-ne47.true (subst (λ l. slice_index l c.loop-place.place ≡ slash) (sym c.bytes-bytes.ensures) here.is))

pub returns-clause-exact : goal.returns-clause-exact
returns-clause-exact g c = λ lawful.
    all_passed (g.L.ListStack.lists c.args.lists.now) c.args.rules c.args.path.now.bytes c.loop-place.place (c.loop-place.invariant lawful) (let past = c.loop-place-test.false in rw c.bytes-bytes.ensures at past)
