-- The slashes are gone through from the front.
use Rattle.std.proofs.Common.{◌≡◌, ◌<◌, inl, inr, length, slice_index, refl, sym, subst}
use Rattle.gix_glob.specs.Bytes.{HasByte, slash}
use Rattle.glob_trees.proofs.lemmas.Topmost.{all_passed, passed_byte, passed_slash, topmost_here}
use Rattle.glob_lint.specs.Seen.{seen}
use Rattle.glob_lint.proofs.trying.decide_from.Goals as goal
use Rattle.glob_lint.proofs.trying.decide_from.Goals.{After-folder_before}

-- the byte at the place is a slash
slash_here : (c : After-folder_before) → HasByte c.args.path.now.bytes c.places.place slash
slash_here c = record {
  inside = subst (λ l. c.places.place < length l) c.bytes-bytes.ensures c.places-test.true;
  is = subst (λ l. slice_index l c.places.place ≡ slash) c.bytes-bytes.ensures c.if-bytes-place-ne47.false;
}

pub returns-in-Some-clause-decides : goal.returns-in-Some-clause-decides
returns-in-Some-clause-decides c =
    let lists = seen c.args.asked.now.lists.now in
    let here = slash_here (goal.at.returns-in-Some-clause-decides c).After-folder_before in
    let top = topmost_here lists c.args.asked.now.rules c.args.path.now.bytes c.places.place c.places.invariant c.in-Some.by here (rw c.folder_before.ensures at c.in-Some.ensures.exact) in
    inl (c.in-Some.by, top.0, refl)

pub places-preserved : goal.places-preserved
places-preserved c =
    passed_slash (seen c.args.asked.now.lists.now) c.args.asked.now.rules c.args.path.now.bytes c.places.place c.places.invariant
    (rw c.in_default.is at (rw c.folder_before.ensures at c.ignoring.ensures.exact))

pub places-preserved-then-bytes-place-ne47 : goal.places-preserved-then-bytes-place-ne47
places-preserved-then-bytes-place-ne47 c =
    passed_byte (seen c.args.asked.now.lists.now) c.args.asked.now.rules c.args.path.now.bytes c.places.place c.places.invariant
    (λ here. c.if-bytes-place-ne47.true (subst (λ l. slice_index l c.places.place ≡ slash) (sym c.bytes-bytes.ensures) here.is))

pub returns-clause-decides : goal.returns-clause-decides
returns-clause-decides c =
    let none = all_passed (seen c.args.asked.now.lists.now) c.args.asked.now.rules c.args.path.now.bytes c.places.place c.places.invariant (let past = c.places-test.false in rw c.bytes-bytes.ensures at past) in
    inr (none, c.decide.ensures.exact tt)
