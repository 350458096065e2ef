-- The slashes are gone through from the front.
use Rattle.std.proofs.Common.{◌≡◌, ◌<◌, inl, inr, [], ◌∷◌, Some, length, slice_index, take, refl, sym, subst, ◌∙◌}
use Rattle.std.proofs.lemmas.Bool.{false≢true}
use Rattle.std.proofs.lemmas.Result.{IfOk-weaker}
use Rattle.gix_glob.specs.Bytes.{HasByte, slash}
use Rattle.glob_trees.proofs.lemmas.Topmost.{all_passed, passed_byte, passed_slash, topmost_here}
use Rattle.glob_lint.specs.Private.Asking.{IsIgnored}
use Rattle.glob_lint.specs.Seen.{seen}
use Rattle.glob_lint.specs.Without.{lists_but}
use Rattle.glob_lint.proofs.lemmas.LastLeft.{ignored_by, none_ignores}
use Rattle.glob_lint.proofs.trying.is_ignored_without.Goals as goal
use Rattle.glob_lint.proofs.trying.is_ignored_without.Goals.{After-folder_before-folder}

-- the byte at the place is a slash
slash_here : (c : After-folder_before-folder) → HasByte c.args.path.now.bytes c.places.place slash
slash_here c = record {
  inside = subst (λ l. c.places.place < length l) c.bytes-bytes.ensures c.places-test.true;
  is = subst (λ l. slice_index l c.places.place ≡ slash) c.bytes-bytes.ensures c.if-bytes-place-ne47.false;
}

pub returns-then-is_ignored : goal.returns-then-is_ignored
returns-then-is_ignored c =
    let but = lists_but (c.args.line.now.pair ∷ []) 0 (seen c.args.line.now.asked.now.lists.now) in
    let rules = c.args.line.now.asked.now.rules in
    let path = c.args.path.now in
    let told = rw c.folder_before-folder.ensures at c.in_ok-is_ignored.ensures in
    let by = ignored_by but rules (take c.places.place path.bytes) told.0 told.1 (told.2.0 c.if-is_ignored.true) in
    let here = slash_here (goal.at.returns-then-is_ignored c).After-folder_before-folder in
    let top = topmost_here but rules path.bytes c.places.place c.places.invariant by.0 here by.1 in
    (Some by.0, record { decides = inl (by.0, top.0, refl); sign = (λ h. by.1.1, λ h. refl) })

pub places-preserved : goal.places-preserved
places-preserved c =
    let but = lists_but (c.args.line.now.pair ∷ []) 0 (seen c.args.line.now.asked.now.lists.now) in
    let rules = c.args.line.now.asked.now.rules in
    let path = c.args.path.now in
    let told = rw c.folder_before-folder.ensures at c.in_ok-is_ignored.ensures in
    passed_slash but rules path.bytes c.places.place c.places.invariant
    (none_ignores but rules (take c.places.place path.bytes) told.0 told.1 (λ h. false≢true (sym c.if-is_ignored.false ∙ told.2.1 h)))

pub places-preserved-then-bytes-place-ne47 : goal.places-preserved-then-bytes-place-ne47
places-preserved-then-bytes-place-ne47 c =
    let but = lists_but (c.args.line.now.pair ∷ []) 0 (seen c.args.line.now.asked.now.lists.now) in
    passed_byte but c.args.line.now.asked.now.rules c.args.path.now.bytes c.places.place c.places.invariant
    (λ here. c.if-bytes-place-ne47.true (subst (λ l. slice_index l c.places.place ≡ slash) (sym c.bytes-bytes.ensures) here.is))

pub returns : goal.returns
returns c =
    let but = lists_but (c.args.line.now.pair ∷ []) 0 (seen c.args.line.now.asked.now.lists.now) in
    let rules = c.args.line.now.asked.now.rules in
    let path = c.args.path.now in
    let none = all_passed but rules path.bytes c.places.place c.places.invariant (let past = c.places-test.false in rw c.bytes-bytes.ensures at past) in
    IfOk-weaker c.ignores_without-2.result _ (IsIgnored but rules path) (λ ignored told. (told.0, record { decides = inr (none, told.1); sign = told.2 })) c.ignores_without-2.ensures
