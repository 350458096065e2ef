-- The slashes are gone through from the front: each folder is entered, as far as the first one that is ignored.
use Rattle.std.proofs.Common.{◌≡◌, ◌<◌, ◌+◌, ℕ, inl, inr, ⊎_elim, refl, sym, subst, length, map, take, take_all, slice_index, arith}
use Rattle.std.specs.List.{Contains}
use Rattle.gix_glob.specs.Bytes.{HasByte, slash}
use Rattle.gix_glob.specs.EntryLists.{entry_list_of}
use Rattle.glob_trees.specs.declared.entered.Entered.{Entered}
use Rattle.glob_trees.specs.Private.Entered.{IsFresh, IsUnderWay, KeepsOn, own_lists}
use Rattle.glob_trees.specs.Trees.{Ignores}
use Rattle.glob_trees.specs.Ways.{GivesOnly, IsAskedFor, folders_to}
use Rattle.glob_trees.proofs.lemmas.Asking.{asked_above, asked_to_path, gives_allowed, gives_further, gives_no_more, gives_same_way, gives_top}
use Rattle.glob_trees.proofs.lemmas.Folders.{above_slash}
use Rattle.glob_trees.proofs.lemmas.Known.{under_byte}
use Rattle.glob_trees.proofs.lemmas.Stepping.{arrived, keeps_on_further, passing_way, stopped, way_grows}
use Rattle.glob_trees.proofs.entered.Entered.find_elsewhere.Given.{Over}
use Rattle.glob_trees.proofs.entered.Entered.find_elsewhere.Goals as goal
use Rattle.glob_trees.proofs.entered.Entered.find_elsewhere.Goals.{After-decide_prepared, After-enter_known, After-folder_before-folder, In-Some}

pub bytes-preserved-then-bytes-place-ne47 : goal.bytes-preserved-then-bytes-place-ne47
bytes-preserved-then-bytes-place-ne47 g c =
    let path = c.args.path.now.bytes in
    let gave = g.S.FolderLists.gave in
    let inside = subst (λ l. c.bytes.place < length l) c.bytes-bytes.ensures c.bytes-test.true in
    let other : ¬ (slice_index path c.bytes.place ≡ slash) = λ here. c.if-bytes-place-ne47.true (subst (λ l. slice_index l c.bytes.place ≡ slash) (sym c.bytes-bytes.ensures) here) in (
      under_byte _ _ _ _ _ _ _ _ _ _ path c.bytes.place inside other c.bytes.invariant.0,
      c.bytes.invariant.1,
      gives_same_way (gave c.args.self.now.source) (gave c.bytes.self.source) (take c.bytes.place path) (take (c.bytes.place + 1) path) (passing_way path c.bytes.place inside other) c.bytes.invariant.2,
    )

-- the byte at the place is a slash
slash_here : (g : Over) (c : After-enter_known g) → HasByte c.args.path.now.bytes c.bytes.place slash
slash_here g c = record {
  inside = subst (λ l. c.bytes.place < length l) c.bytes-bytes.ensures c.bytes-test.true;
  is = subst (λ l. slice_index l c.bytes.place ≡ slash) c.bytes-bytes.ensures c.if-bytes-place-ne47.false;
}

-- what stays, whether the folder was known or not
keeps : (g : Over) (c : After-enter_known g) → KeepsOn (g.S.FolderLists.shows g.T.Pattern.Seen) c.args.self.now c.enter_known.new.self
keeps g c = keeps_on_further (g.S.FolderLists.shows g.T.Pattern.Seen) c.args.self.now c.bytes.self c.enter_known.new.self c.bytes.invariant.1 c.enter_known.ensures.keeps

gives : (g : Over) (c : After-enter_known g) → GivesOnly (Contains (folders_to (take c.bytes.place c.args.path.now.bytes))) (g.S.FolderLists.gave c.args.self.now.source) (g.S.FolderLists.gave c.enter_known.new.self.source)
gives g c =
    let gave = g.S.FolderLists.gave in
    gives_no_more (gave c.args.self.now.source) (gave c.enter_known.new.self.source) (gave c.bytes.self.source) (Contains (folders_to (take c.bytes.place c.args.path.now.bytes))) c.bytes.invariant.2 c.enter_known.ensures.asks

-- the folder wasn't known
under : (g : Over) (c : After-folder_before-folder g) → IsUnderWay (g.S.FolderLists.shows g.T.Pattern.Seen) g.S.FolderLists.gave g.T.Pattern.seen c.enter_known.new.self (take c.bytes.place c.args.path.now.bytes)
under g c =
    subst (λ b. IsUnderWay (g.S.FolderLists.shows g.T.Pattern.Seen) g.S.FolderLists.gave g.T.Pattern.seen c.enter_known.new.self (take c.bytes.place b)) c.bytes-bytes.ensures (c.in_ok-is_known.ensures.under c.if-is_known.false)

-- the folder is ignored
ignored : (g : Over) (c : In-Some g) → Ignores (map (entry_list_of g.T.Pattern.seen) c.enter_known.new.self.lists.items) c.enter_known.new.self.rules (take c.bytes.place c.args.path.now.bytes) c.in-Some.pair
ignored g c = rw c.as_slice.ensures.value at (rw c.folder_before-folder.ensures at (c.in-Some.ensures.exact tt))

-- a folder was asked for on the way to a folder whose slash stands at the place
asked : (g : Over) (c : After-enter_known g) (self : Entered g.row.T.Denot g.row.S.Denot g.row.T-Value.Denot g.row.S-Fault.Denot) → GivesOnly (Contains (folders_to (take c.bytes.place c.args.path.now.bytes))) (g.S.FolderLists.gave c.args.self.now.source) (g.S.FolderLists.gave self.source)
    → IsUnderWay (g.S.FolderLists.shows g.T.Pattern.Seen) g.S.FolderLists.gave g.T.Pattern.seen self (take c.bytes.place c.args.path.now.bytes)
    → GivesOnly (IsAskedFor (map (entry_list_of g.T.Pattern.seen) self.lists.items) self.rules c.args.path.now.bytes) (g.S.FolderLists.gave c.args.self.now.source) (g.S.FolderLists.gave self.source)
asked g c self given under =
    let gave = g.S.FolderLists.gave in
    let path = c.args.path.now.bytes in
    let front = take c.bytes.place path in
    let lists = map (entry_list_of g.T.Pattern.seen) self.lists.items in
    gives_allowed (gave c.args.self.now.source) (gave self.source) (Contains (folders_to front)) (IsAskedFor lists self.rules path)
    (λ folder h. asked_above (g.S.FolderLists.shows g.T.Pattern.Seen self.source) self.front_count lists self.rules path (own_lists under.facts self.way.items) front folder under.stands (above_slash path c.bytes.place (slash_here g c)) h)
    given

pub returns-in-Some-clause-decides : goal.returns-in-Some-clause-decides
returns-in-Some-clause-decides g c =
    let at = goal.at.returns-in-Some-clause-decides g c in
    inl (
      c.in-Some.pair,
      record {
        folder = take c.bytes.place c.args.path.now.bytes;
        above = above_slash c.args.path.now.bytes c.bytes.place (slash_here g at.After-enter_known);
        ignored = ignored g at.In-Some;
        topmost = let u = under g at.After-folder_before-folder in u.stands.none;
      },
      refl,
    )

pub returns-in-Some-clause-way : goal.returns-in-Some-clause-way
returns-in-Some-clause-way g c =
    let at = goal.at.returns-in-Some-clause-way g c in
    let u = under g at.After-folder_before-folder in
    let self = c.enter_known.new.self in
    stopped (g.S.FolderLists.shows g.T.Pattern.Seen self.source) self.front_count (map (entry_list_of g.T.Pattern.seen) self.lists.items) self.rules
    c.args.path.now.bytes (own_lists u.facts self.way.items) (take c.bytes.place c.args.path.now.bytes) c.in-Some.pair u.stands (above_slash c.args.path.now.bytes c.bytes.place (slash_here g at.After-enter_known)) (ignored g at.In-Some)

pub returns-in-Some-clause-ready : goal.returns-in-Some-clause-ready
returns-in-Some-clause-ready g c = inr (take c.bytes.place c.args.path.now.bytes, under g (goal.at.returns-in-Some-clause-ready g c).After-folder_before-folder)

pub returns-in-Some-clause-keeps : goal.returns-in-Some-clause-keeps
returns-in-Some-clause-keeps g c = keeps g (goal.at.returns-in-Some-clause-keeps g c).After-enter_known

pub returns-in-Some-clause-asks : goal.returns-in-Some-clause-asks
returns-in-Some-clause-asks g c =
    let at = goal.at.returns-in-Some-clause-asks g c in
    asked g at.After-enter_known c.enter_known.new.self (gives g at.After-enter_known) (under g at.After-folder_before-folder)

pub enter-requires-clause-kept : goal.enter-requires-clause-kept
enter-requires-clause-kept g c =
    let self = c.enter_known.new.self in
    let kept = rw c.as_slice.ensures.value at (rw c.in_default.is at (rw c.folder_before-folder.ensures at (c.ignoring.ensures.exact tt))) in
    subst (λ l. (pair : ℕ × ℕ) → ¬ Ignores (map (entry_list_of g.T.Pattern.seen) self.lists.items) self.rules (take c.bytes.place l) pair) (sym c.bytes-bytes.ensures) kept

pub enter-requires-clause-under : goal.enter-requires-clause-under
enter-requires-clause-under g c = c.in_ok-is_known.ensures.under c.if-is_known.false

pub enter-requires-clause-none : goal.enter-requires-clause-none
enter-requires-clause-none g c = c.in_ok-is_known.ensures.none c.if-is_known.false

-- the whole path was gone through
whole : (g : Over) (c : After-decide_prepared g) → take c.bytes.place c.args.path.now.bytes ≡ c.args.path.now.bytes
whole g c = take_all c.bytes.place c.args.path.now.bytes (let past = c.bytes-test.false in let past_all = rw c.bytes-bytes.ensures at past in omega arith)

there : (g : Over) (c : After-decide_prepared g) → IsUnderWay (g.S.FolderLists.shows g.T.Pattern.Seen) g.S.FolderLists.gave g.T.Pattern.seen c.bytes.self c.args.path.now.bytes
there g c = subst (IsUnderWay (g.S.FolderLists.shows g.T.Pattern.Seen) g.S.FolderLists.gave g.T.Pattern.seen c.bytes.self) (whole g c) c.bytes.invariant.0

pub returns-clause-decides : goal.returns-clause-decides
returns-clause-decides g c =
    let all = there g c in
    inr (all.stands.none, rw c.deref.ensures.value at c.decide_prepared.ensures)

pub returns-clause-way : goal.returns-clause-way
returns-clause-way g c =
    let all = there g c in
    arrived (g.S.FolderLists.shows g.T.Pattern.Seen c.bytes.self.source) c.bytes.self.front_count (map (entry_list_of g.T.Pattern.seen) c.bytes.self.lists.items) c.bytes.self.rules
    c.args.path.now.bytes (own_lists all.facts c.bytes.self.way.items) all.stands

pub returns-clause-ready : goal.returns-clause-ready
returns-clause-ready g c = inr (c.args.path.now.bytes, there g c)

pub returns-clause-asks : goal.returns-clause-asks
returns-clause-asks g c =
    let gave = g.S.FolderLists.gave in
    let path = c.args.path.now.bytes in
    let lists = map (entry_list_of g.T.Pattern.seen) c.bytes.self.lists.items in
    let all = there g c in
    gives_allowed (gave c.args.self.now.source) (gave c.bytes.self.source) (Contains (folders_to path)) (IsAskedFor lists c.bytes.self.rules path)
    (λ folder h. asked_to_path (g.S.FolderLists.shows g.T.Pattern.Seen c.bytes.self.source) c.bytes.self.front_count lists c.bytes.self.rules path (own_lists all.facts c.bytes.self.way.items) folder all.stands h)
    (subst (λ front. GivesOnly (Contains (folders_to front)) (gave c.args.self.now.source) (gave c.bytes.self.source)) (whole g c) c.bytes.invariant.2)

pub bytes-init : goal.bytes-init
bytes-init g c =
    let shows = g.S.FolderLists.shows g.T.Pattern.Seen in
    let gave = g.S.FolderLists.gave in
    let path = c.args.path.now.bytes in
    let front = take c.leave_to-start.result path in
    let first = keeps_on_further shows c.args.self.now c.keep_to_bound.new.self c.enter_top.new.self c.keep_to_bound.ensures.keeps c.enter_top.ensures.keeps in
    let top = gives_further (gave c.args.self.now.source) (gave c.enter_top.new.self.source) (gave c.keep_to_bound.new.self.source) (λ _. ⊥) c.keep_to_bound.ensures.asks (λ folder. folder ≡ _) (λ folder never. absurd never) c.enter_top.ensures.asks in (
      subst (λ b. IsUnderWay shows gave g.T.Pattern.seen c.leave_to-start.new.self (take c.leave_to-start.result b)) c.bytes-bytes.ensures c.leave_to-start.ensures.under,
      keeps_on_further shows c.args.self.now c.enter_top.new.self c.leave_to-start.new.self first c.leave_to-start.ensures.keeps,
      subst (λ s. GivesOnly (Contains (folders_to front)) (gave c.args.self.now.source) (gave s)) (sym c.leave_to-start.ensures.source)
          (gives_top (gave c.args.self.now.source) (gave c.enter_top.new.self.source) front top),
    )

pub bytes-preserved-then-is_known : goal.bytes-preserved-then-is_known
bytes-preserved-then-is_known g c =
    let gave = g.S.FolderLists.gave in
    let at = (goal.at.bytes-preserved-then-is_known g c).After-enter_known in
    let path = c.args.path.now.bytes in
    let front = take c.bytes.place path in
    let longer = take (c.bytes.place + 1) path in
    let here = slash_here g at in (
      subst (λ b. IsUnderWay (g.S.FolderLists.shows g.T.Pattern.Seen) gave g.T.Pattern.seen c.enter_known.new.self (take (c.bytes.place + 1) b)) c.bytes-bytes.ensures (c.in_ok-is_known.ensures.entered c.if-is_known.true),
      keeps g at,
      gives_allowed (gave c.args.self.now.source) (gave c.enter_known.new.self.source) (Contains (folders_to front)) (Contains (folders_to longer)) (way_grows path c.bytes.place here.inside) (gives g at),
    )

pub bytes-preserved : goal.bytes-preserved
bytes-preserved g c =
    let shows = g.S.FolderLists.shows g.T.Pattern.Seen in
    let gave = g.S.FolderLists.gave in
    let at = (goal.at.bytes-preserved g c).After-enter_known in
    let path = c.args.path.now.bytes in
    let front = take c.bytes.place path in
    let longer = take (c.bytes.place + 1) path in
    let here = slash_here g at in (
      subst (λ b. IsUnderWay shows gave g.T.Pattern.seen c.enter.new.self (take (c.bytes.place + 1) b)) c.bytes-bytes.ensures c.in_ok-enter.ensures.entered,
      keeps_on_further shows c.args.self.now c.enter_known.new.self c.enter.new.self (keeps g at) c.enter.ensures.keeps,
      gives_further (gave c.args.self.now.source) (gave c.enter.new.self.source) (gave c.enter_known.new.self.source) (Contains (folders_to front)) (gives g at) (Contains (folders_to longer)) (way_grows path c.bytes.place here.inside)
          (subst (λ b. GivesOnly (Contains (folders_to (take (c.bytes.place + 1) b))) (gave c.enter_known.new.self.source) (gave c.enter.new.self.source)) c.bytes-bytes.ensures c.in_ok-enter.ensures.asks),
    )

-- where entering failed, all is forgotten, or the folders above are entered as before
pub returns-in_err-enter-clause-ready : goal.returns-in_err-enter-clause-ready
returns-in_err-enter-clause-ready g c =
    let shows = g.S.FolderLists.shows g.T.Pattern.Seen in
    let self = c.enter.new.self in
    let front = take c.bytes.place c.bytes-bytes.result.now in
    ⊎_elim
    (λ (fresh : IsFresh shows g.S.FolderLists.gave g.T.Pattern.seen self). inl fresh)
    (λ (under : IsUnderWay shows g.S.FolderLists.gave g.T.Pattern.seen self front). inr (front, under))
    c.in_err-enter.ensures.ready

pub returns-in_err-enter-clause-asks : goal.returns-in_err-enter-clause-asks
returns-in_err-enter-clause-asks g c = λ folder given.
    let shows = g.S.FolderLists.shows g.T.Pattern.Seen in
    let gave = g.S.FolderLists.gave in
    let at = (goal.at.returns-in_err-enter-clause-asks g c).After-enter_known in
    let self = c.enter.new.self in
    ⊎_elim
    (λ (fresh : IsFresh shows gave g.T.Pattern.seen self). absurd (fresh.none_given folder given))
    (λ (under : IsUnderWay shows gave g.T.Pattern.seen self (take c.bytes.place c.bytes-bytes.result.now)).
    asked g at self
    (gives_no_more (gave c.args.self.now.source) (gave self.source) (gave c.enter_known.new.self.source) (Contains (folders_to (take c.bytes.place c.args.path.now.bytes))) (gives g at) c.in_err-enter.ensures.fails)
    (subst (λ b. IsUnderWay shows gave g.T.Pattern.seen self (take c.bytes.place b)) c.bytes-bytes.ensures under)
    folder given)
    c.in_err-enter.ensures.ready
