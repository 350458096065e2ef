-- The folder wasn't known, so its list was never given.
use Rattle.std.proofs.Common.{rules, ◌≡◌, ◌+◌, [], inr, ⊎_elim, Ok, OnOk, take, ap, sym, subst}
use Rattle.std.specs.List.{Contains}
use Rattle.glob_trees.specs.Private.Entered.{AreUnderWay, gave_but}
use Rattle.glob_trees.specs.Ways.{GivesOnly, folders_to}
use Rattle.glob_trees.proofs.lemmas.Asking.{gives_allowed}
use Rattle.glob_trees.proofs.lemmas.Known.{once, under_goes_on, under_slash}
use Rattle.glob_trees.proofs.lemmas.OnWay.{on_way_to_own}
use Rattle.glob_trees.proofs.lemmas.Stepping.{keeps_on_further, on_err, slash_next, some_front}
use Rattle.glob_trees.proofs.entered.Entered.enter.Goals as goal

pub returns-then-place-eq0-clause-entered : goal.returns-then-place-eq0-clause-entered
returns-then-place-eq0-clause-entered g c =
    let front = take c.args.place c.args.path.now in
    let none : front ≡ [] = ap (λ k. take k c.args.path.now) c.if-place-eq0.true in
    subst (AreUnderWay _ _ _ _ _ _ _ _ _ _) (sym (slash_next c.args.path.now c.args.place c.requires.slash)) (under_slash _ _ _ _ _ _ _ _ _ _ front none c.requires.under c.requires.kept)

pub list_of-requires : goal.list_of-requires
list_of-requires g c =
    let front = take c.args.place c.args.path.now in
    let under = c.requires.under in
    let deep = some_front c.args.path.now c.args.place c.requires.slash c.if-place-eq0.false in
    record { once = once _ _ _ _ _ _ _ _ _ _ front deep under (sym (c.requires.none c.if-place-eq0.false under.ends.above under.ends.last under.ends.joined)) }

pub returns-in_err-list-clause-ready : goal.returns-in_err-list-clause-ready
returns-in_err-list-clause-ready g c =
    let front = take c.args.place c.args.path.now in
    let shows = g.S.FolderLists.shows g.T.Pattern.Seen in
    let gave = g.S.FolderLists.gave in
    let old = c.args.self.now.source in
    let new = c.list_of.new.self in
    let fails : GivesOnly (λ _. ⊥) (gave old) (gave new) = search rules in
    on_err c.from_residual.result _ (inr
    (under_goes_on _ _ _ _ _ _ _ _ _ _ (shows new) (gave new) c.list_of.ensures.goes_on
    (λ folder given. ⊎_elim (λ (before : gave old folder). before) (λ (never : ⊥). absurd never) (fails folder given))
    front c.requires.under))

pub put_new-requires-clause-under : goal.put_new-requires-clause-under
put_new-requires-clause-under g c =
    let front = take c.args.place c.args.path.now in
    let shows = g.S.FolderLists.shows g.T.Pattern.Seen in
    let gave = g.S.FolderLists.gave in
    let old = c.args.self.now.source in
    let new = c.list_of.new.self in
    let got : c.list_of.result ≡ Ok c.in_ok-list.list = search rules in
    let gives = subst (λ r. OnOk r (GivesOnly (λ other. other ≡ front) (gave old) (gave new))) got c.list_of.ensures.gives in
    under_goes_on _ _ _ _ _ _ _ _ _ _ (shows new) (gave_but gave front new) c.list_of.ensures.goes_on
    (λ folder given. ⊎_elim (λ (before : gave old folder). before) (λ (same : folder ≡ front). absurd (given.1 same)) (gives folder given.0))
    front c.requires.under

pub put_new-requires-clause-none : goal.put_new-requires-clause-none
put_new-requires-clause-none g c = c.requires.none c.if-place-eq0.false

pub returns-in-Ok-clause-keeps : goal.returns-in-Ok-clause-keeps
returns-in-Ok-clause-keeps g c =
    let put = c.put_new.ensures.keeps in
    record { front_count = put.front_count; rules = put.rules; fronts = put.fronts; goes_on = λ folder list shown. put.goes_on folder list (c.list_of.ensures.goes_on folder list shown) }

pub returns-in-Ok-clause-asks : goal.returns-in-Ok-clause-asks
returns-in-Ok-clause-asks g c =
    let gave = g.S.FolderLists.gave in
    let front = take c.args.place c.args.path.now in
    let longer = take (c.args.place + 1) c.args.path.now in
    let deep = some_front c.args.path.now c.args.place c.requires.slash c.if-place-eq0.false in
    let got : c.list_of.result ≡ Ok c.in_ok-list.list = search rules in
    let gives = subst (λ r. OnOk r (GivesOnly (λ other. other ≡ front) (gave c.args.self.now.source) (gave c.list_of.new.self))) got c.list_of.ensures.gives in
    let here = subst (λ f. Contains (folders_to f) front) (sym (slash_next c.args.path.now c.args.place c.requires.slash)) (on_way_to_own front deep) in
    subst (λ s. GivesOnly (Contains (folders_to longer)) (gave c.args.self.now.source) (gave s)) (sym c.put_new.ensures.source)
    (gives_allowed (gave c.args.self.now.source) (gave c.list_of.new.self) (λ given. given ≡ front) (Contains (folders_to longer)) (λ folder same. subst (Contains (folders_to longer)) (sym same) here) gives)

pub returns-in-Err-clause-keeps : goal.returns-in-Err-clause-keeps
returns-in-Err-clause-keeps g c =
    let further = keeps_on_further (g.S.FolderLists.shows g.T.Pattern.Seen) _ _ _ c.put_new.ensures.keeps c.forget.ensures.keeps in
    record { front_count = further.front_count; rules = further.rules; fronts = further.fronts; goes_on = λ folder list shown. further.goes_on folder list (c.list_of.ensures.goes_on folder list shown) }
