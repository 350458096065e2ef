use Rattle.std.proofs.Common.{◌≡◌, ◌<◌, length, false, refl, sym, subst, arith}
use Rattle.std.proofs.lemmas.Bool.{false≢true}
use Rattle.tree_files.specs.Closed.{HasShut, here, is_shut}
use Rattle.tree_files.proofs.lemmas.ClosedLemmas.{empty_by, none_at_top, shut_above, shut_below, some_by, some_shorter}
use Rattle.tree_files.proofs.closed_folders.ClosedFolders.has_shut.Goals as goal

pub returns-then-is_empty : goal.returns-then-is_empty
returns-then-is_empty c =
    let top = empty_by c.fronts.front.now c.if-is_empty.ensures in
    let has = subst (HasShut c.args.self.now) top in (
      (λ is. absurd (false≢true is)),
      (λ shut. absurd (none_at_top c.args.self.now (subst (λ front. is_shut c.args.self.now front ≡ false) top (sym c.fronts-test.ensures)) (has (c.fronts.invariant.1 shut)))),
    )

pub fronts-smaller : goal.fronts-smaller
fronts-smaller c = subst (λ folder. length folder < length c.fronts.front.now) (sym c.folder_of-front.ensures) (omega (arith, some_shorter c.fronts.front.now (some_by c.fronts.front.now c.if-is_empty.ensures)))

pub fronts-preserved : goal.fronts-preserved
fronts-preserved c = (
  (λ shut. c.fronts.invariant.0 (shut_above c.args.self.now c.fronts.front.now (subst (HasShut c.args.self.now) c.folder_of-front.ensures shut))),
  (λ shut. subst (HasShut c.args.self.now) (sym c.folder_of-front.ensures) (shut_below c.args.self.now c.fronts.front.now (sym c.fronts-test.ensures) (c.fronts.invariant.1 shut))),
)

pub returns : goal.returns
returns c = (
  (λ _. c.fronts.invariant.0 (c.fronts.front.now, here, sym c.fronts-test.ensures)),
  (λ _. refl),
)
