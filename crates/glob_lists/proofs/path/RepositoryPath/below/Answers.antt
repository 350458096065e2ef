-- The place of the last part is taken along by the laws of stripping.
use Rattle.std.proofs.Common.{Some}
use Rattle.glob_lists.proofs.lemmas.Deciding.StrippingLemmas.{ForSome-folder, IsKept-rest, IsPlaced-basename}
use Rattle.glob_lists.proofs.path.RepositoryPath.below.Goals as goal

pub strip_base_handle_recompute_basename_pos-requires :
    goal.strip_base_handle_recompute_basename_pos-requires
strip_base_handle_recompute_basename_pos-requires c =
    IsPlaced-basename c.basename_starts_lie_past_the_base.ensures _ _ _ _ (ForSome-folder _ c.requires) c.self.invariant.basename

pub invariant_of-result : goal.invariant_of-result
invariant_of-result c =
    IsKept-rest c.stripped_basename_starts_are_the_rests_own.ensures c.args.case (Some c.args.base.now) c.self.inside.bytes.now c.in-Some.bytes.now c.self.inside.basename_start c.in-Some.basename_start
    (ForSome-folder _ c.requires) c.self.invariant c.in-Some.ensures.0 c.in-Some.ensures.1

pub returns-in_default : goal.returns-in_default
returns-in_default c = rw (← c.self.view_is) (rw c.in_default.is at c.strip_base_handle_recompute_basename_pos.ensures)
