-- The place of the last part is taken along by the laws of stripping.
use Rattle.glob_lists.proofs.lemmas.Deciding.StrippingLemmas.{IsKept-rest, IsPlaced-basename}
use Rattle.glob_lists.proofs.path.RepositoryPath.under_with_counts.Goals as goal

pub strip_base_with_counts-requires : goal.strip_base_with_counts-requires
strip_base_with_counts-requires g c =
    IsPlaced-basename c.basename_starts_lie_past_the_base.ensures _ _ _ _ c.requires c.self.invariant.basename

pub invariant_of-result : goal.invariant_of-result
invariant_of-result g c =
    IsKept-rest c.stripped_basename_starts_are_the_rests_own.ensures _ _ _ _ _ _ c.requires c.self.invariant c.in_ok-bytes.ensures.rest.0 c.in_ok-bytes.ensures.rest.1
