use Rattle.std.proofs.Common.{◌<◌, ◌≤◌, length, map}
use Rattle.std.specs.Prelude.{All}
use Rattle.glob_lists.specs.Deciding.{AnswersAt}
use Rattle.glob_lists.specs.Prepared.{AreAsked, IsLawfulEntry, list_without_base}
use Rattle.glob_lists.specs.Private.Lists.Chains.{AreChained}
use Rattle.glob_lists.specs.Private.Lists.Walking.{IsInside, IsWalkOver}
use Rattle.glob_lists.proofs.lemmas.Deciding.LastNumbers.{NoneFrom}
use Rattle.glob_lists.proofs.prepared.last_match_with.Given as goal

-- no pattern from here on answers, where the rows are theirs
abbrev pub invariant-candidates : goal.invariant-candidates
invariant-candidates g l = record {
  inside : IsInside (length l.rows) l.walk;
  other : 1 < length l.heads → l.walk.other.0 ≤ l.walk.passed_from;
  walk : (1 < length l.heads → AreChained l.rows l.heads) → IsWalkOver l.rows l.heads l.probe l.walk;
  none : All (λ pattern. IsLawfulEntry (g.P.Viewed.seen pattern)) l.patterns → AreAsked (map g.P.Viewed.seen l.patterns) l.rows → (1 < length l.heads → AreChained l.rows l.heads)
      → NoneFrom (AnswersAt (list_without_base (map g.P.Viewed.seen l.patterns)) l.path.bytes l.path.is_dir l.rules) l.walk.passed_from;
}

abbrev pub decreases-candidates : goal.decreases-candidates
decreases-candidates g l = l.walk.passed_from
