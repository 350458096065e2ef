-- What is read so far, and what pays its looks.
use Rattle.std.proofs.Common.{◌≡◌, ◌-◌, length}
use Rattle.glob_matcher.specs.Steps.{Counts}
use Rattle.glob_matcher.specs.Private.Looks.{IsPartPaid}
use Rattle.glob_matcher.specs.Private.Reader.{IsPartRead}
use Rattle.glob_matcher.proofs.wildmatch.engine.Engine.rest_of_set.Given as goal

abbrev pub invariant-items : goal.invariant-items
invariant-items g l = record {
  read : IsPartRead g.M.Texts.way g.M.Texts.pattern l.byte l.part;
  place : l.part.place ≡ l.fn.first.place;
  paid : (before : Counts) → IsPartPaid 0 before l.fn.self l.fn.first → IsPartPaid 0 before l.self l.part;
}

abbrev pub decreases-items : goal.decreases-items
decreases-items g l = length g.M.Texts.pattern - l.part.cursor.place
