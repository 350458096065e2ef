-- The bytes so far agree.
use Rattle.gix_glob.specs.Ways.{way_of}
use Rattle.glob_lists.specs.Rules.{path_mode}
use Rattle.glob_patterns.specs.Private.Fronts.{AgreeFrom}
use Rattle.glob_lists.proofs.list.answering.agree_from.Given as goal

abbrev pub invariant-bytes : goal.invariant-bytes
invariant-bytes l = AgreeFrom (way_of path_mode) l.text l.value 1 l.fn.at l.i
