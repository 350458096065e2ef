use Rattle.std.proofs.Common.{◌≡◌}
use Rattle.std.specs.Prelude.{is_some}
use Rattle.glob_attributes.specs.Private.Readings.{assignments_of}
use Rattle.glob_attributes.specs.Words.{words_of}
use Rattle.glob_attributes.proofs.lemmas.AssignmentLemmas.{assigned}
use Rattle.glob_attributes.proofs.borrowed.line.has_names.Given as goal

-- the names so far are valid, so those of the other words tell
abbrev pub invariant-loop-word : goal.invariant-loop-word
invariant-loop-word l = is_some (assigned (words_of l.word-iterator.rest.now)) ≡ is_some (assignments_of l.text)
