use Rattle.std.proofs.Common.{◌≡◌}
use Rattle.glob_attributes.specs.Private.Readings.{assignments_of}
use Rattle.glob_attributes.specs.Views.{seen_assignments}
use Rattle.glob_attributes.specs.Words.{words_of}
use Rattle.glob_attributes.proofs.lemmas.AssignmentLemmas.{assigned, before}
use Rattle.glob_attributes.proofs.line.read_assignments.Given as goal

-- what the words so far assign, with what the others do, is what all do
abbrev pub invariant-loop-word : goal.invariant-loop-word
invariant-loop-word l = before (seen_assignments l.assignments) (assigned (words_of l.word-iterator.rest.now)) ≡ assignments_of l.text
