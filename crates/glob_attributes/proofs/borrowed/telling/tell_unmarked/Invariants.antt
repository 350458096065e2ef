use Rattle.std.proofs.Common.{◌≡◌, ◌≤◌, ◌+◌, ◌*◌, length, map, reverse}
use Rattle.glob_attributes.specs.Borrowed.{definition_of, row_of}
use Rattle.glob_attributes.specs.Private.Filling.{unmarked}
use Rattle.glob_attributes.specs.Private.Telling.{unmarked_count}
use Rattle.glob_attributes.proofs.lemmas.TellingLemmas.{IsToldUpTo}
use Rattle.glob_attributes.proofs.borrowed.telling.tell_unmarked.Given as goal

-- what was told doesn't name the attribute, and each text that was added has a mark
abbrev pub invariant-left : goal.invariant-left
invariant-left l = record {
  told : IsToldUpTo (map definition_of l.macros) (reverse (row_of l.fn.texts l.fn.count)) l.marks (reverse (row_of l.texts l.left)) l.name;
  inside : l.left ≤ length l.texts;
  room : l.left + unmarked_count l.marks ≤ l.fn.count + length l.macros;
  long : length l.texts ≡ length l.fn.texts;
}

-- each word that is told is one less, and a text more costs as much as its mark
abbrev pub decreases-left : goal.decreases-left
decreases-left l = 2 * (length (row_of l.texts l.left) + unmarked (map definition_of l.macros) l.marks) + l.left
