use Rattle.std.proofs.Common.{◌≡◌, ◌≤◌, length, take}
use Rattle.std.specs.Prelude.{All}
use Rattle.glob_attributes.specs.Borrowed.{row_of}
use Rattle.gix_glob_c.specs.Attributes.{IsLawfulAttributes, line_count}
use Rattle.gix_glob_c.specs.Private.Finding.{IsFoundUpTo}
use Rattle.gix_glob_c.proofs.attributes.push_matches.Given as goal

-- the lines of the lists so far that match were found, where all lists are lawful
abbrev pub invariant-lists : goal.invariant-lists
invariant-lists l = record {
  row : All IsLawfulAttributes l.fn.lists → IsFoundUpTo l.fn.lists l.fn.path l.fn.rules l.i 0 (row_of l.texts l.count);
  inside : l.count ≤ length l.texts;
  fewer : l.count ≤ line_count (take l.i l.fn.lists);
  long : length l.texts ≡ length l.fn.texts;
}
