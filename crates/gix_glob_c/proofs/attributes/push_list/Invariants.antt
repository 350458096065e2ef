use Rattle.std.proofs.Common.{◌≡◌, ◌≤◌, ◌+◌, length}
use Rattle.std.specs.Prelude.{All}
use Rattle.glob_attributes.specs.Borrowed.{row_of}
use Rattle.gix_glob_c.specs.Attributes.{IsLawfulAttributes}
use Rattle.gix_glob_c.specs.Private.Finding.{IsFoundUpTo}
use Rattle.gix_glob_c.proofs.attributes.push_list.Given as goal

-- the lines of the list so far that match were found, where all lists are lawful
abbrev pub invariant-lines : goal.invariant-lines
invariant-lines l = record {
  row : All IsLawfulAttributes l.fn.lists → IsFoundUpTo l.fn.lists l.fn.path l.fn.rules l.fn.i 0 (row_of l.fn.texts l.fn.before)
      → IsFoundUpTo l.fn.lists l.fn.path l.fn.rules l.fn.i l.m (row_of l.texts l.count);
  inside : l.count ≤ length l.texts;
  fewer : l.count ≤ l.fn.before + l.m;
  long : length l.texts ≡ length l.fn.texts;
}
