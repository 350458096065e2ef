use Rattle.std.proofs.Common.{◌≡◌, ◌-◌}
use Rattle.git_index.specs.Private.Reading.{pushed}
use Rattle.git_index.specs.Split.{low_bits}
use Rattle.git_index.proofs.bitmaps.push_plain.Given as goal

abbrev pub invariant-loop : goal.invariant-loop
invariant-loop l = pushed l.count l.marks.items (low_bits (64 - l.counter) l.left) ≡ pushed l.count l.initial.marks.items (low_bits 64 l.word)
