use Rattle.std.proofs.Common.{◌≡◌, ◌-◌, []}
use Rattle.git_index.specs.Private.Reading.{words_at}
use Rattle.git_index.proofs.bitmaps.words_of.Given as goal

abbrev pub invariant-loop : goal.invariant-loop
invariant-loop l = words_at l.count (l.words - l.counter) l.due l.marks.items l.rest ≡ words_at l.count l.words 0 [] l.bytes
