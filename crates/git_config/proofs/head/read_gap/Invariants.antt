use Rattle.std.proofs.Common.{◌≡◌, ◌≤◌, length}
use Rattle.git_config.specs.Grammar.{in_gap, read, text_of}
use Rattle.git_config.proofs.head.read_gap.Given as goal

-- what is left is read as the whole was
abbrev pub invariant-bytes : goal.invariant-bytes
invariant-bytes l = record {
  line : l.text.line ≡ l.line;
  reads : read (text_of l.initial.text.rest.now) l.initial.text.line (in_gap l.name.items) ≡ read (text_of l.text.rest.now) l.text.line (in_gap l.name.items);
  fewer : length l.text.rest.now ≤ length l.initial.text.rest.now;
}

abbrev pub decreases-bytes : goal.decreases-bytes
decreases-bytes l = length l.text.rest.now
