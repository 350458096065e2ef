use Rattle.std.proofs.Common.{◌≡◌, ◌≤◌, length}
use Rattle.git_config.specs.Grammar.{between, read, text_of}
use Rattle.git_config.proofs.file.next_item.Given as goal

-- what is left is read as the whole was
abbrev pub invariant-bytes : goal.invariant-bytes
invariant-bytes l = record {
  reads : read (text_of l.initial.text.rest.now) l.initial.text.line between ≡ read (text_of l.text.rest.now) l.text.line between;
  fewer : length l.text.rest.now ≤ length l.initial.text.rest.now;
}

abbrev pub decreases-bytes : goal.decreases-bytes
decreases-bytes l = length l.text.rest.now
