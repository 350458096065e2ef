use Rattle.std.proofs.Common.{◌≡◌, ◌+◌, ◌≤◌, ◌^◌, length}
use Rattle.git_config.specs.Grammar.{in_value, no_part, read, text_of}
use Rattle.git_config.specs.Private.Parts.{part_of}
use Rattle.git_config.proofs.value.read_value.Given as goal

-- what is left is read as the whole was, and no more blanks can come than a number can count
abbrev pub invariant-bytes : goal.invariant-bytes
invariant-bytes l = record {
  reads : read (text_of l.initial.text.rest.now) l.initial.text.line (in_value l.name.items no_part)
      ≡ read (text_of l.text.rest.now) l.text.line (in_value l.name.items (part_of l.part));
  room : l.part.blanks + length l.text.rest.now ≤ 2 ^ 63;
  fewer : length l.text.rest.now ≤ length l.initial.text.rest.now;
}

abbrev pub decreases-bytes : goal.decreases-bytes
decreases-bytes l = length l.text.rest.now
