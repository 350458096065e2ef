use Rattle.std.proofs.Common.{◌≡◌, ◌≤◌, false, length}
use Rattle.git_config.specs.Grammar.{in_quotes, read, text_of}
use Rattle.git_config.proofs.head.read_quotes.Given as goal

-- what is left is read as the whole was
abbrev pub invariant-bytes : goal.invariant-bytes
invariant-bytes l = record {
  line : l.text.line ≡ l.line;
  reads : read (text_of l.initial.text.rest.now) l.initial.text.line (in_quotes false l.initial.key.items)
      ≡ read (text_of l.text.rest.now) l.text.line (in_quotes l.behind_backslash l.key.items);
  fewer : length l.text.rest.now ≤ length l.initial.text.rest.now;
}

abbrev pub decreases-bytes : goal.decreases-bytes
decreases-bytes l = length l.text.rest.now
