use Rattle.std.proofs.Common.{◌≡◌, ◌≤◌, ◌∷◌, [], false, length}
use Rattle.std.specs.Char.{to_ascii_lowercase}
use Rattle.git_config.specs.Grammar.{in_name, read, text_of}
use Rattle.git_config.proofs.entry.read_entry.Given as goal

-- what is left is read as the whole was
abbrev pub invariant-bytes : goal.invariant-bytes
invariant-bytes l = record {
  reads : read (text_of l.initial.text.rest.now) l.initial.text.line (in_name false (to_ascii_lowercase l.fn.first ∷ []))
      ≡ read (text_of l.text.rest.now) l.text.line (in_name l.ended l.name.items);
  fewer : length l.text.rest.now ≤ length l.initial.text.rest.now;
}

abbrev pub decreases-bytes : goal.decreases-bytes
decreases-bytes l = length l.text.rest.now
