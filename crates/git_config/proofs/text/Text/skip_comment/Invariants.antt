use Rattle.std.proofs.Common.{◌≡◌, ◌≤◌, ℕ, List, length}
use Rattle.git_config.specs.Grammar.{in_comment, in_tail, read, text_of}
use Rattle.git_config.proofs.text.Text.skip_comment.Given as goal

-- what is left is read as the whole was
abbrev pub invariant-bytes : goal.invariant-bytes
invariant-bytes l = record {
  line : l.self.line ≡ l.initial.self.line;
  comment : read (text_of l.initial.self.rest.now) l.initial.self.line in_comment ≡ read (text_of l.self.rest.now) l.self.line in_comment;
  tail : (name bytes : List ℕ) → read (text_of l.initial.self.rest.now) l.initial.self.line (in_tail name bytes) ≡ read (text_of l.self.rest.now) l.self.line (in_tail name bytes);
  fewer : length l.self.rest.now ≤ length l.initial.self.rest.now;
}

abbrev pub decreases-bytes : goal.decreases-bytes
decreases-bytes l = length l.self.rest.now
