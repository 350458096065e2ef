-- An input of which nothing was taken before it was read.
use Rattle.std.proofs.Common.{ℕ, Bool, List, [], Option}
use Rattle.std.proofs.KnownBytes.{Consumes-trans}
use Rattle.std.specs.Io.KnownBytes.{Consumes}
use Rattle.tree_commands.specs.CheckIgnore.{Question}
use Rattle.globtree.specs.Answers.{ReadsIgnore}

-- what was read from then on is all of it
pub read_from_front : (question : Question) (is_any : Bool) (left at rest old new : Option (List ℕ))
    → Consumes left at [] → ReadsIgnore question is_any at rest old new → ReadsIgnore question is_any left rest old new
read_from_front question is_any left at rest old new kept reads = record {
  input = reads.input;
  read = record { consumed = Consumes-trans left at rest [] reads.input kept reads.read.consumed; ended = reads.read.ended };
  text = reads.text;
  allowed = reads.allowed;
  written = reads.written;
}
