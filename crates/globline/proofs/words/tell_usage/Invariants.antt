use Rattle.std.proofs.Common.{◌≡◌, ◌≤◌, ◌-◌, length, take}
use Rattle.std.specs.Io.KnownBytes.{Appends}
use Rattle.globline.specs.Words.{usage}
use Rattle.globline.proofs.words.tell_usage.Given as goal

-- the text was told up to the place
abbrev pub invariant-pieces : goal.invariant-pieces
invariant-pieces g l = record {
  usage : l.text ≡ usage;
  appended : Appends (g.E.Write.contents l.fn.errors) (g.E.Write.contents l.errors) (take l.at l.text);
  inside : l.at ≤ length l.text;
}

abbrev pub decreases-pieces : goal.decreases-pieces
decreases-pieces g l = length l.text - l.at
