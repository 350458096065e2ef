use Rattle.std.proofs.Common.{length}
use Rattle.globtree.proofs.words.command_words.CommandWords.read.Given as goal

abbrev pub decreases-words : goal.decreases-words
decreases-words l = length l.left
