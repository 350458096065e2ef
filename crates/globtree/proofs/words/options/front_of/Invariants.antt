use Rattle.std.proofs.Common.{length}
use Rattle.globtree.proofs.words.options.front_of.Given as goal

abbrev pub decreases-words : goal.decreases-words
decreases-words l = length l.front.rest.now
