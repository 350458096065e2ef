-- An alignment keeps what it began with, and a search has tried the places behind it. Each star token goes one deeper.
use Rattle.std.proofs.Common.{◌+◌, ◌-◌, ◌*◌, length}
use Rattle.glob_matcher.proofs.lemmas.pruned.Alignments.{Aligned}
use Rattle.glob_matcher.proofs.lemmas.pruned.StarLemmas.{Tried}
use Rattle.glob_matcher.proofs.wildmatch.pruned.Level.+attempt.Given as goal

abbrev pub decreases-attempt : goal.decreases-attempt
decreases-attempt l = 3 * (64 - l.self.now.depth)

abbrev pub decreases-try_everywhere : goal.decreases-try_everywhere
decreases-try_everywhere l = 3 * (63 - l.self.now.depth) + 1

abbrev pub decreases-try_component : goal.decreases-try_component
decreases-try_component l = 3 * (63 - l.self.now.depth) + 1

abbrev pub decreases-try_directories : goal.decreases-try_directories
decreases-try_directories l = 3 * (63 - l.self.now.depth) + 2

abbrev pub invariant-attempt-tokens : goal.invariant-attempt-tokens
invariant-attempt-tokens l = Aligned l.self.way l.self.pattern.now l.self.value.now l.fn.place l.fn.at l.place l.at

abbrev pub decreases-attempt-tokens : goal.decreases-attempt-tokens
decreases-attempt-tokens l = length l.self.pattern.now - l.place

abbrev pub invariant-try_everywhere-value : goal.invariant-try_everywhere-value
invariant-try_everywhere-value l = Tried l.self.way l.self.pattern.now l.self.value.now l.place (l.self.depth + 1) l.fn.at l.at (length l.self.value.now)

abbrev pub decreases-try_everywhere-value : goal.decreases-try_everywhere-value
decreases-try_everywhere-value l = length l.self.value.now - l.at

abbrev pub invariant-try_component-component : goal.invariant-try_component-component
invariant-try_component-component l = Tried l.self.way l.self.pattern.now l.self.value.now l.place (l.self.depth + 1) l.fn.at l.at l.until

abbrev pub decreases-try_component-component : goal.decreases-try_component-component
decreases-try_component-component l = l.until - l.at
