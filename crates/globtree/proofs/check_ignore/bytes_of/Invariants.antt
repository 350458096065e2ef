use Rattle.std.proofs.Common.{◌≡◌, ℕ, List, map, take}
use Rattle.std.specs.Borrow.{Bor}
use Rattle.globtree.proofs.check_ignore.bytes_of.Given as goal

-- the bytes of the words so far
abbrev pub invariant-words : goal.invariant-words
invariant-words l = map (λ (each : Bor (List ℕ)). each.now) l.bytes.items ≡ map (λ (word : Bor (List ℕ)). word.now) (take l.word-index l.words)
