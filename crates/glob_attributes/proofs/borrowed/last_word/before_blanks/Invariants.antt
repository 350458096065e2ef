use Rattle.std.proofs.Common.{◌≡◌, take}
use Rattle.glob_attributes.specs.Words.{words_of}
use Rattle.glob_attributes.proofs.borrowed.last_word.before_blanks.Given as goal

-- no word is lost
abbrev pub invariant-loop-end : goal.invariant-loop-end
invariant-loop-end l = words_of (take l.end l.text) ≡ words_of l.text
