use Rattle.std.proofs.Common.{◌≡◌, false, drop}
use Rattle.std.specs.List.{AllByRecursion}
use Rattle.glob_attributes.specs.Words.{is_blank}
use Rattle.glob_attributes.proofs.borrowed.last_word.last_start.Given as goal

-- no blank stands from here on
abbrev pub invariant-loop-before : goal.invariant-loop-before
invariant-loop-before l = AllByRecursion (λ b. is_blank b ≡ false) (drop l.before l.text)
