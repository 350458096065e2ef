-- The kinds of one byte.
use Rattle.std.proofs.Common.{inl, inr, sym, ◌∙◌}
use Rattle.std.proofs.lemmas.Bool.{false≢true}
use Rattle.glob_lint.proofs.lemmas.Running.{any_is_one, byte_is_one, set_is_one}
use Rattle.glob_lint.proofs.running.is_of_one_byte.Goals as goal

pub returns-in-Byte : goal.returns-in-Byte
returns-in-Byte c = λ way token same yes. elim c.in-Byte.is [
  | inl byte ↦ byte_is_one way byte.0 token (sym byte.1 ∙ same)
  | inr other ↦ elim other [ inl any ↦ any_is_one way token (sym any ∙ same) | inr set ↦ set_is_one way token (sym set ∙ same) ]
]

pub returns-in_default : goal.returns-in_default
returns-in_default c = λ way token same no. absurd (false≢true no)
