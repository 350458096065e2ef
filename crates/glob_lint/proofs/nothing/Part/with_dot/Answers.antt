-- One dot, two, or something else.
use Rattle.std.proofs.Common.{subst}
use Rattle.glob_matcher.specs.declared.wildmatch.tokens.TokenKind.TheVariants as kind
use Rattle.glob_lint.specs.Private.Parts.{StandsAt}
use Rattle.glob_lint.proofs.lemmas.Parts.{first_dot, other_behind, second_dot}
use Rattle.glob_lint.proofs.nothing.Part.with_dot.Goals as goal

pub returns-in-Empty : goal.returns-in-Empty
returns-in-Empty c = λ way row later after x stands. first_dot way row later after (subst (StandsAt way row later) c.in-Empty.is stands) x

pub returns-in-Dot : goal.returns-in-Dot
returns-in-Dot c = λ way row later after x stands. second_dot way row later after (subst (StandsAt way row later) c.in-Dot.is stands) x

pub returns-in-TwoDots : goal.returns-in-TwoDots
returns-in-TwoDots c = λ way row later after x stands. other_behind way row later after c.args.self (kind.Byte 46) stands x
