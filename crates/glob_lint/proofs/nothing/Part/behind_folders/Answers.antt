-- Folders behind whole parts are whole parts.
use Rattle.std.proofs.Common.{subst}
use Rattle.glob_matcher.specs.declared.wildmatch.tokens.TokenKind.TheVariants as kind
use Rattle.glob_lint.specs.Private.Parts.{StandsAt}
use Rattle.glob_lint.proofs.lemmas.Parts.{folders_behind, other_behind}
use Rattle.glob_lint.proofs.nothing.Part.behind_folders.Goals as goal

pub returns-in-Empty : goal.returns-in-Empty
returns-in-Empty c = λ way row later after x stands. folders_behind way row later after (subst (StandsAt way row later) c.in-Empty.is stands) x

pub returns-in-Dot : goal.returns-in-Dot
returns-in-Dot c = λ way row later after x stands. other_behind way row later after c.args.self kind.Dirs stands x
