use Rattle.std.proofs.Common.{rules}
use Rattle.glob_matcher.proofs.lemmas.two_marks.Texts.{whole}
use Rattle.glob_matcher.proofs.wildmatch.texts.text_is_short.Goals as goal

pub returns : goal.returns
returns c = whole c.args.text.now (search rules)
