use Rattle.glob_matcher.proofs.lemmas.reading.TokenKinds.{set_takes}
use Rattle.glob_matcher.proofs.wildmatch.tokens.TokenKind.fits_at.Goals as goal

pub returns-in-Some : goal.returns-in-Some
returns-in-Some c =
    let found = c.in-Some.ensures in
    set_takes c.args.way c.args.byte c.in-Set.is found.here found.answer
