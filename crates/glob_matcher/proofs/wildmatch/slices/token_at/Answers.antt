use Rattle.std.proofs.Common.{inr, rules}
use Rattle.glob_matcher.specs.Bytes.{HasByte, open_bracket}
use Rattle.glob_matcher.proofs.lemmas.reading.Reading.{broken_token, set_token}
use Rattle.glob_matcher.proofs.wildmatch.slices.token_at.Goals as goal

pub returns-in-Some : goal.returns-in-Some
returns-in-Some c =
    let found = c.in-Some.ensures in
    set_token c.args.way c.args.pattern.now c.args.place found.set c.in-Some.set.end found.here found.past found.inside

pub returns-in-None : goal.returns-in-None
returns-in-None c =
    let bracket : HasByte c.args.pattern.now c.args.place open_bracket = search rules in
    broken_token c.args.way c.args.pattern.now c.args.place c.requires (inr (bracket, c.in-None.ensures))
