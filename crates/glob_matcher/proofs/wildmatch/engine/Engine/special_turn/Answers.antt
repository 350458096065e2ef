use Rattle.std.proofs.Common.{ap, arith}
use Rattle.glob_matcher.specs.Private.Reader.{is_star}
use Rattle.glob_matcher.proofs.lemmas.reading.TokenKinds.{is_free, is_local, is_dirs, is_nothing, no_set}
use Rattle.glob_matcher.proofs.lemmas.two_marks.States.{nothing_met}
use Rattle.glob_matcher.proofs.lemmas.two_marks.Prices.{Takes-both, Takes-grows, Takes-within, TakesExactly-at_most}
use Rattle.glob_matcher.proofs.lemmas.two_marks.Turns.{star_looks, token_looks, turn_on}
use Rattle.glob_matcher.proofs.lemmas.two_marks.Budget.{allows_test, test_of_token}
use Rattle.glob_matcher.proofs.wildmatch.engine.Engine.special_turn.Goals as goal

pub free_turn-requires-clause-token : goal.free_turn-requires-clause-token
free_turn-requires-clause-token g c = is_free c.token_at-token.ensures.token c.in-Free.is

pub dirs_turn-requires-clause-token : goal.dirs_turn-requires-clause-token
dirs_turn-requires-clause-token g c = is_dirs c.token_at-token.ensures.token c.in-Dirs.is

pub local_turn-requires-clause-token : goal.local_turn-requires-clause-token
local_turn-requires-clause-token g c = is_local c.token_at-token.ensures.token c.in-Local.is

pub returns-in-Free : goal.returns-in-Free
returns-in-Free g c =
    let x = c.token_at-token.ensures in
    turn_on (star_looks x.token.past (ap is_star c.in-Free.is) x.count) (omega (arith, c.token_at-token.ensures.token.past)) c.free_turn.ensures

pub returns-in-Dirs : goal.returns-in-Dirs
returns-in-Dirs g c =
    let x = c.token_at-token.ensures in
    turn_on (star_looks x.token.past (ap is_star c.in-Dirs.is) x.count) (omega (arith, c.token_at-token.ensures.token.past)) c.dirs_turn.ensures

pub returns-in-Local : goal.returns-in-Local
returns-in-Local g c =
    let x = c.token_at-token.ensures in
    turn_on (star_looks x.token.past (ap is_star c.in-Local.is) x.count) (omega (arith, c.token_at-token.ensures.token.past)) c.local_turn.ensures

pub returns-in-Byte : goal.returns-in-Byte
returns-in-Byte g c =
    let x = c.token_at-token.ensures in
    turn_on (token_looks x.token.past x.count) (omega (arith, c.token_at-token.ensures.token.past)) c.single_turn.ensures

pub returns-in-Nothing : goal.returns-in-Nothing
returns-in-Nothing g c =
    let x = c.token_at-token.ensures.token in
    let taken = Takes-both (token_looks x.past c.token_at-token.ensures.count) (TakesExactly-at_most c.fits_nothing.ensures) in
    record {
      meaning = nothing_met _ c.requires.stands (is_nothing x c.in-Nothing.is);
      allows = λ measure s n low a.
          allows_test c.requires.stands.inside
          (test_of_token x (ap is_star c.in-Nothing.is) (Takes-within measure s 0 1 low taken (omega arith) (omega (arith, x.past)))) a;
      progress = omega (arith, taken.steps);
      grows = Takes-grows taken;
    }

pub single_turn-requires-clause-other : goal.single_turn-requires-clause-other
single_turn-requires-clause-other g c = no_set c.token_at-token.ensures.token c.requires.other
