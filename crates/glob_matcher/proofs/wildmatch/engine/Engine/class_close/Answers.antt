use Rattle.std.proofs.Common.{arith, length}
use Rattle.glob_matcher.proofs.lemmas.reading.LookLemmas.{search_front_known, search_front_unknown, search_front_passed, search_front_anew}
use Rattle.glob_matcher.proofs.wildmatch.engine.Engine.class_close.Goals as goal

pub returns-in_default-clause-looks : goal.returns-in_default-clause-looks
returns-in_default-clause-looks g c =
    let near = search_front_unknown c.args.close c.args.place c.in_default.not-Some in
    search_front_anew c.first_close.result c.args.close c.args.self.now c.first_close.new.self c.args.place (length g.M.Texts.pattern) (omega (arith, near)) c.first_close.ensures.count

pub returns-then-known-place-clause-looks : goal.returns-then-known-place-clause-looks
returns-then-known-place-clause-looks g c =
    search_front_anew c.first_close-then-known-place.result c.args.close c.args.self.now c.first_close-then-known-place.new.self c.args.place (length g.M.Texts.pattern)
    (search_front_passed c.args.close c.in-Some.known c.args.place c.in-Some.is c.if-known-place.true) c.first_close-then-known-place.ensures.count

pub returns-clause-looks : goal.returns-clause-looks
returns-clause-looks g c =
    let near = search_front_known c.args.close c.in-Some.known c.args.place c.in-Some.is (omega arith) in
    omega (arith, near)
