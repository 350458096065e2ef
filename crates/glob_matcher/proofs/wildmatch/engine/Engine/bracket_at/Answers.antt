use Rattle.std.proofs.Common.{arith, rules}
use Rattle.glob_matcher.proofs.lemmas.reading.LookLemmas.{paid_same, spare_taken}
use Rattle.glob_matcher.proofs.wildmatch.engine.Engine.bracket_at.Goals as goal

pub returns-then-has_byte : goal.returns-then-has_byte
returns-then-has_byte g c = spare_taken c.if-has_byte.ensures.count (c.class_at.ensures c.args.low)

pub returns : goal.returns
returns g c =
    let takes = c.if-has_byte.ensures.count in
    record { answer = search rules; paid = paid_same {after = c.has_byte.new.self} 1 (omega (arith, takes.steps)) (omega arith) (omega (arith, takes.looks)) takes.low }
