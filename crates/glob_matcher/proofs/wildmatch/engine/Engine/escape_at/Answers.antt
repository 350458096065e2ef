use Rattle.std.proofs.Common.{arith, rules}
use Rattle.glob_matcher.proofs.lemmas.reading.LookLemmas.{one_look, paid_same}
use Rattle.glob_matcher.proofs.wildmatch.engine.Engine.escape_at.Goals as goal

pub returns : goal.returns
returns g c =
    let takes = one_look c.escaped_at.result c.escaped_at.ensures.count in
    λ low. record { answer = search rules; paid = paid_same {after = c.escaped_at.new.self} 1 (omega (arith, takes.steps)) (omega arith) (omega (arith, takes.looks)) takes.low }
