use Rattle.std.proofs.Common.{arith}
use Rattle.glob_matcher.proofs.lemmas.two_marks.Prices.{Takes-on}
use Rattle.glob_matcher.proofs.lemmas.two_marks.Scans.{passed_on, scan_on}
use Rattle.glob_matcher.proofs.wildmatch.engine.Engine.scan_near.Goals as goal

pub bytes-preserved : goal.bytes-preserved
bytes-preserved g c =
    let seen = c.in-Undecided.ensures.scan in
    record {
      passed = passed_on c.bytes.invariant.passed seen.meaning;
      count =
          Takes-on c.bytes.invariant.count seen.takes (omega (arith, c.bytes.invariant.passed.low, seen.meaning.low))
          (omega (arith, c.bytes.invariant.passed.low, seen.meaning.low));
    }

pub returns-in_default : goal.returns-in_default
returns-in_default g c = scan_on c.bytes.invariant.passed c.bytes.invariant.count c.try_place.ensures.scan
