use Rattle.std.proofs.Common.{◌≡◌, ◌∙◌, false, length, sym, arith}
use Rattle.std.proofs.lemmas.Bool.{not-true}
use Rattle.glob_matcher.specs.Bytes.{HasByte, is_path, star}
use Rattle.glob_matcher.proofs.lemmas.two_marks.LastByte.{lone_star}
use Rattle.glob_matcher.proofs.wildmatch.engine.Engine.is_lone_star.Goals as goal

pub returns-clause-meaning : goal.returns-clause-meaning
returns-clause-meaning g c = λ yes.
    let m = g.M.Texts in
    let plain : is_path m.way ≡ false = sym c.is_path.ensures ∙ not-true c.is_path.result yes in
    let one : length m.pattern ≡ 1 = omega (arith, c.pattern_len.ensures, c.if-pattern_len-ne1.false) in
    let here : HasByte m.pattern 0 star = record {
      inside = omega arith;
      is = sym c.pattern_byte.ensures.here ∙ c.if-pattern_byte-ne42.false;
    } in
    lone_star m.way m.pattern m.value plain one here
