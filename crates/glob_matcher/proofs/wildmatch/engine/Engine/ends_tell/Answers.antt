use Rattle.std.proofs.Common.{◌≡◌, ◌∙◌, ◌-◌, ℕ, true, false, length, get_or, ap, sym, subst, arith, refl}
use Rattle.glob_matcher.specs.Tokens.{Byte}
use Rattle.glob_matcher.specs.Matching.{Fits}
use Rattle.glob_matcher.proofs.lemmas.two_marks.LastByte.{IsAlone, EndsInLast, last, ends_in_last}
use Rattle.glob_matcher.proofs.wildmatch.engine.Engine.ends_tell.Goals as goal

pub returns-then-is_alone-clause-meaning : goal.returns-then-is_alone-clause-meaning
returns-then-is_alone-clause-meaning g c = (
  λ no. let wrong : false ≡ true = no in cc,
  λ all.
      let m = g.M.Texts in
      let same : c.pattern_byte-last.result ≡ last m.pattern =
      c.pattern_byte-last.ensures.here ∙ ap (λ (n : ℕ). get_or m.pattern (n - 1) 0) c.pattern_len-len.ensures in
      let alone : IsAlone (last m.pattern) = subst IsAlone same (c.if-is_alone.ensures.0 refl) in
      let ends : EndsInLast m.way m.pattern m.value =
      ends_in_last m.way m.pattern m.value (omega (arith, c.if-len-eq0.false, c.pattern_len-len.ensures)) alone all in
      let yes =
      c.ends_in.ensures.answer.1 (ends.0, subst (λ (b : ℕ). Fits m.way (Byte b) (get_or m.value (length m.value - 1) 0)) (sym same) ends.1) in
      sym c.if-ends_in.false ∙ yes,
)
