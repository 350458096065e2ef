use Rattle.std.proofs.Common.{◌≡◌, ◌<◌, ℕ, length, get_or, false, true, ap, refl, sym, subst, arith}
use Rattle.glob_matcher.specs.Tokens.{Byte}
use Rattle.glob_matcher.specs.Matching.{Fits}
use Rattle.glob_matcher.proofs.lemmas.reading.Reading.{literal_token}
use Rattle.glob_matcher.proofs.lemmas.two_marks.TakenBytes.{misses_byte, stands_past_slash}
use Rattle.glob_matcher.proofs.lemmas.two_marks.Prices.{Takes-grows, Takes-within, TakesExactly-at_most}
use Rattle.glob_matcher.proofs.lemmas.two_marks.Budget.{test_of_token}
use Rattle.glob_matcher.proofs.lemmas.two_marks.TakenByteCosts.{allows_past_slash}
use Rattle.glob_matcher.proofs.lemmas.two_marks.Scans.{slash_is_itself}
use Rattle.glob_matcher.proofs.wildmatch.engine.Engine.slash_turn.Goals as goal

pub returns-then-not-fits_byte : goal.returns-then-not-fits_byte
returns-then-not-fits_byte g c =
    let m = g.M.Texts in
    record {
      meaning = record {
        stands = c.requires.stands;
        missed =
            misses_byte m.value c.args.state.at
            (literal_token m.way m.pattern c.args.state.place c.requires.place (slash_is_itself _ c.requires.is)) refl
            c.requires.stands.inside (λ fits.
            let wrong : false ≡ true = c.if-not-fits_byte.ensures.answer.1
            (subst (λ (b : ℕ). (c.args.state.at < length m.value) × Fits m.way (Byte b) (get_or m.value c.args.state.at 0)) c.requires.is fits) in
            cc);
      };
      allows = λ measure s n low a.
          let token = literal_token m.way m.pattern c.args.state.place c.requires.place (slash_is_itself _ c.requires.is) in
          record {
            before = s;
            tested = test_of_token token refl (Takes-within measure s 0 1 low (TakesExactly-at_most c.fits_byte.ensures.count) (omega arith) (omega arith));
            allows = a;
          };
      progress = omega (arith, c.fits_byte.ensures.count.steps);
      grows = Takes-grows (TakesExactly-at_most c.fits_byte.ensures.count);
    }

pub returns : goal.returns
returns g c =
    let m = g.M.Texts in
    let token = literal_token m.way m.pattern c.args.state.place c.requires.place (slash_is_itself _ c.requires.is) in
    let fits =
    subst (λ (b : ℕ). (c.args.state.at < length m.value) × Fits m.way (Byte b) (get_or m.value c.args.state.at 0)) (sym c.requires.is)
    (c.if-not-fits_byte.ensures.answer.0 refl) in
    record {
      meaning = stands_past_slash c.requires.stands token refl fits.0 fits.1 (ap Byte c.requires.is);
      allows = λ measure s n low a.
          allows_past_slash token refl (Takes-within measure s 0 1 low (TakesExactly-at_most c.fits_byte.ensures.count) (omega arith) (omega arith)) fits.0 fits.1 a;
      progress = omega (arith, c.fits_byte.ensures.count.steps);
      grows = Takes-grows (TakesExactly-at_most c.fits_byte.ensures.count);
    }
