use Rattle.std.proofs.Common.{◌≡◌, ◌∙◌, false, true, ap, refl, sym, arith}
use Rattle.glob_matcher.specs.Tokens.{kind_of}
use Rattle.glob_matcher.proofs.lemmas.reading.TokenKinds.{token_is}
use Rattle.glob_matcher.proofs.lemmas.two_marks.TakenBytes.{stands_on, stands_past_slash, misses_byte, inner_of}
use Rattle.glob_matcher.proofs.lemmas.two_marks.Prices.{Takes-grows, Takes-within, TakesExactly-at_most}
use Rattle.glob_matcher.proofs.lemmas.two_marks.Budget.{test_of_token}
use Rattle.glob_matcher.proofs.lemmas.two_marks.TakenByteCosts.{allows_on, allows_past_slash}
use Rattle.glob_matcher.proofs.wildmatch.engine.Engine.single_turn.Goals as goal

pub returns-then-not-fits : goal.returns-then-not-fits
returns-then-not-fits g c =
    let m = g.M.Texts in
    let x = c.requires.token in
    record {
      meaning = record {
        stands = c.requires.stands;
        missed =
            misses_byte m.value c.args.state.at x c.requires.single c.requires.stands.inside
            (λ fits. let wrong : false ≡ true = (c.if-not-fits.ensures.answer x.token x.same_kind).1 fits in cc);
      };
      allows = λ measure s n low a. record {
        before = s;
        tested =
            test_of_token x c.requires.single
            (Takes-within measure s 0 _ low (TakesExactly-at_most c.fits.ensures.count) (omega arith) (omega (arith, x.past)));
        allows = a;
      };
      progress = omega (arith, c.fits.ensures.count.steps);
      grows = Takes-grows (TakesExactly-at_most c.fits.ensures.count);
    }

pub returns-then-is_slash : goal.returns-then-is_slash
returns-then-is_slash g c =
    let x = c.requires.token in
    let fits = (c.if-not-fits.ensures.answer x.token x.same_kind).0 refl in
    record {
      meaning =
          stands_past_slash c.requires.stands x c.requires.single fits.0 fits.1
          (token_is x.token (sym x.same_kind ∙ c.if-is_slash.ensures.0 refl));
      allows = λ measure s n low a.
          allows_past_slash x c.requires.single
          (Takes-within measure s 0 _ low (TakesExactly-at_most c.fits.ensures.count) (omega arith) (omega (arith, x.past))) fits.0 fits.1 a;
      progress = omega (arith, c.fits.ensures.count.steps);
      grows = Takes-grows (TakesExactly-at_most c.fits.ensures.count);
    }

pub returns : goal.returns
returns g c =
    let m = g.M.Texts in
    let x = c.requires.token in
    let fits = (c.if-not-fits.ensures.answer x.token x.same_kind).0 refl in
    record {
      meaning =
          stands_on c.requires.stands x c.requires.single fits.0 fits.1
          (λ is. let wrong : false ≡ true = c.if-is_slash.ensures.1 (x.same_kind ∙ ap kind_of is) in cc);
      allows = λ measure s n low a.
          allows_on x c.requires.single
          (Takes-within measure s 0 _ low (TakesExactly-at_most c.fits.ensures.count) (omega arith) (omega (arith, x.past))) fits.0 fits.1
          (inner_of x.token c.requires.stands fits.1
          (λ is. let wrong : false ≡ true = c.if-is_slash.ensures.1 (x.same_kind ∙ ap kind_of is) in cc)) a;
      progress = omega (arith, c.fits.ensures.count.steps);
      grows = Takes-grows (TakesExactly-at_most c.fits.ensures.count);
    }
