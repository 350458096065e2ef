use Rattle.std.proofs.Common.{◌≡◌, ◌<◌, ◌∷◌, sym, ap, subst, ◌∙◌, length, drop, arith}
use Rattle.std.specs.List.{position_or_len}
use Rattle.std.proofs.lemmas.Bool.{eqb-true, eqb-false}
use Rattle.glob_attributes.specs.Words.{after_blanks, is_blank, words_of}
use Rattle.glob_attributes.proofs.lemmas.WordsLemmas.{BeginsWithByte, after_blanks-first, words_of-after_blanks, words_of-first, words_of-none}
use Rattle.glob_attributes.proofs.words.next_word.Goals as goal

pub returns-then-is_empty : goal.returns-then-is_empty
returns-then-is_empty c =
    let text = c.args.text.now in
    let rest = c.after_blanks-rest.result.now in
    sym (words_of-after_blanks text) ∙ ap words_of (sym c.after_blanks-rest.ensures.bytes) ∙ words_of-none rest (eqb-true _ _ (sym c.is_empty.ensures ∙ c.if-is_empty.true))

pub returns : goal.returns
returns c =
    let text = c.args.text.now in
    let rest = c.after_blanks-rest.result.now in
    let is : rest ≡ after_blanks text = c.after_blanks-rest.ensures.bytes in
    let some : 0 < length rest = let other = eqb-false _ _ (sym c.is_empty.ensures ∙ c.if-is_empty.false) in omega (arith, other) in
    let begins : BeginsWithByte rest = subst BeginsWithByte (sym is) (after_blanks-first text (subst (λ t. 0 < length t) is some)) in
    sym (words_of-after_blanks text) ∙ ap words_of (sym is) ∙ words_of-first rest begins
    ∙ ap (λ w. w ∷ words_of (drop (position_or_len is_blank rest) rest)) (sym c.split_at_blank.ensures.word) ∙ ap (λ r. c.split_at_blank.result.0.now ∷ words_of r) (sym c.split_at_blank.ensures.rest)
