-- The last word ends where the blanks begin that aren't read.
use Rattle.std.proofs.Common.{◌<◌, ◌++◌, ◌∷◌, [], List, ℕ, drop, length, sym, ap, ◌∙◌, arith}
use Rattle.std.proofs.lemmas.Bool.{eqb-false}
use Rattle.glob_attributes.specs.Words.{words_of}
use Rattle.glob_attributes.proofs.lemmas.BehindLemmas.{words_of-last}
use Rattle.glob_attributes.proofs.borrowed.last_word.last_word.Goals as goal

pub returns : goal.returns
returns c =
    let text = c.before_blanks-text.result.now in
    let place = c.last_start.result in
    let some : 0 < length text = let other = eqb-false _ _ (sym c.is_empty.ensures ∙ c.if-is_empty.false) in omega (arith, other) in
    sym c.before_blanks-text.ensures.words
    ∙ words_of-last text place c.before_blanks-text.ensures.last some c.last_start.ensures
    ∙ ap (λ (front : List ℕ). words_of front ++ drop place text ∷ []) (sym c.split_at.ensures.front)
    ∙ ap (λ (back : List ℕ). words_of c.split_at.result.0.now ++ back ∷ []) (sym c.split_at.ensures.back)
