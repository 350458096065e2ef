use Rattle.std.proofs.Common.{sym, ap, ◌∙◌, not, drop, length, arith, rules}
use Rattle.std.proofs.lemmas.List.{take_rest}
use Rattle.glob_attributes.specs.Words.{is_blank}
use Rattle.glob_attributes.proofs.lemmas.PlaceLemmas.{end_empty, from-found, from-none, prefix_len-twice}
use Rattle.glob_attributes.proofs.words.after_blanks.Goals as goal

pub returns-in-Some-clause-bytes : goal.returns-in-Some-clause-bytes
returns-in-Some-clause-bytes c =
    let text = c.args.text.now in
    take_rest text c.in-Some.place ∙ from-found (λ b. not (is_blank b)) text c.in-Some.place (sym c.first_other.ensures ∙ c.in-Some.is) ∙ ap (λ n. drop n text) (prefix_len-twice is_blank text)

pub returns-in-None-clause-bytes : goal.returns-in-None-clause-bytes
returns-in-None-clause-bytes c =
    let text = c.args.text.now in
    end_empty text ∙ from-none (λ b. not (is_blank b)) text (sym c.first_other.ensures ∙ c.in-None.is) ∙ ap (λ n. drop n text) (prefix_len-twice is_blank text)

pub returns-in-None-clause-place : goal.returns-in-None-clause-place
returns-in-None-clause-place c = record {
  place = length c.args.text.now;
  begins = ap (λ n. (c.args.text.ref_ptr.0, n)) (omega arith);
  inside = search rules;
}
