use Rattle.std.proofs.Common.{ap, sym, ◌∙◌, length, arith, rules}
use Rattle.std.proofs.lemmas.List.{take_rest}
use Rattle.glob_attributes.specs.Words.{is_blank}
use Rattle.glob_attributes.proofs.lemmas.PlaceLemmas.{before-found, before-none, end_empty, from-found, from-none}
use Rattle.glob_attributes.proofs.words.split_at_blank.Goals as goal

pub returns-in-Some-clause-word : goal.returns-in-Some-clause-word
returns-in-Some-clause-word c = before-found is_blank c.args.text.now c.in-Some.place (sym c.first_blank.ensures ∙ c.in-Some.is)

pub returns-in-Some-clause-rest : goal.returns-in-Some-clause-rest
returns-in-Some-clause-rest c = take_rest c.args.text.now c.in-Some.place ∙ from-found is_blank c.args.text.now c.in-Some.place (sym c.first_blank.ensures ∙ c.in-Some.is)

pub returns-in-None-clause-word : goal.returns-in-None-clause-word
returns-in-None-clause-word c = before-none is_blank c.args.text.now (sym c.first_blank.ensures ∙ c.in-None.is)

pub returns-in-None-clause-rest : goal.returns-in-None-clause-rest
returns-in-None-clause-rest c = end_empty c.args.text.now ∙ from-none is_blank c.args.text.now (sym c.first_blank.ensures ∙ c.in-None.is)

pub returns-in-None-clause-rest_place : goal.returns-in-None-clause-rest_place
returns-in-None-clause-rest_place c = record {
  place = length c.args.text.now;
  begins = ap (λ n. (c.args.text.ref_ptr.0, n)) (omega arith);
  inside = search rules;
}
