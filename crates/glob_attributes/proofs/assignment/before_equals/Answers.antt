use Rattle.std.proofs.Common.{sym, ◌∙◌}
use Rattle.glob_attributes.specs.Private.Readings.{is_equals}
use Rattle.glob_attributes.proofs.lemmas.PlaceLemmas.{before-found, before-none}
use Rattle.glob_attributes.proofs.assignment.before_equals.Goals as goal

pub returns-in-Some : goal.returns-in-Some
returns-in-Some c = before-found is_equals c.args.text.now c.in-Some.place (sym c.first_equals.ensures ∙ c.in-Some.is)

pub returns-in-None : goal.returns-in-None
returns-in-None c = before-none is_equals c.args.text.now (sym c.first_equals.ensures ∙ c.in-None.is)
