-- Where no front is compared apart, it is empty, or all.
use Rattle.std.proofs.Common.{Some, sym, ap, ◌∙◌, arith}
use Rattle.glob_patterns.proofs.lemmas.FrontLemmas.{front_all, front_none}
use Rattle.glob_patterns.proofs.pattern.view.PatternView.front_apart.Goals as goal

pub returns-in_default-2-clause-none : goal.returns-in_default-2-clause-none
returns-in_default-2-clause-none c = λ lawful as_git whole value way.
    front_none value c.args.self.text.now way (sym lawful.placed ∙ c.in-Some.is ∙ ap Some (omega (arith, c.if-place-gt0.false)))

pub returns-in_default-3-clause-none : goal.returns-in_default-3-clause-none
returns-in_default-3-clause-none c = λ lawful as_git whole value way. front_all value c.args.self.text.now way (sym lawful.placed ∙ c.in_default.is)
