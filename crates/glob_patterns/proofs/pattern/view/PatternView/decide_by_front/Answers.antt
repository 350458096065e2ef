-- The front is compared by itself, and the rest is matched.
use Rattle.std.proofs.Common.{rules, ◌≡◌, ◌↔◌, ◌+◌, ◌≤◌, Some, drop, sym, ◌∙◌, arith}
use Rattle.std.proofs.lemmas.Bool.{false≢true}
use Rattle.std.proofs.lemmas.List.{take_rest}
use Rattle.glob_matcher.specs.Matching.{SplitsBy}
use Rattle.glob_patterns.specs.Patterns.{first_special}
use Rattle.glob_patterns.proofs.lemmas.FrontLemmas.{front_cut, front_joined}
use Rattle.glob_patterns.proofs.lemmas.PathLimits.{length-from, looks_behind, steps_behind, within_both}
use Rattle.glob_patterns.proofs.pattern.view.PatternView.decide_by_front.Goals as goal

pub returns-then-not-begins-clause-exact : goal.returns-then-not-begins-clause-exact
returns-then-not-begins-clause-exact g c = λ lawful. (
  λ yes. absurd (false≢true yes),
  λ h. (let cut = front_cut _ _ _ c.args.front_end (sym lawful.placed ∙ c.requires.first) h in sym c.if-not-begins.true ∙ c.front_compared-begins.ensures.exact.1 cut.0),
)

pub returns-clause-exact : goal.returns-clause-exact
returns-clause-exact g c = λ lawful.
    let first : first_special c.args.self.text.now ≡ Some c.args.front_end = sym lawful.placed ∙ c.requires.first in
    let begins = c.front_compared-begins.ensures.exact.0 c.if-not-begins.false in
    let rest : _ ↔ SplitsBy (drop c.args.front_end c.args.value.now) (drop c.args.front_end c.args.self.text.now) c.args.way = rw (take_rest, take_rest) at c.decide_rest.ensures.exact in (
      λ yes. front_joined _ _ _ c.args.front_end first begins (rest.0 yes),
      λ h. rest.1 (front_cut _ _ _ c.args.front_end first h).1,
    )

pub returns-clause-steps : goal.returns-clause-steps
returns-clause-steps g c =
    let within = within_both _ _ _ _ _ _ c.front_compared-begins.ensures.count.steps c.decide_rest.ensures.limit
    (steps_behind _ _ _ _ (length-from c.args.self.text.now c.args.front_end) (length-from c.args.value.now c.args.front_end)) in search (rules, within)

pub returns-clause-looks : goal.returns-clause-looks
returns-clause-looks g c =
    let within = within_both _ _ _ _ _ _ c.front_compared-begins.ensures.count.looks c.decide_rest.ensures.looks
    (looks_behind _ _ _ _ (length-from c.args.self.text.now c.args.front_end) (length-from c.args.value.now c.args.front_end)) in search (rules, within)
