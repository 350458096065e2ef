-- A byte 0 in the section cuts the key there; else the section is taken off the key.
use Rattle.std.proofs.Common.{List, ℕ, sym, ap, ◌∙◌}
use Rattle.std.specs.Str.{bytes_eq}
use Rattle.git_config.specs.Grammar.{before_zero}
use Rattle.git_config.proofs.lemmas.KeyLemmas.{eq-stripped, ne-stripped, with_zero, without_zero}
use Rattle.git_config.proofs.keys.is_whole_key.Goals as goal

pub returns-then-has_zero : goal.returns-then-has_zero
returns-then-has_zero c =
    let key = c.args.key.now in let section = c.args.section.now in
    c.same_bytes.ensures ∙ ap (λ (l : List ℕ). bytes_eq l key) (c.until_zero.ensures ∙ sym (with_zero section c.args.name.now (sym c.has_zero.ensures ∙ c.if-has_zero.true)))

pub returns-in-Some : goal.returns-in-Some
returns-in-Some c =
    let key = c.args.key.now in let section = c.args.section.now in let name = c.args.name.now in
    let rest = c.in-Some.rest.now in
    c.same_bytes-in-Some.ensures
    ∙ ap (λ (l : List ℕ). bytes_eq l rest) c.until_zero-in-Some.ensures
    ∙ ap (λ (l : List ℕ). bytes_eq (before_zero name) l) c.in-Some.ensures.cases.1
    ∙ sym (eq-stripped section (before_zero name) key c.in-Some.ensures.cases.0)
    ∙ ap (λ (l : List ℕ). bytes_eq l key) (sym (without_zero section name (sym c.has_zero.ensures ∙ c.if-has_zero.false)))

pub returns-in-None : goal.returns-in-None
returns-in-None c =
    let key = c.args.key.now in let section = c.args.section.now in let name = c.args.name.now in
    sym (ap (λ (l : List ℕ). bytes_eq l key) (without_zero section name (sym c.has_zero.ensures ∙ c.if-has_zero.false))
    ∙ ne-stripped section (before_zero name) key c.in-None.ensures.cases)
