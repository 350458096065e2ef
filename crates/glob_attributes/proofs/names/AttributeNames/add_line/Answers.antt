-- The name of a macro was added, and some of those that it assigns to.
use Rattle.std.proofs.Common.{◌≡◌, ◌∷◌, [], List, ℕ, ap, append-nil, map, refl, subst, sym, ◌∙◌}
use Rattle.std.proofs.lemmas.Result.{on_err_weaker}
use Rattle.glob_attributes.specs.Readings.{Gives, a_macro}
use Rattle.glob_attributes.specs.Told.{AddsSome, names_given, with_names}
use Rattle.glob_attributes.specs.Views.{seen_assignments, seen_reading}
use Rattle.glob_attributes.proofs.lemmas.ToldLemmas.{some-more}
use Rattle.glob_attributes.proofs.names.AttributeNames.add_line.Goals as goal

pub returns-in_ok-add_name-in-Macro-clause-err : goal.returns-in_ok-add_name-in-Macro-clause-err
returns-in_ok-add_name-in-Macro-clause-err c =
    let assigned = seen_assignments c.in-Macro.assignments in
    let name = c.in-Macro.name.items in
    let names : List (List ℕ) = map (λ a. a.name) assigned in
    let gives : a_macro name assigned ≡ seen_reading c.args.reading.now = ap seen_reading (sym c.in-Macro.is) in
    let added : c.add_name.new.self ≡ with_names c.args.self.now (name ∷ []) =
    c.in_ok-add_name-in-Macro.ensures.added ∙ ap (λ n. with_names c.args.self.now (n ∷ [])) c.deref.ensures.value in
    on_err_weaker c.add_each.result
    (λ some. subst (λ (g : Gives). AddsSome c.args.self.now (names_given g) c.add_each.new.self) gives
    (some-more c.args.self.now (name ∷ names) names c.add_name.new.self names [] c.add_each.new.self (name ∷ [], refl, added) (sym (append-nil names)) some))
    c.add_each.ensures.err
