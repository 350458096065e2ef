-- A macro of this name comes after those before it.
use Rattle.std.proofs.Common.{◌<◌, Some, length, map, ap, sym, ◌∙◌, arith}
use Rattle.std.proofs.lemmas.Grind.{common_steps}
use Rattle.std.specs.Prelude.{if◌then◌else◌}
use Rattle.std.specs.Str.{bytes_eq}
use Rattle.gix_glob.proofs.lemmas.Elements.{slice_get-map_at}
use Rattle.glob_attributes.specs.declared.macros.Macro.{Macro}
use Rattle.glob_attributes.specs.Views.{seen_macro}
use Rattle.glob_attributes.specs.Private.Places.{place_in}
use Rattle.glob_attributes.proofs.lemmas.FillingLemmas.{last_place-take}
use Rattle.glob_attributes.proofs.macro_table.last_places.Goals as goal

pub macros-preserved : goal.macros-preserved
macros-preserved c = λ name.
    let macros = c.args.macros.now in
    let macro = c.index-macros-place.result in
    let within : c.macros.place < length macros =
    first_of (omega (arith, c.macros-test.true), grind (arith, common_steps, c.macros-test.true, c.macros.auto.place-end)) in
    let there = slice_get-map_at seen_macro macros c.macros.place macro within c.index-macros-place.is in
    c.in_ok-set.ensures.set name
    ∙ ap (λ n. if bytes_eq n name then Some c.macros.place else place_in c.macros.places name) c.deref.ensures.value
    ∙ ap (λ (m : Macro). if bytes_eq m.name.items name then Some c.macros.place else place_in c.macros.places name) (sym c.index-macros-place.is)
    ∙ ap (λ o. if bytes_eq macro.name.items name then Some c.macros.place else o) (c.macros.invariant name)
    ∙ sym (last_place-take name (map seen_macro macros) c.macros.place (seen_macro macro) there)
