-- A macro of this name comes after those before it.
use Rattle.std.proofs.Common.{◌<◌, Some, length, map, take, ap, sym, ◌∙◌, slice_index_or, arith}
use Rattle.std.specs.Prelude.{if◌then◌else◌}
use Rattle.glob_attributes.specs.Borrowed.{definition_of}
use Rattle.glob_attributes.specs.Private.Filling.{last_place}
use Rattle.glob_attributes.proofs.lemmas.FillingLemmas.{last_place-take}
use Rattle.glob_attributes.proofs.lemmas.TellingLemmas.{blank_macro, macro_there}
use Rattle.glob_attributes.proofs.borrowed.telling.last_place.Goals.{then-eq, else-eq}
use Rattle.glob_attributes.proofs.borrowed.telling.last_place.Goals as goal

pub loop-place-preserved : goal.loop-place-preserved
loop-place-preserved c =
    let macros = c.args.macros.now in
    let place = c.loop-place.place in
    let name = c.args.name.now in
    let macro = slice_index_or macros place blank_macro in
    let within : place < length macros = omega (arith, c.loop-place-test.true) in
    let more = last_place-take name (map definition_of macros) place (definition_of macro) (macro_there macros place within) in
    elim c.if-eq.branch [
      | then-eq w ↦ record {
        last = w.found-is ∙ sym (more ∙ ap (λ b. if b then Some place else last_place name (take place (map definition_of macros))) (sym c.eq.ensures ∙ w.if-eq.true));
        inside = rw w.found-is within;
      }
      | else-eq w ↦ record {
        last = w.found-is ∙ c.loop-place.invariant.last
            ∙ sym (more ∙ ap (λ b. if b then Some place else last_place name (take place (map definition_of macros))) (sym c.eq.ensures ∙ w.if-eq.false));
        inside = rw w.found-is c.loop-place.invariant.inside;
      }
    ]
