-- The slot of a macro more is taken.
use Rattle.std.proofs.Common.{◌≡◌, ◌<◌, ◌∙◌, ◌+◌, Bool, false, true, length, map, replicate, sym, subst, ap, take, arith}
use Rattle.std.proofs.lemmas.Grind.{common_steps}
use Rattle.std.proofs.lemmas.List.{length-map, length-replicate, length-set, take_all}
use Rattle.std.specs.Prelude.{slice_set}
use Rattle.gix_glob.proofs.lemmas.Elements.{slice_get-map_at}
use Rattle.glob_attributes.specs.declared.macro_table.TheConstants.{SLOTS}
use Rattle.glob_attributes.specs.declared.macros.Macro.{Macro}
use Rattle.glob_attributes.specs.Views.{seen_macro}
use Rattle.glob_attributes.specs.Private.Slots.{HasSlots, slot_of}
use Rattle.glob_attributes.proofs.lemmas.SlotLemmas.{none_taken, slots-more}
use Rattle.glob_attributes.proofs.macro_table.slots_of.Goals as goal

pub macros-init : goal.macros-init
macros-init c = record { wide = length-replicate {A = Bool} SLOTS false; taken = none_taken (replicate SLOTS false) (map seen_macro c.args.macros.now) }

pub macros-preserved : goal.macros-preserved
macros-preserved c =
    let macros = map seen_macro c.args.macros.now in
    let macro = seen_macro c.index-macros-place.result in
    let within : c.macros.place < length c.args.macros.now =
    first_of (omega (arith, c.macros-test.true), grind (arith, common_steps, c.macros-test.true, c.macros.auto.place-end)) in
    let there = slice_get-map_at seen_macro c.args.macros.now c.macros.place c.index-macros-place.result within c.index-macros-place.is in
    let slot : c.from.result ≡ slot_of macro.name = c.from.ensures ∙ c.slot_of.ensures ∙ ap slot_of c.deref.ensures.value
    ∙ ap (λ (m : Macro). slot_of m.name.items) (sym c.index-macros-place.is) in
    record {
      wide = length-set c.macros.slots c.from.result true ∙ c.macros.invariant.wide;
      taken = subst (λ s. HasSlots (slice_set c.macros.slots s true) (take (c.macros.place + 1) macros)) (sym slot)
          (slots-more c.macros.slots macros c.macros.place macro there (omega (arith, within, length-map c.args.macros.now seen_macro))
          (omega (arith, c.macros.invariant.wide)) c.macros.invariant.taken);
    }

pub returns : goal.returns
returns c = subst (HasSlots c.macros.slots)
    (take_all c.macros.place (map seen_macro c.args.macros.now) (omega (arith, c.macros-test.false, length-map c.args.macros.now seen_macro)))
    c.macros.invariant.taken
