-- A name whose slot isn't taken is no macro's.
use Rattle.std.proofs.Common.{◌∙◌, false, ap, subst, sym}
use Rattle.std.specs.Prelude.{slice_index_or}
use Rattle.glob_attributes.specs.Private.Slots.{HasSlots}
use Rattle.glob_attributes.proofs.lemmas.SlotLemmas.{no_macro}
use Rattle.glob_attributes.proofs.macro_table.MacroTable.place_of.Goals as goal

pub returns-then-not-self-from : goal.returns-then-not-self-from
returns-then-not-self-from c =
    no_macro c.self.inside.slots c.args.self.now c.args.name.now (subst (HasSlots c.self.inside.slots) c.self.view_is c.self.invariant.taken)
    (ap (λ s. slice_index_or c.self.inside.slots s false) (sym (c.from.ensures ∙ c.slot_of.ensures)) ∙ c.if-not-self-from.true)
