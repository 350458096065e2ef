use Rattle.std.proofs.Common.{◌≡◌, length, map, take}
use Rattle.glob_attributes.specs.declared.macro_table.TheConstants.{SLOTS}
use Rattle.glob_attributes.specs.Views.{seen_macro}
use Rattle.glob_attributes.specs.Private.Slots.{HasSlots}
use Rattle.glob_attributes.proofs.macro_table.slots_of.Given as goal

-- the slots of the macros so far are taken
abbrev pub invariant-macros : goal.invariant-macros
invariant-macros l = record {
  wide : length l.slots ≡ SLOTS;
  taken : HasSlots l.slots (take l.place (map seen_macro l.macros));
}
