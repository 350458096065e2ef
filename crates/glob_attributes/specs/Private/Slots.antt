-- Slots of names: most names that no macro has are known by their slot.
use Rattle.std.specs.Prelude.{◌≡◌, ℕ, ◌+◌, ◌-◌, ◌*◌, ◌%◌, Bool, true, false, List, length, Some, slice_get, slice_index, slice_index_or}
use Rattle.glob_attributes.specs.declared.places.Places.{Places}
use Rattle.glob_attributes.specs.Macros.{Definition}
use Rattle.glob_attributes.specs.Private.Filling.{HasLastPlaces}

-- the slot of a name, by its first byte and its last
abbrev pub slot_of : List ℕ → ℕ
slot_of name = ((slice_index name 0 * 32) % 256 + slice_index name (length name - 1)) % 256

-- the slot of each macro's name is taken
abbrev pub HasSlots : List Bool → List Definition → Type 0
HasSlots slots macros = (place : ℕ) (macro : Definition) → slice_get macros place ≡ Some macro → slice_index_or slots (slot_of macro.name) false ≡ true

-- the places and the slots are those of the macros
pub record IsTable (places : Places) (slots : List Bool) (macros : List Definition) : Type 0 where
  pub last : HasLastPlaces places macros
  pub taken : HasSlots slots macros
