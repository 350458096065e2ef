-- Slots of names, after the slot of one macro more is taken.
use Rattle.std.proofs.Common.{◌≡◌, ◌⊎◌, inl, inr, ⊎_elim, ℕ, zero, suc, ◌+◌, ◌<◌, Bool, true, false, List, [], ◌∷◌, ◌++◌, length, Option, None, Some, refl, sym, ap, ◌∙◌, set, get_or, take}
use Rattle.std.specs.Prelude.{slice_get, slice_index_or, slice_set}
use Rattle.std.specs.Option.{MatchOption}
use Rattle.std.proofs.lemmas.Bool.{cases_eq, false≢true}
use Rattle.std.proofs.lemmas.List.{get_or-set_other, get_or-set_same, take_more}
use Rattle.std.proofs.lemmas.Option.{get_or_from_slice_get, none-some, same_Some}
use Rattle.std.proofs.lemmas.Slice.Eq.{bytes_eq-Decides}
use Rattle.glob_attributes.specs.Macros.{Definition}
use Rattle.glob_attributes.specs.Private.Filling.{last_place}
use Rattle.glob_attributes.specs.Private.Slots.{HasSlots, slot_of}
use Rattle.glob_attributes.proofs.lemmas.FillingLemmas.{IsMacroAt, last_named, last_place-cases}
use Rattle.glob_attributes.proofs.lemmas.RowLemmas.{get-split}

pub none_taken : (slots : List Bool) (macros : List Definition) → HasSlots slots (take 0 macros)
none_taken slots macros = λ place macro there. absurd (none-some macro there)

-- a slot that is taken stays taken, and the new one is taken too
pub taken-set : (slots : List Bool) (s t : ℕ) → s < length slots → (t ≡ s) ⊎ (slice_index_or slots t false ≡ true) → slice_index_or (slice_set slots s true) t false ≡ true
taken-set slots s t within (inl same) = ap (λ n. get_or (set slots s true) n false) same ∙ get_or-set_same slots s true false within
taken-set slots s t within (inr taken) =
    ⊎_elim
    (λ same. ap (λ n. get_or (set slots s true) n false) same ∙ get_or-set_same slots s true false within)
    (λ other. get_or-set_other slots s t true false other ∙ taken)
    (cases_eq t s)

only : (x y : Definition) (j : ℕ) → slice_get (x ∷ []) j ≡ Some y → x ≡ y
only x y zero at = same_Some x y at
only x y (suc j) at = absurd (none-some y at)

pub slots-more : (slots : List Bool) (macros : List Definition) (m : ℕ) (macro : Definition) → slice_get macros m ≡ Some macro → m < length macros → slot_of macro.name < length slots
    → HasSlots slots (take m macros) → HasSlots (slice_set slots (slot_of macro.name) true) (take (m + 1) macros)
slots-more slots macros m macro there within inside before = λ place other at.
    let grown : take (m + 1) macros ≡ take m macros ++ macro ∷ [] =
    take_more macros m macro within ∙ ap (λ x. take m macros ++ x ∷ []) (get_or_from_slice_get macros m macro macro there) in
    ⊎_elim
    (λ front. taken-set slots (slot_of macro.name) (slot_of other.name) inside (inr (before place other front)))
    (λ back. taken-set slots (slot_of macro.name) (slot_of other.name) inside (inl (ap (λ (d : Definition). slot_of d.name) (sym (only macro other back.0 back.2)))))
    (get-split (take m macros) (macro ∷ []) place other (ap (λ l. slice_get l place) (sym grown) ∙ at))

-- a name whose slot isn't taken is no macro's
no_macro_at : (slots : List Bool) (macros : List Definition) (name : List ℕ) → HasSlots slots macros → slice_index_or slots (slot_of name) false ≡ false
    → (o : Option ℕ) → MatchOption o (last_named name macros ≡ None) (IsMacroAt macros name) → None ≡ o
no_macro_at slots macros name taken free None h = refl
no_macro_at slots macros name taken free (Some p) h =
    let same = (bytes_eq-Decides h.macro.name name).0 h.named in
    absurd (false≢true (sym free ∙ ap (λ n. slice_index_or slots (slot_of n) false) (sym same) ∙ taken p h.macro h.there))

pub no_macro : (slots : List Bool) (macros : List Definition) (name : List ℕ) → HasSlots slots macros → slice_index_or slots (slot_of name) false ≡ false → None ≡ last_place name macros
no_macro slots macros name taken free = no_macro_at slots macros name taken free (last_place name macros) (last_place-cases name macros)
