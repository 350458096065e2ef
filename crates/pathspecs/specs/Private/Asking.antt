-- What is asked of each element of a list, and which elements answer by their text alone.
use Rattle.std.specs.Prelude.{◌≡◌, ◌≢◌, ◌⊎◌, ◌<◌, ◌++◌, ◌==◌, ◌||◌, ◌&&◌, ℕ, Bool, true, false, IsTrue, not, List, [], length, slice_index_or}
use Rattle.std.specs.List.{Any, Contains}
use Rattle.pathspecs.specs.declared.asked.Asked.{Asked}
use Rattle.pathspecs.specs.declared.asked.Asked.TheVariants.{Excluding, Meeting, Opening, Entering, Naming, GoingOn}
use Rattle.pathspecs.specs.declared.manner.Manner.{Manner}
use Rattle.pathspecs.specs.declared.manner.Manner.TheVariants.{Below}
use Rattle.pathspecs.specs.Elements.{LeadsInto, Meets, MeetsBy, PathspecItem, is_below}

-- what is asked of an element that is an exclude where an exclude is asked for, and else positive
abbrev pub SaysSo : Asked → PathspecItem → List ℕ → Type 0
SaysSo Excluding item path = Meets item path
SaysSo Meeting item path = Meets item path
SaysSo Opening item path = Meets item path ⊎ LeadsInto item path
SaysSo Entering item path = (Meets item path ⊎ LeadsInto item path) ⊎ (item.magic.icase ≡ true)
SaysSo Naming item path = (way : Manner) × (way ≢ Below) × MeetsBy way item path
SaysSo GoingOn item path = LeadsInto item path × ¬ Meets item path

abbrev pub is_of_exclude : Asked → Bool
is_of_exclude Excluding = true
is_of_exclude Meeting = false
is_of_exclude Opening = false
is_of_exclude Entering = false
is_of_exclude Naming = false
is_of_exclude GoingOn = false

abbrev pub Says : Asked → PathspecItem → List ℕ → Type 0
Says asked item path = (item.magic.exclude ≡ is_of_exclude asked) × SaysSo asked item path

-- a plain element is positive, has no pattern, and its case counts
abbrev pub is_plain : PathspecItem → Bool
is_plain item = not (item.magic.exclude || item.magic.icase) && (item.front == length item.text)

-- the path is the text, or lies below it; the text goes on behind the path
abbrev pub MeetsText : List ℕ → List ℕ → Type 0
MeetsText text path = (text ≡ path) ⊎ ((rest : List ℕ) × (path ≡ text ++ rest) × IsTrue (is_below text rest))

abbrev pub GoesOn : List ℕ → List ℕ → Type 0
GoesOn text path = (rest : List ℕ) × (rest ≢ []) × (text ≡ path ++ rest)

-- so a plain element answers, by its text
abbrev pub SaysText : Asked → List ℕ → List ℕ → Type 0
SaysText Excluding text path = ⊥
SaysText Meeting text path = MeetsText text path
SaysText Opening text path = MeetsText text path ⊎ GoesOn text path
SaysText Entering text path = MeetsText text path ⊎ GoesOn text path
SaysText Naming text path = text ≡ path
SaysText GoingOn text path = GoesOn text path

-- of the elements before a place, these are the texts of the plain ones, and the places of the others
pub record AreParted (items : List PathspecItem) (end : ℕ) (texts : List (List ℕ)) (places : List ℕ) : Type 0 where
  pub only : (text : List ℕ) → Contains texts text → Any (λ item. (is_plain item ≡ true) × (item.text ≡ text)) items
  pub plain : (k : ℕ) (item : PathspecItem) → k < end → slice_index_or items k item ≡ item → is_plain item ≡ true → Contains texts item.text
  pub others : (k : ℕ) (item : PathspecItem) → k < end → slice_index_or items k item ≡ item → is_plain item ≡ false → Contains places k
