-- What is left of lists without some of their lines.
use Rattle.std.specs.Prelude.{◌≡◌, ℕ, ◌+◌, Bool, true, ◌&&◌, ◌==◌, if◌then◌else◌, List, [], ◌∷◌}
use Rattle.std.specs.List.{list_any}
use Rattle.gix_glob.specs.Entries.{Entry}
use Rattle.gix_glob.specs.EntryLists.{EntryList}

-- whether place m of list i is one of the pairs
abbrev pub is_among : List (ℕ × ℕ) → ℕ → ℕ → Bool
is_among gone i m = list_any (λ pair. pair.0 == i && pair.1 == m) gone

-- each pair of the one is one of the other
abbrev pub AreAmong : List (ℕ × ℕ) → List (ℕ × ℕ) → Type 0
AreAmong some all = (i m : ℕ) → is_among some i m ≡ true → is_among all i m ≡ true

module _ {V : Type 0} where
  -- the entries, from place m on, but for those whose place is gone
  abbrev pub entries_but : (ℕ → Bool) → ℕ → List (Entry V) → List (Entry V)
  entries_but gone m [] = []
  entries_but gone m (entry ∷ rest) = if gone m then entries_but gone (m + 1) rest else entry ∷ entries_but gone (m + 1) rest

  -- the lists, from place i on, without the entries at these pairs of places
  abbrev pub lists_but : List (ℕ × ℕ) → ℕ → List (EntryList V) → List (EntryList V)
  lists_but gone i [] = []
  lists_but gone i (list ∷ rest) = record { entries = entries_but (is_among gone i) 0 list.entries; source = list.source; base = list.base } ∷ lists_but gone (i + 1) rest
