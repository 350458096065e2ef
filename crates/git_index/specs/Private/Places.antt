-- Entries whose paths are told by places in a text.
use Rattle.std.specs.Prelude.{◌≡◌, ℕ, ◌≤◌, List, ◌++◌, length, slice_range}
use Rattle.git_index.specs.declared.place.Place.{Place}
use Rattle.git_index.specs.Entries.{Tracked}

-- the entry whose path lies there
abbrev pub placed : List ℕ → Place → Tracked
placed text p = record { path = slice_range text p.start p.end; stage = p.stage; kind = p.kind; assume_valid = p.assume_valid; skip_worktree = p.skip_worktree; intent_to_add = p.intent_to_add }

abbrev pub LiesWithin : List ℕ → Place → Type 0
LiesWithin text p = (p.start ≤ p.end) × (p.end ≤ length text)

-- the text goes on by the path of this entry
abbrev pub GoesOnBy : List ℕ → List ℕ → Place → Type 0
GoesOnBy before after p = (p.start ≡ length before) × (p.end ≡ length after) × (after ≡ before ++ slice_range after p.start p.end)
