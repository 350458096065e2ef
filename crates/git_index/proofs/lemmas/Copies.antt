-- Copies of entries.
use Rattle.std.proofs.Common.{◌≡◌, refl}
use Rattle.git_index.specs.declared.entry.Entry.{Entry}
use Rattle.git_index.specs.Entries.{tracked}

-- a copy of each field says the same of the path
pub copied : (e copy : Entry)
    → (copy.path ≡ e.path)
    × ((copy.stage ≡ e.stage) × ((copy.kind ≡ e.kind) × ((copy.assume_valid ≡ e.assume_valid) × ((copy.skip_worktree ≡ e.skip_worktree) × (copy.intent_to_add ≡ e.intent_to_add)))))
    → tracked copy ≡ tracked e
copied e copy fields = rw (fields.0, fields.1.0, fields.1.1.0, fields.1.1.1.0, fields.1.1.1.1.0, fields.1.1.1.1.1) refl
