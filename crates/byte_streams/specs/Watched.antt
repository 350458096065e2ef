-- A reader or a writer under watch.
use Rattle.std.specs.Prelude.{◌==◌, ℕ, Bool, true, not, ◌&&◌, List, length, Result, Ok, Err}
use Rattle.byte_streams.specs.declared.watched.Watched.{Watched}

-- the reader or the writer under watch
abbrev pub inner : {D : Type 0} → Watched D → D
inner w = w.inner

-- whether a call on it has failed
abbrev pub has_failed : {D : Type 0} → Watched D → Bool
has_failed w = w.failed

-- whether a write failed: it answered an error, or took no byte of a piece that is not empty
abbrev pub is_failed_write : {E : Type 0} → Result ℕ E → List ℕ → Bool
is_failed_write (Ok n) piece = (n == 0) && not (length piece == 0)
is_failed_write (Err e) piece = true
