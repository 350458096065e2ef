-- How the engines tell faults.
use Rattle.std.specs.Prelude.{◌≡◌, ◌↔◌, Bool, Result, IsErrOf, IsTrue}
use Rattle.byte_streams.specs.declared.watched.Watched.{Watched}
use Rattle.byte_streams.specs.Watched.{has_failed}
use Rattle.glob_lines.specs.declared.fault.EngineFault.{EngineFault}
use Rattle.glob_lines.specs.declared.fault.EngineFault.TheVariants.{Memory, Read, Write}

-- Want of memory and a failed read leave the writer as it was; a failed write leaves what `Begun` says.
-- `Read` is told exactly where a read failed, and `Write` exactly where a write did.
pub record TellsFaults {W : Type 0} (result : Result (Unit {0}) EngineFault) (old new : Watched W) (a_read_failed : Bool) (Begun : Type 0) : Type 0 where
  pub memory : IsErrOf result Memory → new ≡ old
  pub read : IsErrOf result Read → new ≡ old
  pub write : IsErrOf result Write → Begun
  pub read_failed : IsErrOf result Read ↔ IsTrue a_read_failed
  pub write_failed : IsErrOf result Write ↔ IsTrue (has_failed new)
