-- The entry of a reading.
use Rattle.std.specs.Prelude.{ℕ}
use Rattle.glob_patterns.specs.Equations.Readings.{Reading}
use Rattle.gix_glob.specs.Entries.{Entry}

-- the entry of a line's reading, with a value and a number
abbrev pub entry_with : {V : Type 0} → V → ℕ → Reading → Entry V
entry_with value number reading = record {
  text = reading.text;
  mode = reading.mode;
  place = reading.place;
  value = value;
  number = number;
}
