-- The entries of a list of patterns, as plain data.
use Rattle.std.specs.Prelude.{ℕ, List, Option}
use Rattle.glob_patterns.specs.declared.mode.Mode.{Mode}
use Rattle.gix_glob.specs.declared.search.pattern.mapping.Mapping.{Mapping}
use Rattle.glob_patterns.specs.PatternParts.{text_of, mode_of, place_of}

-- a pattern with its value and its number
pub record Entry (V : Type 0) : Type 0 where
  pub text : List ℕ
  pub mode : Mode
  pub place : Option ℕ
  pub value : V
  pub number : ℕ

-- the entry that a mapping holds, where `seen` is what is seen of a value
abbrev pub entry_of : {T V : Type 0} → (T → V) → Mapping T → Entry V
entry_of seen m = record {
  text = text_of m.pattern;
  mode = mode_of m.pattern;
  place = place_of m.pattern;
  value = seen m.value;
  number = m.sequence_number;
}
