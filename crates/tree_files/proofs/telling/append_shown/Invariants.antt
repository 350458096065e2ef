use Rattle.std.proofs.Common.{◌≡◌, ◌++◌, IsUtf8, string_bytes}
use Rattle.std.specs.Str.Iter.{chars_rest}
use Rattle.tree_files.specs.Telling.{shown_text}
use Rattle.tree_files.proofs.telling.append_shown.Given as goal

-- what was appended, and what is still to be, are all
abbrev pub invariant-loop-c : goal.invariant-loop-c
invariant-loop-c l = IsUtf8 (chars_rest l.c-iterator) × (string_bytes l.text ++ shown_text (chars_rest l.c-iterator) ≡ string_bytes l.fn.text ++ shown_text l.fn.told)
