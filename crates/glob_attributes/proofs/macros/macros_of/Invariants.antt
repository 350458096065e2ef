use Rattle.std.proofs.Common.{◌≡◌, ◌++◌, length, map}
use Rattle.std.specs.List.{filter_map}
use Rattle.glob_lines.specs.Equations.Ignore.{without_returns}
use Rattle.glob_lines.specs.Equations.Lines.{lines_of}
use Rattle.glob_attributes.specs.Macros.{macros_of}
use Rattle.glob_attributes.specs.Views.{seen_macro}
use Rattle.glob_attributes.proofs.lemmas.MacroLemmas.{defined}
use Rattle.glob_attributes.proofs.macros.macros_of.Given as goal

-- the macros so far, with those of the other lines, are all macros
abbrev pub invariant-lines : goal.invariant-lines
invariant-lines l = map seen_macro l.macros.items ++ filter_map defined (lines_of (without_returns l.rest)) ≡ macros_of l.bytes

abbrev pub decreases-lines : goal.decreases-lines
decreases-lines l = length l.rest
