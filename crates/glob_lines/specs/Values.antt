-- The text of values: what is written for the lines of values and a pattern.
use Rattle.std.specs.Prelude.{◌≡◌, ◌⊎◌, ℕ, List, codes}
use Rattle.gix_glob.specs.declared.wildmatch.Mode.{Mode}
use Rattle.gix_glob.specs.Matching.{Splits}
use Rattle.glob_lines.specs.Lines.{WritesLines}

-- the line for a value: `yes` where the pattern matches it, and else `no`
abbrev pub WritesAnswer : List ℕ → Mode → List ℕ → List ℕ → Type 0
WritesAnswer pattern mode value written =
    (Splits value pattern mode × (written ≡ codes "yes")) ⊎ (¬ Splits value pattern mode × (written ≡ codes "no"))

-- The text of values: a line with the answer for each line of the input, in order.
abbrev pub ValuesText : List ℕ → Mode → List ℕ → List ℕ → Type 0
ValuesText pattern mode input text = WritesLines (WritesAnswer pattern mode) input text
