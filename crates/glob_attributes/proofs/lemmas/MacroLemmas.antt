-- The macros of lines, one line after the other.
use Rattle.std.proofs.Common.{◌≡◌, ℕ, true, List, [], ◌∷◌, ◌++◌, map, Option, None, Some, refl, sym, ap, ◌∙◌, append_assoc}
use Rattle.std.specs.Prelude.{Vec}
use Rattle.std.specs.List.{cons_option, filter_map}
use Rattle.std.specs.declared.alloc.Global.{Global}
use Rattle.std.proofs.lemmas.List.{map_push}
use Rattle.glob_attributes.specs.declared.assignment.Assignment.{Assignment}
use Rattle.glob_attributes.specs.declared.line.LineReading.{LineReading}
use Rattle.glob_attributes.specs.declared.line.LineReading.TheVariants as read
use Rattle.glob_attributes.specs.declared.macros.Macro.{Macro}
use Rattle.glob_attributes.specs.Macros.{Definition, definition_given}
use Rattle.glob_attributes.specs.Views.{seen_macro, seen_reading}
use Rattle.glob_attributes.specs.Readings.{line_gives}

abbrev pub defined : List ℕ → Option Definition
defined line = definition_given (line_gives true line)

-- a line was read that defines a macro
pub defined-more : (old new : List Macro) (m : Macro) (lines more : List (List ℕ)) (line : List ℕ) (all : List Definition)
    → new ≡ old ++ m ∷ [] → lines ≡ line ∷ more → defined line ≡ Some (seen_macro m)
    → map seen_macro old ++ filter_map defined lines ≡ all → map seen_macro new ++ filter_map defined more ≡ all
defined-more old new m lines more line all grown is defines meant =
    let rest = filter_map defined more in
    let here : filter_map defined lines ≡ seen_macro m ∷ rest = ap (filter_map defined) is ∙ ap (λ o. cons_option o rest) defines in
    ap (λ l. map seen_macro l ++ rest) grown
    ∙ ap (λ l. l ++ rest) (map_push seen_macro old m)
    ∙ append_assoc (map seen_macro old) (seen_macro m ∷ []) rest
    ∙ ap (λ l. map seen_macro old ++ l) (sym here)
    ∙ meant

-- a line was read that defines none
pub defined-other : (old : List Macro) (lines more : List (List ℕ)) (line : List ℕ) (all : List Definition)
    → lines ≡ line ∷ more → defined line ≡ None
    → map seen_macro old ++ filter_map defined lines ≡ all → map seen_macro old ++ filter_map defined more ≡ all
defined-other old lines more line all is none meant =
    ap (λ l. map seen_macro old ++ l) (sym (ap (filter_map defined) is ∙ ap (λ o. cons_option o (filter_map defined more)) none)) ∙ meant

pub definition_given-other : (given : LineReading) → ((name : Vec ℕ Global) (assignments : Vec (Assignment (Vec ℕ Global)) Global) → given ≡ read.Macro name assignments → ⊥) → definition_given (seen_reading given) ≡ None
definition_given-other read.Nothing other = refl
definition_given-other (read.Silent silence) other = refl
definition_given-other (read.Macro name assignments) other = absurd (other name assignments refl)
definition_given-other (read.Pattern pattern assignments) other = refl
