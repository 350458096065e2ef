-- Ways to match: what a mode asks for, and bytes that live in each way.
use Rattle.std.proofs.Common.{◌≡◌, Bool, true, false, not, cond, IsTrue, refl, sym, ◌∙◌, ap}
use Rattle.std.specs.Prelude.{◌==◌, bit_and}
use Rattle.std.proofs.lemmas.Bool.{and_right}
use Rattle.glob_matcher.specs.declared.wildmatch.mode.Mode.{Mode}
use Rattle.glob_matcher.specs.declared.wildmatch.way.Folding.{Folding}
use Rattle.glob_matcher.specs.declared.wildmatch.way.Folding.TheVariants.{Off, Both, Exact}
use Rattle.glob_matcher.specs.declared.wildmatch.way.Way.{Way}
use Rattle.glob_matcher.specs.Bytes.{folding, folds, is_on, slash, way_with}
use Rattle.glob_matcher.specs.ExactFolding.{is_dead, is_exact}
use Rattle.glob_matcher.specs.Ways.{way_of}

pub folding_with : (path : Bool) (how : Folding) → folding (way_with path how) ≡ how
folding_with false Off = refl
folding_with true Off = refl
folding_with false Both = refl
folding_with true Both = refl
folding_with false Exact = refl
folding_with true Exact = refl

folds_with : (path : Bool) (how : Folding) → folds (way_with path how) ≡ is_on how
folds_with path how = ap is_on (folding_with path how)

-- no mode asks for exact folding
pub modes_are_inexact : (mode : Mode) → is_exact (way_of mode) ≡ false
modes_are_inexact mode = by (bit_and mode.0 1 == 1) (bit_and mode.0 2 == 2) where
  by : (path on : Bool) → is_exact (way_with path (cond on Both Off)) ≡ false
  by false false = refl
  by true false = refl
  by false true = refl
  by true true = refl

-- two modes fold alike where both fold or neither does
pub same_folding : (mode other : Mode) → folds (way_of mode) ≡ folds (way_of other) → folding (way_of mode) ≡ folding (way_of other)
same_folding mode other same = by (bit_and mode.0 1 == 1) (bit_and other.0 1 == 1) (bit_and mode.0 2 == 2) (bit_and other.0 2 == 2) same where
  by : (path path' on on' : Bool) → folds (way_with path (cond on Both Off)) ≡ folds (way_with path' (cond on' Both Off))
      → folding (way_with path (cond on Both Off)) ≡ folding (way_with path' (cond on' Both Off))
  by path path' on on' is =
      folding_with path (cond on Both Off) ∙ alike on on' (sym (folds_with path (cond on Both Off)) ∙ is ∙ folds_with path' (cond on' Both Off))
      ∙ sym (folding_with path' (cond on' Both Off)) where
        alike : (on on' : Bool) → is_on (cond on Both Off) ≡ is_on (cond on' Both Off) → cond on Both Off ≡ cond on' Both Off
        alike true true same = refl
        alike true false same = cc
        alike false true same = cc
        alike false false same = refl

-- a slash is no capital
pub slash_lives : (way : Way) → IsTrue (not (is_dead way slash))
slash_lives way = ap not (and_right (is_exact way) false refl)
