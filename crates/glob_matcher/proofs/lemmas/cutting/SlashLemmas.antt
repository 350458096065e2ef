-- Slashes under folding, and which tokens of one byte take one.
use Rattle.std.proofs.Common.{◌≡◌, inl, inr, ℕ, ◌+◌, ◌-◌, Bool, true, false, IsTrue, if◌then◌else◌, List, refl, sym, ◌∙◌, ap, subst, arith, rules, tests}
use Rattle.std.specs.Char.{to_ascii_lowercase}
use Rattle.glob_matcher.specs.declared.wildmatch.way.Way.{Way}
use Rattle.glob_matcher.specs.Bytes.{HasByte, fold, folds, is_path, slash}
use Rattle.glob_matcher.specs.Private.Spelling.{question_mark, close_bracket}
use Rattle.glob_matcher.specs.Sets.{Set, set_holds}
use Rattle.glob_matcher.specs.Tokens.{Token, Byte, Any, OneOf, Free, Local, Dirs, Nothing, TokenAt}
use Rattle.glob_matcher.specs.Matching.{Fits}
use Rattle.glob_matcher.proofs.lemmas.reading.SetLemmas.{HasByte-unique, two_bytes}
use Rattle.glob_matcher.proofs.lemmas.cutting.CutLemmas.{IsOne}
use Rattle.glob_matcher.proofs.lemmas.reading.Existence.{items_close}

-- a byte whose lowercase form is a slash is one
pub slash_of_lowercase : (b : ℕ) → to_ascii_lowercase b ≡ slash → b ≡ slash
slash_of_lowercase b is = grind arith

-- a slash folds to itself, and nothing else does
pub slash_is_folded : (way : Way) → fold way slash ≡ slash
slash_is_folded way = by (folds way) where
  by : (b : Bool) → (if b then to_ascii_lowercase slash else slash) ≡ slash
  by true = refl
  by false = refl

pub fold_slash : (way : Way) (c : ℕ) → fold way c ≡ fold way slash → c ≡ slash
fold_slash way c is = by (folds way) (is ∙ slash_is_folded way) where
  by : (b : Bool) → (if b then to_ascii_lowercase c else c) ≡ slash → c ≡ slash
  by true e = slash_of_lowercase c e
  by false e = e

-- in path mode no set holds a slash
pub no_slash_in_set : (way : Way) (s : Set) → IsTrue (is_path way) → IsTrue (set_holds way s slash) → ⊥
no_slash_in_set way s path holds = search (rules, tests)

-- in path mode a token of one byte that takes a slash takes nothing else
pub only_slash : (way : Way) (t : Token) (c : ℕ) → IsTrue (is_path way) → Fits way t slash → Fits way t c → c ≡ slash
only_slash way (Byte b) c path x y = fold_slash way c (y ∙ sym x)
only_slash way Any c path x y = absurd (x path refl)
only_slash way (OneOf s) c path x y = absurd (no_slash_in_set way s path x)
only_slash way Free c path x y = absurd x
only_slash way Local c path x y = absurd x
only_slash way Dirs c path x y = absurd x
only_slash way Nothing c path x y = absurd x

-- a token of one byte whose spelling ends in a slash is a slash
pub ends_in_slash_byte : (way : Way) (p : List ℕ) (i : ℕ) (t : Token) (j : ℕ) → IsOne t → TokenAt way p i t j
    → HasByte p (j - 1) slash → t ≡ Byte slash
ends_in_slash_byte way p i (Byte b) j one (inl e) last =
    let after : j ≡ i + 2 = e.1 in
    let place : j - 1 ≡ i + 1 = omega arith in
    ap Byte (HasByte-unique p (i + 1) b slash e.0.byte (subst (λ (n : ℕ). HasByte p n slash) place last))
ends_in_slash_byte way p i (Byte b) j one (inr e) last =
    let after : j ≡ i + 1 = e.2 in
    let place : j - 1 ≡ i = omega arith in
    ap Byte (HasByte-unique p i b slash e.0 (subst (λ (n : ℕ). HasByte p n slash) place last))
ends_in_slash_byte way p i Any j one e last =
    let after : j ≡ i + 1 = e.1 in
    let place : j - 1 ≡ i = omega arith in
    absurd (two_bytes p i question_mark slash e.0 (subst (λ (n : ℕ). HasByte p n slash) place last) (λ h. omega arith))
ends_in_slash_byte way p i (OneOf s) j one e last =
    let close : HasByte p e.close close_bracket = items_close p _ _ _ s.items e.close e.items in
    let after : j ≡ e.close + 1 = e.after in
    let place : j - 1 ≡ e.close = omega arith in
    absurd (two_bytes p e.close close_bracket slash close (subst (λ (n : ℕ). HasByte p n slash) place last) (λ h. omega arith))
ends_in_slash_byte way p i Free j one e last = absurd one
ends_in_slash_byte way p i Local j one e last = absurd one
ends_in_slash_byte way p i Dirs j one e last = absurd one
ends_in_slash_byte way p i Nothing j one e last = absurd one
