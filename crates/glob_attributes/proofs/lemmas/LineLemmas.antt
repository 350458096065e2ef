-- What a line gives, by what its text begins with.
use Rattle.std.proofs.Common.{◌≡◌, ℕ, ◌<◌, ◌≤◌, Bool, true, false, cond, List, length, map, Option, None, Some, refl, sym, ap, ◌∙◌, arith}
use Rattle.std.specs.Prelude.{◌&&◌, not, codes, nat_eq, nat_le, nat_lt}
use Rattle.std.specs.List.{before_first, list_all, starts_with}
use Rattle.std.proofs.lemmas.Bool.{and_parts, ltb-true, le-leb, lt-leb}
use Rattle.glob_attributes.specs.declared.line.Silence.TheVariants.{TooLong, MacroBelowTop, MacroName, AttributeName, Negative}
use Rattle.glob_attributes.specs.Assignments.{Assigned, assignment_of}
use Rattle.glob_attributes.specs.Borrowed.{spelled_head}
use Rattle.glob_attributes.specs.Equations.Heads.{head_of}
use Rattle.glob_attributes.specs.Names.{is_name}
use Rattle.glob_attributes.specs.Readings.{Gives, a_macro, a_pattern, line_gives, nothing, silent}
use Rattle.glob_attributes.specs.Private.Heads.{spelled}
use Rattle.glob_attributes.specs.Private.Readings.{assigning, is_macro, is_zero, macro_name, macro_reading, pattern_reading, says_nothing}
use Rattle.glob_attributes.specs.Words.{after_blanks, words_of}

-- a macro's head has more bytes than `[attr]`
pub is_macro-length : (head : List ℕ) → is_macro head ≡ true → 6 ≤ length head
is_macro-length head is = let parts = and_parts (starts_with nat_eq head (codes "[attr]")) (nat_lt 6 (length head)) is in
    let long : 6 < length head = ltb-true 6 (length head) parts.1 in omega arith

-- ---- what a head and the rest of its line give, by tests

abbrev pub by_reasons : Bool → Bool → Bool → Bool → Bool → Gives → Gives → Gives
by_reasons macro top named valid negative defined given =
    cond (macro && not top) (silent MacroBelowTop)
    (cond (macro && not named) (silent MacroName)
    (cond (not valid) (silent AttributeName)
    (cond macro defined
    (cond negative (silent Negative) given))))

abbrev head_gives : Bool → Bool → List ℕ → List ℕ → Gives
head_gives is_top macro head rest =
    let assigned = map assignment_of (words_of rest) in
    by_reasons macro is_top (is_name (macro_name head)) (list_all (λ assignment. is_name assignment.name) assigned)
    (starts_with nat_eq head (codes "!")) (a_macro (macro_name head) assigned) (a_pattern (before_first is_zero head) assigned)

macro_by : (top named valid negative : Bool) (name : List ℕ) (assigned : List Assigned) (given : Gives)
    → cond (not top) (silent MacroBelowTop) (cond (not named) (silent MacroName) (assigning (cond valid (Some assigned) None) (a_macro name)))
    ≡ by_reasons true top named valid negative (a_macro name assigned) given
macro_by false named valid negative name assigned given = refl
macro_by true false valid negative name assigned given = refl
macro_by true true false negative name assigned given = refl
macro_by true true true negative name assigned given = refl

pattern_by : (top named valid negative : Bool) (bytes : List ℕ) (assigned : List Assigned) (defined : Gives)
    → assigning (cond valid (Some assigned) None) (λ all. cond negative (silent Negative) (a_pattern bytes all))
    ≡ by_reasons false top named valid negative defined (a_pattern bytes assigned)
pattern_by top named false negative bytes assigned defined = refl
pattern_by top named true negative bytes assigned defined = refl

macro_gives : (is_top : Bool) (head rest : List ℕ) → is_macro head ≡ true → macro_reading is_top head rest ≡ head_gives is_top (is_macro head) head rest
macro_gives is_top head rest defines =
    let assigned = map assignment_of (words_of rest) in
    macro_by is_top (is_name (macro_name head)) (list_all (λ assignment. is_name assignment.name) assigned) (starts_with nat_eq head (codes "!"))
    (macro_name head) assigned (a_pattern (before_first is_zero head) assigned)
    ∙ sym (ap (λ t. head_gives is_top t head rest) defines)

pattern_gives : (is_top : Bool) (head rest : List ℕ) → is_macro head ≡ false → pattern_reading head rest ≡ head_gives is_top (is_macro head) head rest
pattern_gives is_top head rest other =
    let assigned = map assignment_of (words_of rest) in
    pattern_by is_top (is_name (macro_name head)) (list_all (λ assignment. is_name assignment.name) assigned) (starts_with nat_eq head (codes "!"))
    (before_first is_zero head) assigned (a_macro (macro_name head) assigned)
    ∙ sym (ap (λ t. head_gives is_top t head rest) other)

-- ---- what a line gives

-- the text of a line, and what is left of it behind its blanks
pub record IsInner (line text inner : List ℕ) : Type 0 where
  pub text_is : text ≡ before_first is_zero line
  pub inner_is : inner ≡ after_blanks text

abbrev pub by_tests : Bool → Bool → Gives → Gives
by_tests says long given = cond says nothing (cond long (silent TooLong) given)

abbrev parts_give : Bool → List ℕ × List ℕ → Gives
parts_give is_top parts = head_gives is_top (is_macro parts.0) parts.0 parts.1

abbrev text_gives : Bool → List ℕ → List ℕ → Gives
text_gives is_top text inner = by_tests (says_nothing inner) (nat_le 2048 (length text)) (parts_give is_top (head_of inner))

pub line_gives-inner : (is_top : Bool) (line text inner : List ℕ) → IsInner line text inner → text_gives is_top text inner ≡ line_gives is_top line
unfolding line_gives
line_gives-inner is_top line text inner h = ap (text_gives is_top text) h.inner_is ∙ ap (λ t. text_gives is_top t (after_blanks t)) h.text_is

module _ (is_top : Bool) (line text inner : List ℕ) (h : IsInner line text inner) where
  pub gives-nothing : says_nothing inner ≡ true → nothing ≡ line_gives is_top line
  gives-nothing says = sym (ap (λ t. by_tests t (nat_le 2048 (length text)) (parts_give is_top (head_of inner))) says) ∙ line_gives-inner is_top line text inner h

  pub gives-too_long : says_nothing inner ≡ false → 2048 ≤ length text → silent TooLong ≡ line_gives is_top line
  gives-too_long says long =
      sym (ap (λ t. by_tests t (nat_le 2048 (length text)) (parts_give is_top (head_of inner))) says
      ∙ ap (λ t. by_tests false t (parts_give is_top (head_of inner))) (le-leb 2048 (length text) long))
      ∙ line_gives-inner is_top line text inner h

  gives-head : (head rest : List ℕ) → says_nothing inner ≡ false → length text < 2048 → (head, rest) ≡ head_of inner
      → head_gives is_top (is_macro head) head rest ≡ line_gives is_top line
  gives-head head rest says short is =
      ap (parts_give is_top) is
      ∙ sym (ap (λ t. by_tests t (nat_le 2048 (length text)) (parts_give is_top (head_of inner))) says
      ∙ ap (λ t. by_tests false t (parts_give is_top (head_of inner))) (lt-leb 2048 (length text) short))
      ∙ line_gives-inner is_top line text inner h

  pub gives-macro : (head rest : List ℕ) → says_nothing inner ≡ false → length text < 2048 → (head, rest) ≡ head_of inner → is_macro head ≡ true → macro_reading is_top head rest ≡ line_gives is_top line
  gives-macro head rest says short is defines = macro_gives is_top head rest defines ∙ gives-head head rest says short is

  pub gives-pattern : (head rest : List ℕ) → says_nothing inner ≡ false → length text < 2048 → (head, rest) ≡ head_of inner → is_macro head ≡ false → pattern_reading head rest ≡ line_gives is_top line
  gives-pattern head rest says short is other = pattern_gives is_top head rest other ∙ gives-head head rest says short is

-- ---- what the head of a line spells between quotes

abbrev spelled_by : List ℕ → List ℕ → Option (List ℕ)
spelled_by text inner = cond (nat_le 2048 (length text)) None (spelled inner)

spelled_head-inner : (line text inner : List ℕ) → IsInner line text inner → spelled_by text inner ≡ spelled_head line
spelled_head-inner line text inner h = ap (spelled_by text) h.inner_is ∙ ap (λ t. spelled_by t (after_blanks t)) h.text_is

pub spelled-inner : (line text inner : List ℕ) → IsInner line text inner → length text < 2048 → spelled_head line ≡ spelled inner
spelled-inner line text inner h short = sym (spelled_head-inner line text inner h) ∙ ap (λ t. cond t None (spelled inner)) (lt-leb 2048 (length text) short)
