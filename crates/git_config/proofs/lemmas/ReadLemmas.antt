-- One step of a reading.
use Rattle.std.proofs.Common.{◌≡◌, ℕ, ◌+◌, Bool, true, false, cond, eqb, List, [], ◌∷◌, refl, sym, ap, ◌∙◌}
use Rattle.std.proofs.lemmas.Bool.{ne_eqb}
use Rattle.git_config.specs.declared.fault.Wrong.{Wrong}
use Rattle.git_config.specs.declared.item.Item.{Item}
use Rattle.git_config.specs.Grammar.{Place, Reading, Turn, between, goes, gives, fails, before, ended, line_behind, nothing, read, stop, text_of, turn}
use Rattle.git_config.specs.Private.Taking.{IsAtEnd, TakesByte}

pub if_true : {A : Type 0} (t : Bool) (x y : A) → t ≡ true → cond t x y ≡ x
if_true t x y e = ap (λ (v : Bool). cond v x y) e

pub if_false : {A : Type 0} (t : Bool) (x y : A) → t ≡ false → cond t x y ≡ y
if_false t x y e = ap (λ (v : Bool). cond v x y) e

-- the reading behind a turn
abbrev pub behind : Turn → List ℕ → ℕ → ℕ → Reading
behind (goes next) text line b = read text (line_behind line b) next
behind (gives item) text line b = before item (read text (line_behind line b) between)
behind (fails what at) text line b = stop at what

read-turn : (w : Turn) (text : List ℕ) (line b : ℕ) → elim w as (λ _. Reading) [
  | goes next ↦ read text (line_behind line b) next
  | gives item ↦ before item (read text (line_behind line b) between)
  | fails what at ↦ stop at what
] ≡ behind w text line b
read-turn (goes next) text line b = refl
read-turn (gives item) text line b = refl
read-turn (fails what at) text line b = refl

pub read-cons : (b : ℕ) (text : List ℕ) (line : ℕ) (place : Place) → read (b ∷ text) line place ≡ behind (turn line place b) text line b
unfolding read
read-cons b text line place = read-turn (turn line place b) text line b

pub read-end : (line : ℕ) (place : Place) → read [] line place ≡ ended line place
unfolding read
read-end line place = refl

-- ---- a byte that is taken

taken : {old new : List ℕ} {old_line new_line b : ℕ} (place : Place) → TakesByte old new old_line new_line b
    → read (text_of old) old_line place ≡ behind (turn old_line place b) (text_of new) old_line b
taken {old} {new} {old_line} {new_line} {b} place t = ap (λ text. read text old_line place) t.joined ∙ read-cons b (text_of new) old_line place

pub goes_byte : {old new : List ℕ} {old_line new_line b : ℕ} (place next : Place) → TakesByte old new old_line new_line b → turn old_line place b ≡ goes next
    → read (text_of old) old_line place ≡ read (text_of new) new_line next
goes_byte {old} {new} {old_line} {new_line} {b} place next t e =
    taken place t ∙ ap (λ w. behind w (text_of new) old_line b) e ∙ ap (λ line. read (text_of new) line next) (sym t.line)

pub gives_byte : {old new : List ℕ} {old_line new_line b : ℕ} (place : Place) (item : Item (List ℕ)) → TakesByte old new old_line new_line b → turn old_line place b ≡ gives item
    → read (text_of old) old_line place ≡ before item (read (text_of new) new_line between)
gives_byte {old} {new} {old_line} {new_line} {b} place item t e =
    taken place t ∙ ap (λ w. behind w (text_of new) old_line b) e ∙ ap (λ line. before item (read (text_of new) line between)) (sym t.line)

pub fails_byte : {old new : List ℕ} {old_line new_line b : ℕ} (place : Place) (what : Wrong) (at : ℕ) → TakesByte old new old_line new_line b → turn old_line place b ≡ fails what at
    → read (text_of old) old_line place ≡ stop at what
fails_byte {old} {new} {old_line} {new_line} {b} place what at t e = taken place t ∙ ap (λ w. behind w (text_of new) old_line b) e

-- ---- the end of the text

pub at_end : {old new : List ℕ} {old_line new_line : ℕ} (place : Place) → IsAtEnd old new old_line new_line → read (text_of old) old_line place ≡ ended old_line place
at_end {old} {new} {old_line} {new_line} place e = ap (λ bytes. read (text_of bytes) old_line place) e.was ∙ read-end old_line place

pub end_between : {old new : List ℕ} {old_line new_line : ℕ} → IsAtEnd old new old_line new_line → read (text_of new) new_line between ≡ nothing
end_between {old} {new} {old_line} {new_line} e = ap (λ bytes. read (text_of bytes) new_line between) e.is ∙ read-end new_line between

-- ---- equal parts of a reading

-- a fault at an equal line
pub failed : {at to : ℕ} (what : Wrong) → at ≡ to → stop at what ≡ stop to what
failed {at} {to} what e = ap (λ (line : ℕ). stop line what) e

-- an equal place
pub placed : {A : Type 0} {x y : A} (text : List ℕ) (line : ℕ) (place : A → Place) → x ≡ y → read text line (place x) ≡ read text line (place y)
placed {A} {x} {y} text line place e = ap (λ (z : A). read text line (place z)) e

-- an equal item
pub begun : {A : Type 0} {x y : A} (item : A → Item (List ℕ)) (rest : Reading) → x ≡ y → before (item x) rest ≡ before (item y) rest
begun {A} {x} {y} item rest e = ap (λ (z : A). before (item z) rest) e

-- ---- a byte at the front of a text

pub goes_here : (b : ℕ) (text : List ℕ) (line : ℕ) (place next : Place) → (b ≡ 10 → ⊥) → turn line place b ≡ goes next → read (b ∷ text) line place ≡ read text line next
goes_here b text line place next other e =
    read-cons b text line place ∙ ap (λ w. behind w text line b) e ∙ ap (λ (at : ℕ). read text at next) (if_false (eqb b 10) (line + 1) line (ne_eqb b 10 other))

pub fails_here : (b : ℕ) (text : List ℕ) (line : ℕ) (place : Place) (what : Wrong) (at : ℕ) → turn line place b ≡ fails what at → read (b ∷ text) line place ≡ stop at what
fails_here b text line place what at e = read-cons b text line place ∙ ap (λ w. behind w text line b) e
