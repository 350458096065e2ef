-- Keys of sections, and what they include.
use Rattle.std.proofs.Common.{◌≡◌, ⊎_elim, ℕ, ◌+◌, ◌-◌, Bool, true, false, List, [], ◌∷◌, ◌++◌, length, take, drop, Option, None, Some, Bor, Result, Ok, Err, refl, sym, ap, subst, ◌∙◌, inr, append_assoc, arith}
use Rattle.std.specs.Prelude.{◌↔◌, ◌||◌, ◌==◌, IfOk, IsTrue, MatchOption, codes, nat_eq}
use Rattle.std.specs.List.{ends_with, list_any}
use Rattle.std.specs.declared.alloc.AllocError.{AllocError}
use Rattle.std.proofs.lemmas.Bool.{false≢true}
use Rattle.std.proofs.lemmas.List.{append_cancel_left, append_cancel_right, length-append, take-append-drop}
use Rattle.git_config.specs.declared.surroundings.Surroundings.{Surroundings}
use Rattle.git_config.specs.Grammar.{before_zero}
use Rattle.git_config.specs.Includes.{Holds, Includes}
use Rattle.git_config.specs.Private.Scopes.{conditional}
use Rattle.git_config.proofs.lemmas.ConditionLemmas.{drop_front, stripped}
use Rattle.git_config.proofs.lemmas.KeyLemmas.{with_zero, without_zero}
use lib.Pointwise.{bytes_decides, pointwise}

-- ---- conditions

pub other_back : (key rest : List ℕ) → rest ≡ drop 10 key → pointwise nat_eq (drop (length rest - 5) rest) (codes ".path") ≡ false → (c : List ℕ) → ¬ (key ≡ conditional c)
other_back key rest r h c e =
    let is : rest ≡ c ++ codes ".path" = r ∙ ap (λ (k : List ℕ). drop 10 k) e in
    let long : length rest - 5 ≡ length c = omega (arith, ap (λ (l : List ℕ). length l) is, length-append c (codes ".path")) in
    let tail : drop (length rest - 5) rest ≡ codes ".path" = ap (λ (n : ℕ). drop n rest) long ∙ ap (λ (l : List ℕ). drop (length c) l) is ∙ drop_front c (codes ".path") in
    false≢true (sym h ∙ ap (λ (l : List ℕ). pointwise nat_eq l (codes ".path")) tail)

pub both_ends : (key rest c : List ℕ) → pointwise nat_eq (take 10 key) (codes "includeif.") ≡ true → rest ≡ drop 10 key
    → pointwise nat_eq (drop (length rest - 5) rest) (codes ".path") ≡ true → c ≡ take (length rest - 5) rest → key ≡ conditional c
both_ends key rest c h r t e =
    let n = length rest - 5 in
    let back : drop n rest ≡ codes ".path" = (bytes_decides (drop n rest) (codes ".path")).0 t in
    let is : rest ≡ c ++ codes ".path" = sym (take-append-drop n rest) ∙ ap (λ (l : List ℕ). take n rest ++ l) back ∙ ap (λ (l : List ℕ). l ++ codes ".path") (sym e) in
    stripped (codes "includeif.") key h ∙ ap (λ (l : List ℕ). codes "includeif." ++ l) (sym r ∙ is)

-- what stripping answers
pub condition_as : (r : Option (Bor (List ℕ))) (key rest : List ℕ) → pointwise nat_eq (take 10 key) (codes "includeif.") ≡ true → rest ≡ drop 10 key
    → MatchOption r (pointwise nat_eq (drop (length rest - 5) rest) (codes ".path") ≡ false)
    (λ x. (pointwise nat_eq (drop (length rest - 5) rest) (codes ".path") ≡ true) × (x.now ≡ take (length rest - 5) rest) × (length x.now + 5 ≡ length rest))
    → MatchOption r ((c : List ℕ) → ¬ (key ≡ conditional c)) (λ x. key ≡ conditional x.now)
condition_as None key rest h r m = other_back key rest r m
condition_as (Some x) key rest h r m = both_ends key rest x.now h r m.0 m.1

same_condition : (a b : List ℕ) → conditional a ≡ conditional b → a ≡ b
same_condition a b e = append_cancel_right a b (codes ".path") (append_cancel_left (codes "includeif.") (a ++ codes ".path") (b ++ codes ".path") e)

-- ---- what a key includes

pub no_condition : (around : Surroundings) (real : Option (List ℕ)) (key : List ℕ) → ¬ (key ≡ codes "include.path") → ((c : List ℕ) → ¬ (key ≡ conditional c)) → ¬ Includes around real key
no_condition around real key plain none i =
    ⊎_elim (λ (e : key ≡ codes "include.path"). plain e) (λ (h : (c : List ℕ) × (key ≡ conditional c) × Holds around real c). none h.0 h.1) i

pub by_condition : (around : Surroundings) (real : Option (List ℕ)) (key c : List ℕ) (r : Result Bool AllocError) → ¬ (key ≡ codes "include.path") → key ≡ conditional c
    → IfOk r (λ so. IsTrue so ↔ Holds around real c) → IfOk r (λ so. IsTrue so ↔ Includes around real key)
by_condition around real key c (Ok so) plain e h = (
  λ t. inr (c, e, h.0 t),
  λ i. ⊎_elim (λ (p : key ≡ codes "include.path"). absurd (plain p))
      (λ (w : (x : List ℕ) × (key ≡ conditional x) × Holds around real x). h.1 (subst (λ (x : List ℕ). Holds around real x) (same_condition w.0 c (sym w.1 ∙ e)) w.2)) i,
)
by_condition around real key c (Err fault) plain e h = tt

-- an equal key includes the same
pub as_key : (around : Surroundings) (real : Option (List ℕ)) (so : Bool) (a b : List ℕ) → a ≡ b → (IsTrue so ↔ Includes around real b) → IsTrue so ↔ Includes around real a
as_key around real so a b e h = subst (λ (l : List ℕ). IsTrue so ↔ Includes around real l) (sym e) h

-- ---- names in a section

abbrev is_stop : ℕ → Bool
is_stop b = b == 46

or_true : (b : Bool) → (b || true) ≡ true
or_true true = refl
or_true false = refl

has_stop : (a s : List ℕ) → list_any is_stop (a ++ 46 ∷ s) ≡ true
has_stop [] s = refl
has_stop (x ∷ a) s = ap (λ (t : Bool). is_stop x || t) (has_stop a s) ∙ or_true (is_stop x)

-- what follows the last full stop
last_part : (a b s t : List ℕ) → list_any is_stop s ≡ false → list_any is_stop t ≡ false → a ++ 46 ∷ s ≡ b ++ 46 ∷ t → s ≡ t
last_part [] [] s t hs ht e = cc
last_part [] (y ∷ b) s t hs ht e =
    let is : s ≡ b ++ 46 ∷ t = cc in
    absurd (false≢true (sym hs ∙ ap (λ (l : List ℕ). list_any is_stop l) is ∙ has_stop b t))
last_part (x ∷ a) [] s t hs ht e =
    let is : t ≡ a ++ 46 ∷ s = cc in
    absurd (false≢true (sym ht ∙ ap (λ (l : List ℕ). list_any is_stop l) is ∙ has_stop a s))
last_part (x ∷ a) (y ∷ b) s t hs ht e = last_part a b s t hs ht (cc)

pub cut_same : (section name : List ℕ) → list_any (λ b. b == 0) section ≡ true → before_zero (section ++ name) ≡ before_zero (section ++ codes "path")
cut_same section name h = with_zero section name h ∙ sym (with_zero section (codes "path") h)

pub named_same : (section name : List ℕ) → list_any (λ b. b == 0) section ≡ false → before_zero name ≡ codes "path" → before_zero (section ++ name) ≡ before_zero (section ++ codes "path")
named_same section name h e = without_zero section name h ∙ ap (λ (l : List ℕ). section ++ l) e ∙ sym (without_zero section (codes "path") h)

-- a section that ends in a full stop has no include of another name
pub other_name : (around : Surroundings) (real : Option (List ℕ)) (section name : List ℕ) → list_any (λ b. b == 0) section ≡ false → ends_with nat_eq section (codes ".") ≡ true
    → list_any (λ b. b == 46) (before_zero name) ≡ false → ¬ (before_zero name ≡ codes "path")
    → ¬ Includes around real (before_zero (section ++ name))
other_name around real section name zero ends stops other =
    let k = length section - 1 in let told = before_zero name in
    let dot : codes "." ≡ drop k section = (bytes_decides (codes ".") (drop k section)).0 ends in
    let parts : section ≡ take k section ++ codes "." = sym (take-append-drop k section) ∙ ap (λ (l : List ℕ). take k section ++ l) (sym dot) in
    let key : before_zero (section ++ name) ≡ take k section ++ 46 ∷ told =
    without_zero section name zero ∙ ap (λ (l : List ℕ). l ++ told) parts ∙ append_assoc (take k section) (codes ".") told in
    let another : (front : List ℕ) → ¬ (before_zero (section ++ name) ≡ front ++ 46 ∷ codes "path") =
    λ front e. other (last_part (take k section) front told (codes "path") stops refl (sym key ∙ e)) in
    no_condition around real (before_zero (section ++ name)) (λ e. another (codes "include") e)
    (λ c e. another (codes "includeif." ++ c) (e ∙ sym (append_assoc (codes "includeif.") c (codes ".path"))))
