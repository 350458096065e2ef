-- A set's text is read in one way: items, their places and what they hold follow from the pattern.
use Rattle.std.proofs.Common.{◌≡◌, ◌≢◌, inl, inr, ℕ, ◌+◌, ◌-◌, ◌≤◌, Bool, true, false, IsTrue, ◌↔◌, if◌then◌else◌, List, [], ◌∷◌, get_or, ◌*◌, ◌==◌, slice_range, Option, Some, None, refl, sym, ◌∙◌, ap, subst, arith}
use Rattle.glob_matcher.specs.declared.wildmatch.items.Class.{Class}
use Rattle.glob_matcher.specs.declared.wildmatch.items.Class.TheVariants as class
use Rattle.glob_matcher.specs.declared.wildmatch.items.Item.{Item}
use Rattle.glob_matcher.specs.declared.wildmatch.items.Item.TheVariants as item
use Rattle.glob_matcher.specs.Bytes.{HasByte, IsEscaped, open_bracket, backslash}
use Rattle.glob_matcher.specs.Private.Spelling.{close_bracket, dash, IsSign}
use Rattle.glob_matcher.specs.Sets.{BeginsRange, NamesClass, IsUpperEnd, IsFirstFrom, ItemAt, ItemsAt, SetAt, Set, member_of, name_of}

-- a place has one byte
pub HasByte-unique : (text : List ℕ) (i a b : ℕ) → HasByte text i a → HasByte text i b → a ≡ b
HasByte-unique text i a b x y = sym x.is ∙ y.is

pub IsEscaped-unique : (text : List ℕ) (i a b : ℕ) → IsEscaped text i a → IsEscaped text i b → a ≡ b
IsEscaped-unique text i a b x y = HasByte-unique text (i + 1) a b x.byte y.byte

-- there is one first place
pub IsFirstFrom-unique : (text : List ℕ) (i b j m : ℕ) → IsFirstFrom text i b j → IsFirstFrom text i b m → j ≡ m
IsFirstFrom-unique text i b j m x y =
    let up : j ≤ m = x.before m y.low y.here in
    let down : m ≤ j = y.before j x.low x.here in
    omega arith

-- two bytes at one place are one byte
pub two_bytes : (text : List ℕ) (i a b : ℕ) → HasByte text i a → HasByte text i b → a ≢ b → ⊥
two_bytes text i a b x y differ = differ (HasByte-unique text i a b x y)

-- an upper end is one byte, and ends in one place
pub IsUpperEnd-unique : (text : List ℕ) (i a b j m : ℕ) → IsUpperEnd text i a j → IsUpperEnd text i b m → (a ≡ b) × (j ≡ m)
IsUpperEnd-unique text i a b j m (inl x) (inl y) = (HasByte-unique text i a b x.0 y.0, x.2 ∙ sym y.2)
IsUpperEnd-unique text i a b j m (inl x) (inr y) =
    absurd (x.1 (HasByte-unique text i a backslash x.0 y.0.escape))
IsUpperEnd-unique text i a b j m (inr x) (inl y) =
    absurd (y.1 (HasByte-unique text i b backslash y.0 x.0.escape))
IsUpperEnd-unique text i a b j m (inr x) (inr y) = (IsEscaped-unique text i a b x.0 y.0, x.1 ∙ sym y.1)

-- the second and third byte of a class name, which tell it from the others
abbrev key_of : List ℕ → ℕ
key_of name = get_or name 1 0 * 256 + get_or name 2 0

abbrev class_of_key : ℕ → Class
class_of_key k =
    if k == 27758 then class.Alnum else
    if k == 27760 then class.Alpha else
    if k == 27745 then class.Blank else
    if k == 28276 then class.Cntrl else
    if k == 26983 then class.Digit else
    if k == 29281 then class.Graph else
    if k == 28535 then class.Lower else
    if k == 29289 then class.Print else
    if k == 30062 then class.Punct else
    if k == 28769 then class.Space else
    if k == 28784 then class.Upper else class.Xdigit

class_of_key-name_of : (c : Class) → class_of_key (key_of (name_of c)) ≡ c
class_of_key-name_of class.Alnum = refl
class_of_key-name_of class.Alpha = refl
class_of_key-name_of class.Blank = refl
class_of_key-name_of class.Cntrl = refl
class_of_key-name_of class.Digit = refl
class_of_key-name_of class.Graph = refl
class_of_key-name_of class.Lower = refl
class_of_key-name_of class.Print = refl
class_of_key-name_of class.Punct = refl
class_of_key-name_of class.Space = refl
class_of_key-name_of class.Upper = refl
class_of_key-name_of class.Xdigit = refl

-- no two classes have one name
pub name_of-injective : (c d : Class) → name_of c ≡ name_of d → c ≡ d
name_of-injective c d e =
    sym (class_of_key-name_of c) ∙ (ap (λ (name : List ℕ). class_of_key (key_of name)) e ∙ class_of_key-name_of d)

-- the bytes after a `[:` name a class or none
class_or_none : (text : List ℕ) (i m n : ℕ) → NamesClass text i m → IsFirstFrom text (i + 2) close_bracket n → ¬ NamesClass text i n → ⊥
class_or_none text i m n named first none =
    none (subst (λ (k : ℕ). NamesClass text i k) (IsFirstFrom-unique text (i + 2) close_bracket m n named.first first) named)

abbrev set_of : Bool → List Item → Set
set_of negated items = record { negated = negated; items = items }

-- sets of one sign and the same items are one set
set_eq : (s t : Set) → s.negated ≡ t.negated → s.items ≡ t.items → s ≡ t
set_eq s t e f =
    ap (λ (b : Bool). set_of b s.items) e ∙ ap (λ (xs : List Item). set_of t.negated xs) f

-- an item's place decides what it is and where it ends
pub ItemAt-unique : (text : List ℕ) (low : Option ℕ) (i : ℕ) (x y : Item) (j m : ℕ)
    → ItemAt text low i x j → ItemAt text low i y m → (x ≡ y) × (j ≡ m)
ItemAt-unique text low i (item.Member a) (item.Member b) j m (inl e) (inl f) =
    (ap item.Member (IsEscaped-unique text i a b e.0 f.0), e.1 ∙ sym f.1)
ItemAt-unique text low i (item.Member a) (item.Member b) j m (inl e) (inr f) =
    absurd (f.0.unescaped (HasByte-unique text i b backslash f.0.here e.0.escape))
ItemAt-unique text low i (item.Member a) (item.Member b) j m (inr e) (inl f) =
    absurd (e.0.unescaped (HasByte-unique text i a backslash e.0.here f.0.escape))
ItemAt-unique text low i (item.Member a) (item.Member b) j m (inr e) (inr f) =
    (ap item.Member (HasByte-unique text i a b e.0.here f.0.here), e.1 ∙ sym f.1)
ItemAt-unique text low i (item.Member a) (item.Range c d) j m (inl e) f =
    absurd (two_bytes text i backslash dash e.0.escape f.0.dash (λ h. omega arith))
ItemAt-unique text low i (item.Member a) (item.Range c d) j m (inr e) f = absurd (e.0.no_range f.0)
ItemAt-unique text low i (item.Range c d) (item.Member a) j m e (inl f) =
    absurd (two_bytes text i dash backslash e.0.dash f.0.escape (λ h. omega arith))
ItemAt-unique text low i (item.Range c d) (item.Member a) j m e (inr f) = absurd (f.0.no_range e.0)
ItemAt-unique text low i (item.Range a b) (item.Range c d) j m e f =
    let from : Some a ≡ Some c = sym e.1 ∙ f.1 in
    let end = IsUpperEnd-unique text (i + 1) b d j m e.2 f.2 in
    let to : b ≡ d = end.0 in
    (cc, end.1)
ItemAt-unique text low i (item.Member a) (item.Class c) j m (inl e) f =
    absurd (two_bytes text i backslash open_bracket e.0.escape f.1.begins.bracket (λ h. omega arith))
ItemAt-unique text low i (item.Member a) (item.Class c) j m (inr e) f =
    let none = e.0.no_class f.1.begins in
    absurd (class_or_none text i f.0 none.0 f.1 none.1 none.2)
ItemAt-unique text low i (item.Class c) (item.Member a) j m e (inl f) =
    absurd (two_bytes text i open_bracket backslash e.1.begins.bracket f.0.escape (λ h. omega arith))
ItemAt-unique text low i (item.Class c) (item.Member a) j m e (inr f) =
    let none = f.0.no_class e.1.begins in
    absurd (class_or_none text i e.0 none.0 e.1 none.1 none.2)
ItemAt-unique text low i (item.Range a b) (item.Class c) j m e f =
    absurd (two_bytes text i dash open_bracket e.0.dash f.1.begins.bracket (λ h. omega arith))
ItemAt-unique text low i (item.Class c) (item.Range a b) j m e f =
    absurd (two_bytes text i open_bracket dash e.1.begins.bracket f.0.dash (λ h. omega arith))
ItemAt-unique text low i (item.Class c) (item.Class d) j m e f =
    let same : e.0 ≡ f.0 = IsFirstFrom-unique text (i + 2) close_bracket e.0 f.0 e.1.first f.1.first in
    let names : name_of c ≡ name_of d =
    sym e.2 ∙ (ap (λ (n : ℕ). slice_range text (i + 2) (n - 1)) same ∙ f.2) in
    (ap item.Class (name_of-injective c d names), e.3 ∙ (ap (λ (n : ℕ). n + 1) same ∙ sym f.3))

-- The items from a place decide themselves and where they end.
pub ItemsAt-unique : (text : List ℕ) (first : Bool) (low : Option ℕ) (i : ℕ) (xs ys : List Item) (j m : ℕ)
    → ItemsAt text first low i xs j → ItemsAt text first low i ys m → (xs ≡ ys) × (j ≡ m)
ItemsAt-unique text first low i [] [] j m e f = (refl, sym e.2 ∙ f.2)
ItemsAt-unique text first low i [] (y ∷ ys) j m e f = absurd (f.0 e.0 e.1)
ItemsAt-unique text first low i (x ∷ xs) [] j m e f = absurd (e.0 f.0 f.1)
ItemsAt-unique text first low i (x ∷ xs) (y ∷ ys) j m e f =
    let here = ItemAt-unique text low i x y e.1 f.1 e.2 f.2 in
    let rest : ItemsAt text false (member_of y) f.1 xs j =
    subst (λ (z : Item). ItemsAt text false (member_of z) f.1 xs j) here.0
    (subst (λ (n : ℕ). ItemsAt text false (member_of x) n xs j) here.1 e.3) in
    let later = ItemsAt-unique text false (member_of y) f.1 xs ys j m rest f.3 in
    let head : x ≡ y = here.0 in
    let tail : xs ≡ ys = later.0 in
    (cc, later.1)

-- a set is negated or not, by what stands after its bracket
pub negated-unique : (a b : Bool) (P : Type 0) → IsTrue a ↔ P → IsTrue b ↔ P → a ≡ b
negated-unique true b P e f = sym (f.1 (e.0 refl))
negated-unique false true P e f = e.1 (f.0 refl)
negated-unique false false P e f = refl

-- A set's text decides the set and where it ends.
pub SetAt-unique : (text : List ℕ) (i : ℕ) (s t : Set) (j m : ℕ)
    → SetAt text i s j → SetAt text i t m → (s ≡ t) × (j ≡ m)
SetAt-unique text i s t j m e f =
    let sign : s.negated ≡ t.negated = negated-unique s.negated t.negated (IsSign text (i + 1)) e.sign f.sign in
    let moved : ItemsAt text true None (if t.negated then i + 2 else i + 1) s.items e.close =
    subst (λ (b : Bool). ItemsAt text true None (if b then i + 2 else i + 1) s.items e.close) sign e.items in
    let both = ItemsAt-unique text true None (if t.negated then i + 2 else i + 1) s.items t.items e.close f.close moved f.items in
    let items : s.items ≡ t.items = both.0 in
    (set_eq s t sign items, e.after ∙ (ap (λ (n : ℕ). n + 1) both.1 ∙ sym f.after))

-- A `-` that begins a range without an upper end is no item.
pub no_item_without_end : (text : List ℕ) (low : Option ℕ) (i : ℕ) → BeginsRange text low i
    → ((high j : ℕ) → ¬ IsUpperEnd text (i + 1) high j) → (x : Item) (j : ℕ) → ¬ ItemAt text low i x j
no_item_without_end text low i begins none (item.Member a) j (inl e) = two_bytes text i backslash dash e.0.escape begins.dash (λ h. omega arith)
no_item_without_end text low i begins none (item.Member a) j (inr e) = e.0.no_range begins
no_item_without_end text low i begins none (item.Range a b) j e = none b j e.2
no_item_without_end text low i begins none (item.Class c) j e = two_bytes text i open_bracket dash e.1.begins.bracket begins.dash (λ h. omega arith)
