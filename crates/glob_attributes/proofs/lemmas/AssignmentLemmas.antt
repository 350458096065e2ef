-- What the words of a text assign, one word after the other.
use Rattle.std.proofs.Common.{◌≡◌, ⊎_elim, ℕ, ◌+◌, Bool, true, false, cond, List, [], ◌∷◌, ◌++◌, take, drop, map, Option, None, Some, refl, sym, ap, ◌∙◌, append_assoc}
use Rattle.std.specs.Prelude.{◌&&◌, nat_eq, option_map, position, codes}
use Rattle.std.specs.List.{after_first, before_first, list_all, list_any, starts_with}
use Rattle.std.proofs.lemmas.Bool.{cases_Bool}
use Rattle.glob_attributes.specs.declared.assignment.Assignment.{Assignment}
use Rattle.glob_attributes.specs.declared.assignment.State.TheVariants.{Set, Value}
use Rattle.glob_attributes.specs.Assignments.{assignment_of}
use Rattle.glob_attributes.specs.Private.Readings.{is_equals}
use Rattle.glob_attributes.specs.Names.{is_name}
use Rattle.glob_attributes.proofs.lemmas.PlaceLemmas.{after-found, any-found, any-none, before-found}

abbrev pub Bytes : Type 0
Bytes = Assignment (List ℕ)

-- ---- one word

-- a word that begins with neither sign
otherwise : (word : List ℕ) (equals : Bool) → starts_with nat_eq word (codes "-") ≡ false → starts_with nat_eq word (codes "!") ≡ false → list_any is_equals word ≡ equals
    → assignment_of word ≡ cond equals (record { name = before_first is_equals word; state = Value (after_first is_equals word) }) (record { name = word; state = Set })
otherwise word equals minus negation is = rw (minus, negation, is) refl

pub assignment_of-value : (word : List ℕ) (place : ℕ) → starts_with nat_eq word (codes "-") ≡ false → starts_with nat_eq word (codes "!") ≡ false → position is_equals word ≡ Some place
    → assignment_of word ≡ record { name = take place word; state = Value (drop (place + 1) word) }
assignment_of-value word place minus negation is =
    otherwise word true minus negation (any-found is_equals word place is)
    ∙ ap (λ name. record { name = name; state = Value (after_first is_equals word) }) (sym (before-found is_equals word place is))
    ∙ ap (λ value. record { name = take place word; state = Value value }) (sym (after-found is_equals word place is))

pub assignment_of-bare : (word : List ℕ) → starts_with nat_eq word (codes "-") ≡ false → starts_with nat_eq word (codes "!") ≡ false → position is_equals word ≡ None
    → assignment_of word ≡ record { name = word; state = Set }
assignment_of-bare word minus negation is = otherwise word false minus negation (any-none is_equals word is)

-- ---- all words

abbrev pub assigned : List (List ℕ) → Option (List Bytes)
assigned words = cond (list_all (λ assignment. is_name assignment.name) (map assignment_of words)) (Some (map assignment_of words)) None

-- what the words so far assign stands before what the others do
abbrev pub before : List Bytes → Option (List Bytes) → Option (List Bytes)
before front more = option_map (λ l. front ++ l) more

assigned-name : (b : Bool) (word : List ℕ) (words : List (List ℕ)) → cond (true && b) (Some (map assignment_of (word ∷ words))) None ≡ before (assignment_of word ∷ []) (cond b (Some (map assignment_of words)) None)
assigned-name true word words = refl
assigned-name false word words = refl

pub before-more : (front : List Bytes) (one : Bytes) (more : Option (List Bytes)) → before (front ++ one ∷ []) more ≡ before front (before (one ∷ []) more)
before-more front one None = refl
before-more front one (Some more) = ap Some (append_assoc front (one ∷ []) more)

pub assigned-more : (front : List Bytes) (word : List ℕ) (words : List (List ℕ)) → is_name (assignment_of word).name ≡ true → before (front ++ assignment_of word ∷ []) (assigned words) ≡ before front (assigned (word ∷ words))
assigned-more front word words valid =
    let names = list_all (λ assignment. is_name assignment.name) (map assignment_of words) in
    before-more front (assignment_of word) (assigned words)
    ∙ ap (before front) (sym (ap (λ t. cond (t && names) (Some (map assignment_of (word ∷ words))) None) valid ∙ assigned-name names word words))

-- a word was read
pub assigned-read : (front : List Bytes) (word : List ℕ) (words : List (List ℕ)) (one : Bytes) → Some one ≡ cond (is_name (assignment_of word).name) (Some (assignment_of word)) None
    → before (front ++ one ∷ []) (assigned words) ≡ before front (assigned (word ∷ words))
assigned-read front word words one is =
    ⊎_elim
    (λ valid. let read : Some one ≡ Some (assignment_of word) = is ∙ ap (λ t. cond t (Some (assignment_of word)) None) valid in
    let same : one ≡ assignment_of word = cc in
    ap (λ x. before (front ++ x ∷ []) (assigned words)) same ∙ assigned-more front word words valid)
    (λ wrong. let none : Some one ≡ None = is ∙ ap (λ t. cond t (Some (assignment_of word)) None) wrong in absurd (cc))
    (cases_Bool (is_name (assignment_of word).name))
