-- The front of a file.
use Rattle.std.proofs.Common.{◌≡◌, ⊎_elim, ℕ, Bool, true, false, eqb, List, [], ◌∷◌, Option, None, Some, refl, sym, ap, subst, ◌∙◌}
use Rattle.std.specs.Prelude.{◌&&◌, ◌==◌, MatchOption, nat_eq}
use Rattle.std.specs.List.{starts_with}
use Rattle.std.proofs.lemmas.Bool.{cases_Bool, eqb-false, eqb-true, false≢true}
use Rattle.git_config.specs.Grammar.{between, front, read, text_of, turn}
use Rattle.git_config.specs.Private.Taking.{IsAtEnd, TakesByte}
use Rattle.git_config.proofs.lemmas.ReadLemmas.{behind, if_false, if_true, read-cons, read-end}
use Rattle.git_config.proofs.lemmas.TurnLemmas.{front-between}

and_second : (a b : Bool) → (a && b) ≡ true → b ≡ true
and_second true b h = h
and_second false b h = absurd (false≢true h)

starts_with-one : (x : ℕ) (xs : List ℕ) (w : ℕ) → starts_with nat_eq (x ∷ xs) (w ∷ []) ≡ eqb w x
starts_with-one x xs w = ⊎_elim (λ yes. rw yes refl) (λ no. rw no refl) (cases_Bool (eqb w x))

same_reading : (line b : ℕ) (text : List ℕ) → turn line front b ≡ turn line between b → read (b ∷ text) line front ≡ read (b ∷ text) line between
same_reading line b text e = read-cons b text line front ∙ ap (λ w. behind w text line b) e ∙ sym (read-cons b text line between)

-- behind a carriage return that is dropped stands a line feed
dropped : (line : ℕ) (bytes : List ℕ) → starts_with nat_eq bytes (10 ∷ []) ≡ true → read (text_of bytes) line front ≡ read (text_of bytes) line between
dropped line [] h = absurd (false≢true h)
dropped line (y ∷ ys) h =
    let is : 10 ≡ y = eqb-true 10 y (sym (starts_with-one y ys 10) ∙ h) in
    let kept : text_of (10 ∷ ys) ≡ 10 ∷ text_of ys = refl in
    subst (λ (z : ℕ). read (text_of (z ∷ ys)) line front ≡ read (text_of (z ∷ ys)) line between) is (same_reading line 10 (text_of ys) refl)

-- without a mark at the front, it is read as what stands between items
pub front_as_between : (line : ℕ) (bytes : List ℕ) → starts_with nat_eq bytes (239 ∷ []) ≡ false → read (text_of bytes) line front ≡ read (text_of bytes) line between
front_as_between line [] h = read-end line front ∙ sym (read-end line between)
front_as_between line (x ∷ xs) h =
    let other : x ≡ 239 → ⊥ = λ e. eqb-false 239 x (sym (starts_with-one x xs 239) ∙ h) (sym e) in
    ⊎_elim
    (λ (drops : (x == 13 && starts_with nat_eq xs (10 ∷ [])) ≡ true).
    let feed : starts_with nat_eq xs (10 ∷ []) ≡ true = and_second (x == 13) _ drops in
    let is : text_of (x ∷ xs) ≡ text_of xs = if_true _ _ _ drops in
    subst (λ (text : List ℕ). read text line front ≡ read text line between) (sym is) (dropped line xs feed))
    (λ (stays : (x == 13 && starts_with nat_eq xs (10 ∷ [])) ≡ false).
    let is : text_of (x ∷ xs) ≡ x ∷ text_of xs = if_false _ _ _ stays in
    subst (λ (text : List ℕ). read text line front ≡ read text line between) (sym is) (same_reading line x (text_of xs) (front-between line x other)))
    (cases_Bool (x == 13 && starts_with nat_eq xs (10 ∷ [])))

-- with a mark's first byte there, this byte is taken
pub mark_taken : (r : Option ℕ) (old new : List ℕ) (old_line new_line : ℕ) → starts_with nat_eq old (239 ∷ []) ≡ true
    → MatchOption r (IsAtEnd old new old_line new_line) (λ b. TakesByte old new old_line new_line b) → TakesByte old new old_line new_line 239
mark_taken r [] new old_line new_line h m = absurd (false≢true h)
mark_taken None (x ∷ xs) new old_line new_line h m = absurd (let none : x ∷ xs ≡ [] = m.was in cc)
mark_taken (Some b) (x ∷ xs) new old_line new_line h m =
    let is : 239 ≡ x = eqb-true 239 x (sym (starts_with-one x xs 239) ∙ h) in
    let text : text_of (x ∷ xs) ≡ 239 ∷ text_of xs = subst (λ (z : ℕ). text_of (z ∷ xs) ≡ 239 ∷ text_of xs) is refl in
    let joined : text_of (x ∷ xs) ≡ b ∷ text_of new = m.joined in
    let same : b ≡ 239 = cc in
    subst (λ (z : ℕ). TakesByte (x ∷ xs) new old_line new_line z) same m
