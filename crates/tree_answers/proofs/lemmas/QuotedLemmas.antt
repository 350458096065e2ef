-- What is written in quotes spells the name.
use Rattle.std.proofs.Common.{◌≡◌, ◌⊎◌, inl, inr, ⊎_elim, ℕ, ◌/◌, ◌%◌, ◌^◌, ◌<◌, Bool, true, false, List, [], ◌∷◌, ◌++◌, length, map, Option, None, Some, refl, sym, ap, subst, ◌∙◌, arith}
use Rattle.std.specs.Prelude.{◌==◌, codes, if◌then◌else◌}
use Rattle.std.specs.List.{AllByRecursion, AllZip, IsAmong, concat, flat_map, list_any}
use Rattle.std.specs.Str.{byte}
use Rattle.std.proofs.lemmas.Bool.{cases_Bool, eqb-true, false≢true}
use Rattle.std.proofs.lemmas.Option.{same_Some}
use Rattle.glob_attributes.specs.Heads.{IsQuotedHead, SpellsByte, escapes}
use Rattle.git_paths.specs.declared.quoting.Quoting.{Quoting}
use Rattle.git_paths.specs.declared.quoting.Quoting.TheVariants.{AsciiOnly, Full}
use Rattle.git_paths.specs.Quoting.{escape_of, escaped, is_unusual, letter_of, quoted}

-- a choice that gives some letter is the first one, or what else there is
first_or_else : (c : Bool) (one : ℕ) (rest : Option ℕ) (letter : ℕ) → (if c then Some one else rest) ≡ Some letter
    → ((c ≡ true) × (one ≡ letter)) ⊎ (rest ≡ Some letter)
first_or_else true one rest letter is = inl (refl, same_Some one letter is)
first_or_else false one rest letter is = inr is

nine : length escapes ≡ 9
nine = refl

-- where the test of a byte passes, the escape of that byte is the letter's
escape_here : (b n one letter : ℕ) → IsAmong escapes (one, n) → ((b == n) ≡ true) × (one ≡ letter) → IsAmong escapes (letter, b)
escape_here b n one letter here is =
    subst (λ l. IsAmong escapes (l, b)) is.1 (subst (λ m. IsAmong escapes (one, m)) (sym (eqb-true b n is.0)) here)

-- the letter of a byte makes an escape for it
letter_is_escape : (b letter : ℕ) → letter_of b ≡ Some letter → IsAmong escapes (letter, b)
letter_is_escape b letter is =
    let at = λ (n one : ℕ) (here : IsAmong escapes (one, n)). escape_here b n one letter here in
    ⊎_elim (at 7 (byte "a") (0, (omega (arith, nine), refl))) (λ is.
    ⊎_elim (at 8 (byte "b") (1, (omega (arith, nine), refl))) (λ is.
    ⊎_elim (at 9 (byte "t") (2, (omega (arith, nine), refl))) (λ is.
    ⊎_elim (at 10 (byte "n") (3, (omega (arith, nine), refl))) (λ is.
    ⊎_elim (at 11 (byte "v") (4, (omega (arith, nine), refl))) (λ is.
    ⊎_elim (at 12 (byte "f") (5, (omega (arith, nine), refl))) (λ is.
    ⊎_elim (at 13 (byte "r") (6, (omega (arith, nine), refl))) (λ is.
    ⊎_elim (at (byte "\"") (byte "\"") (7, (omega (arith, nine), refl))) (λ is.
    ⊎_elim (at (byte "\\") (byte "\\") (8, (omega (arith, nine), refl))) (λ is. absurd (cc))
    (first_or_else (b == byte "\\") _ _ letter is))
    (first_or_else (b == byte "\"") _ _ letter is))
    (first_or_else (b == 13) _ _ letter is))
    (first_or_else (b == 12) _ _ letter is))
    (first_or_else (b == 11) _ _ letter is))
    (first_or_else (b == 10) _ _ letter is))
    (first_or_else (b == 9) _ _ letter is))
    (first_or_else (b == 8) _ _ letter is))
    (first_or_else (b == 7) _ _ letter is)

escape_spells : (b : ℕ) → b < 2 ^ 8 → (letter : Option ℕ) → letter_of b ≡ letter → SpellsByte b (byte "\\" ∷ escape_of b letter)
escape_spells b few (Some letter) is = inr (inl (letter, letter_is_escape b letter is, refl))
escape_spells b few None is =
    inr (inr (b / 64, b / 8 % 8, b % 8, omega (arith, few), omega arith, omega arith, refl, omega (arith, few)))

-- the quote and the backslash are unusual, however names are quoted
quote_unusual : (quoting : Quoting) → is_unusual quoting (byte "\"") ≡ true
quote_unusual Full = refl
quote_unusual AsciiOnly = refl

backslash_unusual : (quoting : Quoting) → is_unusual quoting (byte "\\") ≡ true
backslash_unusual Full = refl
backslash_unusual AsciiOnly = refl

-- a byte that isn't unusual is none that is
not_this : (quoting : Quoting) (b n : ℕ) → is_unusual quoting b ≡ false → is_unusual quoting n ≡ true → (b ≡ n) → ⊥
not_this quoting b n usual unusual is = false≢true (sym usual ∙ ap (is_unusual quoting) is ∙ unusual)

byte_spelled : (quoting : Quoting) (b : ℕ) → b < 2 ^ 8 → SpellsByte b (escaped quoting b)
byte_spelled quoting b few =
    ⊎_elim
    (λ (yes : is_unusual quoting b ≡ true). subst (λ t. SpellsByte b (if t then byte "\\" ∷ escape_of b (letter_of b) else b ∷ [])) (sym yes) (escape_spells b few (letter_of b) refl))
    (λ (no : is_unusual quoting b ≡ false). subst (λ t. SpellsByte b (if t then byte "\\" ∷ escape_of b (letter_of b) else b ∷ [])) (sym no)
    (inl (not_this quoting b (byte "\"") no (quote_unusual quoting), not_this quoting b (byte "\\") no (backslash_unusual quoting), refl)))
    (cases_Bool (is_unusual quoting b))

each_spelled : (quoting : Quoting) (name : List ℕ) → AllByRecursion (λ b. b < 2 ^ 8) name → AllZip SpellsByte name (map (escaped quoting) name)
each_spelled quoting [] few = tt
each_spelled quoting (b ∷ name) few = (byte_spelled quoting b few.0, each_spelled quoting name few.1)

joined : (quoting : Quoting) (name : List ℕ) → flat_map (escaped quoting) name ≡ concat (map (escaped quoting) name)
joined quoting [] = refl
joined quoting (b ∷ name) = ap (λ rest. escaped quoting b ++ rest) (joined quoting name)

-- what stands in quotes is a quoted head, and nothing follows it
pub quoted_is_read : (quoting : Quoting) (name : List ℕ) → AllByRecursion (λ b. b < 2 ^ 8) name → list_any (is_unusual quoting) name ≡ true
    → IsQuotedHead (quoted quoting name) name []
quoted_is_read quoting name few some = (
  map (escaped quoting) name,
  each_spelled quoting name few,
  ap (λ t. if t then codes "\"" ++ (flat_map (escaped quoting) name ++ codes "\"") else name) some
      ∙ ap (λ text. codes "\"" ++ (text ++ codes "\"")) (joined quoting name),
)

-- a text that begins with a quote has an unusual byte
begins_unusual : (quoting : Quoting) (rest : List ℕ) → list_any (is_unusual quoting) (codes "\"" ++ rest) ≡ true
begins_unusual Full rest = refl
begins_unusual AsciiOnly rest = refl

-- a name without an unusual byte stands as it is, which is no quoted head
pub plain_is_not_read : (quoting : Quoting) (name : List ℕ) → list_any (is_unusual quoting) name ≡ false
    → (quoted quoting name ≡ name) × ((other rest : List ℕ) → ¬ IsQuotedHead name other rest)
plain_is_not_read quoting name usual = (
  ap (λ t. if t then codes "\"" ++ (flat_map (escaped quoting) name ++ codes "\"") else name) usual,
  λ other rest head. false≢true (sym usual ∙ ap (list_any (is_unusual quoting)) head.2 ∙ begins_unusual quoting _),
)
