-- Patterns that begin with an escaped sign: as lines of an ignore file they lose the backslash.
use Rattle.std.proofs.Common.{◌≡◌, ⊎_elim, ℕ, suc, ◌+◌, ◌-◌, Bool, true, false, cond, not, List, [], ◌∷◌, ◌++◌, length, take, drop, Option, None, Some, refl, sym, ap, subst, ◌∙◌, arith}
use Rattle.std.specs.Prelude.{◌&&◌, ◌||◌, ◌==◌, nat_eq, codes}
use Rattle.std.specs.List.{ends_with, list_any, starts_with}
use Rattle.std.specs.Str.{bytes_eq}
use Rattle.std.proofs.lemmas.Bool.{cases_Bool, false≢true, lt-ltb}
use Rattle.std.proofs.lemmas.Bool.Decides.{Decides-eqb}
use Rattle.std.proofs.lemmas.List.{take_at}
use Rattle.std.proofs.lemmas.Slice.Eq.{starts_is}
use Rattle.gix_glob.specs.Bytes.{has_slash, is_special}
use Rattle.gix_glob.specs.declared.pattern.Mode.{Mode}
use Rattle.gix_glob.specs.Patterns.{IsPattern, Reads, bits_of, first_special, is_star_and_literal, sign_of, slash_if, without_negation}
use lib.Pointwise.{pointwise}

pub without_negation-none : (bytes : List ℕ) → starts_with nat_eq bytes (codes "!") ≡ false → without_negation bytes ≡ bytes
without_negation-none bytes other = ap (λ t. cond t (drop 1 bytes) bytes) other

-- a byte in front of a text that isn't empty doesn't change its end
ends_with-cons : (b x : ℕ) (more : List ℕ) → ends_with nat_eq (b ∷ x ∷ more) (codes "/") ≡ ends_with nat_eq (x ∷ more) (codes "/")
ends_with-cons b x more =
    let next : length (b ∷ x ∷ more) - 1 ≡ suc (length (x ∷ more) - 1) = omega arith in
    ap (λ n. pointwise nat_eq (codes "/") (drop n (b ∷ x ∷ more))) next

-- a backslash is special
special_first : (text : List ℕ) → first_special (92 ∷ text) ≡ Some 0
special_first text = ap (λ t. cond t (Some 0) None) (lt-ltb 0 (length (92 ∷ text)) (omega arith))

-- a text of which a slash or nothing follows, and which begins with another byte, isn't empty
record BeginsWith (x : ℕ) (text : List ℕ) : Type 0 where
  rest : List ℕ
  is : text ≡ x ∷ rest

begins : (x : ℕ) (more text : List ℕ) (slash : Bool) → (47 == x) ≡ false → text ++ slash_if slash ≡ x ∷ more → BeginsWith x text
begins x more [] true other is = let no : 47 ≡ x = cc in absurd (let e : (47 == x) ≡ true = subst (λ (y : ℕ). (47 == y) ≡ true) no refl in false≢true (sym other ∙ e))
begins x more [] false other is = absurd (cc)
begins x more (y ∷ text) slash other is = let same : y ≡ x = cc in record { rest = text; is = ap (λ z. z ∷ text) same }

abbrev line : ℕ → List ℕ → List ℕ
line x more = 92 ∷ x ∷ more

-- what is read of a line whose first backslash is a sign
module _ (x : ℕ) (more text : List ℕ) (mode : Mode) (place : Option ℕ) (h : Reads (line x more) true text mode place)
    (sign : sign_of true (line x more) ≡ 92 ∷ []) (no_slash : (47 == x) ≡ false) (no_star : (42 == x) ≡ false) where
  signed : h.sign ≡ 92 ∷ []
  signed = h.signed ∙ sign

  behind : x ∷ more ≡ h.lead ++ (text ++ h.tail)
  behind = (let is : line x more ≡ 92 ∷ (h.lead ++ (text ++ h.tail)) = h.joined ∙ ap (λ s. s ++ (h.lead ++ (text ++ h.tail))) signed in cc)

  no_lead : h.lead ≡ []
  no_lead =
      h.leads ∙ ap (λ l. slash_if (starts_with nat_eq l (codes "/"))) (sym behind)
      ∙ ap (λ t. slash_if (t && true)) no_slash

  body : text ++ h.tail ≡ x ∷ more
  body = sym (behind ∙ ap (λ l. l ++ (text ++ h.tail)) no_lead)

  front : BeginsWith x text
  front = begins x more text (ends_with nat_eq (text ++ h.tail) (codes "/")) no_slash (ap (λ t. text ++ t) (sym h.trails) ∙ body)

  plain : is_star_and_literal text ≡ false
  plain = ap is_star_and_literal front.is ∙ ap (λ t. (t && true) && not (list_any is_special (drop 1 (x ∷ front.rest)))) no_star

  pub whole_text : take (length text + 1) (line x more) ≡ 92 ∷ text
  whole_text = ap (λ l. take (length text + 1) (92 ∷ l)) (sym body) ∙ take_at (92 ∷ text) h.tail (length text + 1) (omega arith)

  pub reads_whole : Reads (line x more) false (92 ∷ text) mode (Some 0)
  reads_whole = record {
    sign = [];
    lead = [];
    tail = h.tail;
    joined = ap (λ l. 92 ∷ l) (sym body);
    signed = refl;
    not_blank = refl;
    leads = refl;
    trails = h.trails ∙ ap (λ l. slash_if (ends_with nat_eq l (codes "/"))) body ∙ ap slash_if (sym (ends_with-cons 92 x more))
        ∙ ap (λ l. slash_if (ends_with nat_eq (92 ∷ l) (codes "/"))) (sym body);
    bits = h.bits ∙ ap (λ s. bits_of s h.lead text h.tail) signed ∙ ap (λ l. bits_of (92 ∷ []) l text h.tail) no_lead
        ∙ ap (λ (t : Bool). ((((cond (has_slash text) 0 1) + (cond t 2 0)) + cond (bytes_eq h.tail (codes "/")) 4 0) + 0) + 0) plain;
    placed = sym (special_first text);
  }

  pub lawful_whole : IsPattern text mode place → IsPattern (92 ∷ text) mode (Some 0)
  lawful_whole lawful = record { placed = sym (special_first text); ends = λ by_end. absurd (false≢true (sym plain ∙ lawful.ends by_end)) }

-- what an escaped pattern is, by its reading as a line of an ignore file
pub record IsEscapedReading (bytes text : List ℕ) (mode : Mode) (place : Option ℕ) : Type 0 where
  pub reads : Reads bytes false (take (length text + 1) bytes) mode (Some 0)
  pub lawful : IsPattern text mode place → IsPattern (take (length text + 1) bytes) mode (Some 0)

escaped_by : (x : ℕ) (more bytes text : List ℕ) (mode : Mode) (place : Option ℕ) → bytes ≡ line x more → Reads bytes true text mode place
    → sign_of true (line x more) ≡ 92 ∷ [] → (47 == x) ≡ false → (42 == x) ≡ false → IsEscapedReading bytes text mode place
escaped_by x more bytes text mode place is h sign no_slash no_star =
    let read = subst (λ b. Reads b true text mode place) is h in
    let same = sym (whole_text x more text mode place read sign no_slash no_star) in
    subst (λ b. IsEscapedReading b text mode place) (sym is) (record {
      reads = subst (λ t. Reads (line x more) false t mode (Some 0)) same (reads_whole x more text mode place read sign no_slash no_star);
      lawful = λ lawful. subst (λ t. IsPattern t mode (Some 0)) same (lawful_whole x more text mode place read sign no_slash no_star lawful);
    })

pub escaped_reading : (bytes text : List ℕ) (mode : Mode) (place : Option ℕ) → (starts_with nat_eq bytes (codes "\\!") || starts_with nat_eq bytes (codes "\\#")) ≡ true
    → Reads bytes true text mode place → IsEscapedReading bytes text mode place
escaped_reading bytes text mode place escaped h =
    ⊎_elim
    (λ (yes : starts_with nat_eq bytes (codes "\\!") ≡ true).
    escaped_by 33 (drop 2 bytes) bytes text mode place ((starts_is Decides-eqb bytes (codes "\\!") _ refl).0 yes) h refl refl refl)
    (λ (no : starts_with nat_eq bytes (codes "\\!") ≡ false).
    escaped_by 35 (drop 2 bytes) bytes text mode place
    ((starts_is Decides-eqb bytes (codes "\\#") _ refl).0 (sym (ap (λ b. b || starts_with nat_eq bytes (codes "\\#")) no) ∙ escaped)) h refl refl refl)
    (cases_Bool (starts_with nat_eq bytes (codes "\\!")))
