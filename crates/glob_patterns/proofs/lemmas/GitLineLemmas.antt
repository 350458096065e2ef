-- Each line has one reading as Git reads it: that of the equation.
use Rattle.std.proofs.Common.{◌≡◌, ⊎_elim, ℕ, true, false, List, ◌++◌, length, Option, refl, sym, ap, subst, ◌∙◌, append_assoc, drop_at}
use Rattle.std.specs.Prelude.{nat_eq, codes}
use Rattle.std.specs.List.{starts_with}
use Rattle.std.proofs.lemmas.Bool.{cases_Bool}
use Rattle.std.proofs.lemmas.Bool.Decides.{Decides-eqb}
use Rattle.std.proofs.lemmas.Slice.Eq.{starts_is}
use Rattle.glob_patterns.specs.declared.mode.Mode.{Mode}
use Rattle.glob_patterns.specs.Patterns.{IsPattern, bits_of, first_special}
use Rattle.glob_patterns.specs.GitLines.{GitReads, negation_of}
use Rattle.glob_patterns.specs.Equations.Readings.{Reading, before_tail, lead_of, reading_with, rest_after, tail_of}
use Rattle.glob_patterns.specs.Equations.GitLines.{git_reading_after_sign, git_reading_before_tail, git_reading_of}
use Rattle.glob_patterns.proofs.lemmas.ModeBits.{is_by_its_end-sum}
use Rattle.glob_patterns.proofs.lemmas.ReadingEquations.{before_tail-append, lead-rest, text-tail}

-- ---- a reading is that of the equation

before_tail-is : (sign lead text tail : List ℕ) → lead ≡ lead_of (lead ++ text) → git_reading_before_tail sign tail (lead ++ text) ≡ reading_with sign lead text tail
unfolding git_reading_before_tail
before_tail-is sign lead text tail is =
    let inner = lead ++ text in
    let behind : rest_after (lead_of inner) inner ≡ text = ap (λ (l : List ℕ). rest_after l inner) (sym is) ∙ drop_at lead text (length lead) refl in
    ap (λ l. reading_with sign l (rest_after (lead_of inner) inner) tail) (sym is) ∙ ap (λ t. reading_with sign lead t tail) behind

after_sign-is : (sign inner tail : List ℕ) → tail ≡ tail_of (inner ++ tail) → git_reading_after_sign sign (inner ++ tail) ≡ git_reading_before_tail sign tail inner
unfolding git_reading_after_sign
after_sign-is sign inner tail is =
    ap (λ t. git_reading_before_tail sign t (before_tail (inner ++ tail))) (sym is) ∙ ap (git_reading_before_tail sign tail) (before_tail-append inner tail is)

line-is : (line sign rest : List ℕ) → sign ≡ negation_of line → line ≡ sign ++ rest → git_reading_of line ≡ git_reading_after_sign sign rest
unfolding git_reading_of
line-is line sign rest signed joined =
    let behind : rest_after (negation_of line) line ≡ rest =
    ap (λ (l : List ℕ). rest_after l line) (sym signed) ∙ ap (rest_after sign) joined ∙ drop_at sign rest (length sign) refl in
    ap (λ l. git_reading_after_sign l (rest_after (negation_of line) line)) (sym signed) ∙ ap (git_reading_after_sign sign) behind

pub git_reading_of-GitReads : (line text : List ℕ) (mode : Mode) (place : Option ℕ) → GitReads line text mode place → git_reading_of line ≡ record { text = text; mode = mode; place = place }
git_reading_of-GitReads line text mode place r =
    let bits : Mode = record { 0 = bits_of r.sign r.lead text r.tail } in
    let flagged : bits ≡ mode = ap (λ (n : ℕ). let mode : Mode = record { 0 = n } in mode) (sym r.bits) in
    let reading : Mode → Option ℕ → Reading = λ m p. record { text = text; mode = m; place = p } in
    let whole : r.lead ++ (text ++ r.tail) ≡ (r.lead ++ text) ++ r.tail = sym (append_assoc r.lead text r.tail) in
    line-is line r.sign (r.lead ++ (text ++ r.tail)) r.signed r.joined
    ∙ ap (git_reading_after_sign r.sign) whole
    ∙ after_sign-is r.sign (r.lead ++ text) r.tail (r.trails ∙ ap tail_of whole)
    ∙ before_tail-is r.sign r.lead text r.tail r.leads
    ∙ ap (λ m. reading m (first_special text)) flagged
    ∙ ap (reading mode) (sym r.placed)

-- ---- the equation gives a reading

negation-rest : (line : List ℕ) → line ≡ negation_of line ++ rest_after (negation_of line) line
negation-rest line =
    ⊎_elim
    (λ (negates : starts_with nat_eq line (codes "!") ≡ true).
    let front = (starts_is Decides-eqb line (codes "!") (starts_with nat_eq line (codes "!")) refl).0 negates in
    rw negates front)
    (λ (keeps : starts_with nat_eq line (codes "!") ≡ false). rw keeps refl)
    (cases_Bool (starts_with nat_eq line (codes "!")))

pub GitReads-git_reading_of : (line : List ℕ) → let reading = git_reading_of line in GitReads line reading.text reading.mode reading.place
unfolding git_reading_of git_reading_after_sign git_reading_before_tail
GitReads-git_reading_of line =
    let sign = negation_of line in
    let rest = rest_after sign line in
    let inner = before_tail rest in
    let lead = lead_of inner in
    let text = rest_after lead inner in
    let tail = tail_of rest in
    let inners : inner ≡ lead ++ text = lead-rest inner in
    let rests : rest ≡ lead ++ (text ++ tail) = text-tail rest ∙ ap (λ l. l ++ tail) inners ∙ append_assoc lead text tail in
    record {
      sign = sign;
      lead = lead;
      tail = tail;
      joined = negation-rest line ∙ ap (λ l. sign ++ l) rests;
      signed = refl;
      trails = ap tail_of rests;
      leads = ap lead_of inners;
      bits = refl;
      placed = refl;
    }

-- ---- what is read

pub GitReads-once : (line : List ℕ) (reading : Reading) → git_reading_of line ≡ reading → GitReads line reading.text reading.mode reading.place
GitReads-once line reading is = subst (λ (r : Reading). GitReads line r.text r.mode r.place) is (GitReads-git_reading_of line)

-- what is read is the text, the mode and the place of a pattern
pub IsPattern-GitReads : (line text : List ℕ) (mode : Mode) (place : Option ℕ) → GitReads line text mode place → IsPattern text mode place
IsPattern-GitReads line text mode place r = record {
  placed = r.placed;
  ends = λ stands. sym (is_by_its_end-sum mode _ _ _ _ _ r.bits) ∙ stands;
}
