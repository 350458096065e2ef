-- A line's reading by equation is its reading, and no other.
use Rattle.std.proofs.Common.{◌≡◌, ⊎_elim, ℕ, ◌-◌, Bool, true, false, cond, ◌||◌, List, ◌∷◌, ◌++◌, length, take, drop, Option, None, Some, refl, sym, ap, subst, ◌∙◌, length-append, append-nil, drop_at, take_at, take_all, arith}
use Rattle.std.specs.Prelude.{nat_eq, codes}
use Rattle.std.specs.List.{starts_with, ends_with}
use Rattle.std.proofs.lemmas.Bool.{cases_Bool, or_cases}
use Rattle.std.proofs.lemmas.Bool.Decides.{Decides-eqb}
use Rattle.std.proofs.lemmas.Slice.Eq.{starts_is, ends_is}
use Rattle.glob_patterns.specs.declared.mode.Mode.{Mode}
use Rattle.glob_patterns.specs.Patterns.{HasReading, Reads, bits_of, first_special, is_blank, sign_of}
use Rattle.glob_patterns.specs.Equations.Readings.{Reading, before_tail, lead_of, reading_after_lead, reading_after_sign, reading_of, reading_with, rest_after, tail_of}

-- ---- a reading is that of the equation

pub before_tail-append : (text tail : List ℕ) → tail ≡ tail_of (text ++ tail) → before_tail (text ++ tail) ≡ text
before_tail-append text tail is =
    let long : length (text ++ tail) - length (tail_of (text ++ tail)) ≡ length text =
    ap (λ (t : List ℕ). length (text ++ tail) - length t) (sym is) ∙ omega (arith, length-append text tail) in
    ap (λ n. take n (text ++ tail)) long ∙ take_at text tail (length text) refl

after_lead-is : (sign lead text tail : List ℕ) → tail ≡ tail_of (text ++ tail) → reading_after_lead sign lead (text ++ tail) ≡ reading_with sign lead text tail
unfolding reading_after_lead
after_lead-is sign lead text tail is =
    ap (λ b. reading_with sign lead b (tail_of (text ++ tail))) (before_tail-append text tail is)
    ∙ ap (λ t. reading_with sign lead text t) (sym is)

after_sign-is : (sign lead inner : List ℕ) → is_blank (lead ++ inner) ≡ false → lead ≡ lead_of (lead ++ inner)
    → reading_after_sign sign (lead ++ inner) ≡ Some (reading_after_lead sign lead inner)
unfolding reading_after_sign
after_sign-is sign lead inner some is =
    let rest = lead ++ inner in
    let behind : rest_after (lead_of rest) rest ≡ inner = ap (λ (l : List ℕ). rest_after l rest) (sym is) ∙ drop_at lead inner (length lead) refl in
    ap (λ b. cond b None (Some (reading_after_lead sign (lead_of rest) (rest_after (lead_of rest) rest)))) some
    ∙ ap (λ l. Some (reading_after_lead sign l (rest_after (lead_of rest) rest))) (sym is)
    ∙ ap (λ l. Some (reading_after_lead sign lead l)) behind

line-is : (may_alter : Bool) (line sign rest : List ℕ) → sign ≡ sign_of may_alter line → line ≡ sign ++ rest → reading_of may_alter line ≡ reading_after_sign sign rest
unfolding reading_of
line-is may_alter line sign rest signed joined =
    let behind : rest_after (sign_of may_alter line) line ≡ rest =
    ap (λ (l : List ℕ). rest_after l line) (sym signed) ∙ ap (rest_after sign) joined ∙ drop_at sign rest (length sign) refl in
    ap (λ l. reading_after_sign l (rest_after (sign_of may_alter line) line)) (sym signed) ∙ ap (reading_after_sign sign) behind

pub reading_of-Reads : (may_alter : Bool) (line text : List ℕ) (mode : Mode) (place : Option ℕ) → Reads line may_alter text mode place → reading_of may_alter line ≡ Some (record { text = text; mode = mode; place = place })
reading_of-Reads may_alter line text mode place r =
    let bits : Mode = record { 0 = bits_of r.sign r.lead text r.tail } in
    let flagged : bits ≡ mode = ap (λ (n : ℕ). let mode : Mode = record { 0 = n } in mode) (sym r.bits) in
    let reading : Mode → Option ℕ → Reading = λ m p. record { text = text; mode = m; place = p } in
    line-is may_alter line r.sign (r.lead ++ (text ++ r.tail)) r.signed r.joined
    ∙ after_sign-is r.sign r.lead (text ++ r.tail) r.not_blank r.leads
    ∙ ap Some (after_lead-is r.sign r.lead text r.tail r.trails ∙ ap (λ m. reading m (first_special text)) flagged ∙ ap (reading mode) (sym r.placed))

-- ---- the equation gives a reading

-- a slash that the text begins with, and what follows it
pub lead-rest : (rest : List ℕ) → rest ≡ lead_of rest ++ rest_after (lead_of rest) rest
lead-rest rest =
    ⊎_elim
    (λ yes. let front = (starts_is Decides-eqb rest (codes "/") (starts_with nat_eq rest (codes "/")) refl).0 yes in
    rw yes front)
    (λ none. rw none refl)
    (cases_Bool (starts_with nat_eq rest (codes "/")))

pub text-tail : (inner : List ℕ) → inner ≡ before_tail inner ++ tail_of inner
text-tail inner =
    ⊎_elim
    (λ yes. let end = (ends_is Decides-eqb inner (codes "/") (ends_with nat_eq inner (codes "/")) refl).0 yes in
    rw yes end)
    (λ none. rw none (sym (append-nil (take (length inner - 0) inner) ∙ take_all (length inner - 0) inner (omega arith))))
    (cases_Bool (ends_with nat_eq inner (codes "/")))

first_byte : (line rest : List ℕ) (b : ℕ) → line ≡ b ∷ rest → line ≡ b ∷ drop 1 line
first_byte line rest b is = is ∙ ap (λ l. b ∷ l) (sym (ap (drop 1) is))

-- the tests that tell the sign
abbrev begins_with : List ℕ → List ℕ → Bool
begins_with front line = starts_with nat_eq line front

begins : (line front : List ℕ) → begins_with front line ≡ true → line ≡ front ++ drop (length front) line
begins line front h = (starts_is Decides-eqb line front (begins_with front line) refl).0 h

sign-rest : (may_alter : Bool) (line : List ℕ) → line ≡ sign_of may_alter line ++ rest_after (sign_of may_alter line) line
sign-rest false line = refl
sign-rest true line =
    ⊎_elim
    (λ (negates : begins_with (codes "!") line ≡ true). rw negates (begins line (codes "!") negates))
    (λ (keeps : begins_with (codes "!") line ≡ false). ⊎_elim
    (λ (escapes : (begins_with (codes "\\!") line || begins_with (codes "\\#") line) ≡ true).
    rw (keeps, escapes) (⊎_elim
    (λ bang. first_byte line _ 92 (begins line (codes "\\!") bang))
    (λ hash. first_byte line _ 92 (begins line (codes "\\#") hash))
    (or_cases _ _ escapes)))
    (λ (plain : (begins_with (codes "\\!") line || begins_with (codes "\\#") line) ≡ false). rw (keeps, plain) refl)
    (cases_Bool (begins_with (codes "\\!") line || begins_with (codes "\\#") line)))
    (cases_Bool (begins_with (codes "!") line))

Reads-parts : (may_alter : Bool) (line sign lead inner : List ℕ) → sign ≡ sign_of may_alter line → line ≡ sign ++ (lead ++ inner) → is_blank (lead ++ inner) ≡ false → lead ≡ lead_of (lead ++ inner)
    → let reading = reading_with sign lead (before_tail inner) (tail_of inner) in Reads line may_alter reading.text reading.mode reading.place
Reads-parts may_alter line sign lead inner signed joined some leads =
    let parts : inner ≡ before_tail inner ++ tail_of inner = text-tail inner in
    record {
      sign = sign;
      lead = lead;
      tail = tail_of inner;
      joined = subst (λ l. line ≡ sign ++ (lead ++ l)) parts joined;
      signed = signed;
      not_blank = subst (λ l. is_blank (lead ++ l) ≡ false) parts some;
      leads = subst (λ l. lead ≡ lead_of (lead ++ l)) parts leads;
      trails = ap tail_of parts;
      bits = refl;
      placed = refl;
    }

-- the equation, where what follows the sign is blank, and where it isn't
abbrev rest_of : Bool → List ℕ → List ℕ
rest_of may_alter line = rest_after (sign_of may_alter line) line

blank-none : (may_alter : Bool) (line : List ℕ) → is_blank (rest_of may_alter line) ≡ true → reading_of may_alter line ≡ None
unfolding reading_of reading_after_sign
blank-none may_alter line blank = rw blank refl

record IsGivenReading (may_alter : Bool) (line : List ℕ) (reading : Reading) : Type 0 where
  is : reading_of may_alter line ≡ Some reading
  reads : Reads line may_alter reading.text reading.mode reading.place

not_blank-some : (may_alter : Bool) (line : List ℕ) → is_blank (rest_of may_alter line) ≡ false → (reading : Reading) × IsGivenReading may_alter line reading
not_blank-some may_alter line some =
    let sign = sign_of may_alter line in
    let rest = rest_of may_alter line in
    let lead = lead_of rest in
    let inner = rest_after lead rest in
    let parts : rest ≡ lead ++ inner = lead-rest rest in
    let reading : Reading = reading_with sign lead (before_tail inner) (tail_of inner) in
    let reads : Reads line may_alter reading.text reading.mode reading.place =
    Reads-parts may_alter line sign lead inner refl (sign-rest may_alter line ∙ ap (λ l. sign ++ l) parts) (subst (λ l. is_blank l ≡ false) parts some) (ap lead_of parts) in
    (reading, record { is = reading_of-Reads may_alter line reading.text reading.mode reading.place reads; reads = reads })

pub Reads-reading_of : (may_alter : Bool) (line : List ℕ) (reading : Reading) → reading_of may_alter line ≡ Some reading → Reads line may_alter reading.text reading.mode reading.place
Reads-reading_of may_alter line reading is =
    ⊎_elim
    (λ blank. let none : None ≡ Some reading = sym (blank-none may_alter line blank) ∙ is in absurd (cc))
    (λ some. let found = not_blank-some may_alter line some in
    let same : found.0 ≡ reading = let both : Some found.0 ≡ Some reading = sym found.1.is ∙ is in cc in
    subst (λ (r : Reading). Reads line may_alter r.text r.mode r.place) same found.1.reads)
    (cases_Bool (is_blank (rest_of may_alter line)))

-- ---- no reading

pub reading_of-none : (may_alter : Bool) (line : List ℕ) → ¬ HasReading line may_alter → reading_of may_alter line ≡ None
reading_of-none may_alter line none =
    ⊎_elim
    (blank-none may_alter line)
    (λ some. let found = not_blank-some may_alter line some in
    absurd (none (found.0.text, found.0.mode, found.0.place, found.1.reads)))
    (cases_Bool (is_blank (rest_of may_alter line)))

pub HasReading-none : (may_alter : Bool) (line : List ℕ) → reading_of may_alter line ≡ None → ¬ HasReading line may_alter
HasReading-none may_alter line none has =
    let both : None ≡ Some _ = sym none ∙ reading_of-Reads may_alter line has.0 has.1 has.2 has.3 in absurd (cc)
