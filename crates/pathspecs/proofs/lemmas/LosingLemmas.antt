-- Where a list may match nothing in a folder, no path there is matched.
use Rattle.std.proofs.Common.{◌≡◌, ◌≢◌, ◌⊎◌, inl, inr, ℕ, ◌<◌, ◌≤◌, Bool, true, false, IsTrue, List, [], ◌∷◌, ◌++◌, length, take, drop, codes, nat_eq, refl, sym, ap, ◌∙◌, subst, arith, length-append, append_assoc}
use Rattle.std.specs.Prelude.{◌==◌, ◌||◌}
use Rattle.std.specs.List.{ends_with, starts_with}
use Rattle.std.proofs.lemmas.Bool.{cases_lt, false≢true}
use Rattle.std.proofs.lemmas.List.{append-nil, drop-append-le, length-take-le, take-append-drop, take-append-le, take_at}
use Rattle.std.proofs.lemmas.Slice.Eq.{bytes_eq-Decides}
use Rattle.glob_matcher.specs.Bytes.{EndsInSlash, has_slash, slash}
use Rattle.pathspecs.specs.declared.manner.Manner.{Manner}
use Rattle.pathspecs.specs.declared.manner.Manner.TheVariants as manner
use Rattle.pathspecs.specs.Elements.{IsCut, IsMetSo, LeadsInto, Meets, PathspecItem, compared, is_below, kept_of, pattern_of}
use Rattle.pathspecs.specs.Lists.{IsMet}
use Rattle.pathspecs.specs.Laws.Losing.{LosesNothing}
use Rattle.pathspecs.proofs.lemmas.CutLemmas.{alike_is, compared_take, cut_at, head_length, rest_is}
use Rattle.pathspecs.proofs.lemmas.SlashLemmas.{ends_alike}

-- ---- what begins with bytes

begins : (path front : List ℕ) → IsTrue (starts_with nat_eq path front) → take (length front) path ≡ front
begins path front so = sym ((bytes_eq-Decides front (take (length front) path)).0 so)

begins_by : (path front : List ℕ) → take (length front) path ≡ front → IsTrue (starts_with nat_eq path front)
begins_by path front same = (bytes_eq-Decides front (take (length front) path)).1 (sym same)

-- a front that isn't longer than the folder's path
begins_in : (folder rest front : List ℕ) → length front ≤ length folder → IsTrue (starts_with nat_eq (folder ++ rest) front) → IsTrue (starts_with nat_eq folder front)
begins_in folder rest front short so = begins_by folder front (sym (take-append-le (length front) folder rest short) ∙ begins (folder ++ rest) front so)

front_short : (folder front : List ℕ) → take (length front) folder ≡ front → length front ≤ length folder
front_short folder front same = omega (arith, ap length (take-append-drop (length front) folder), length-append (take (length front) folder) (drop (length front) folder), ap length same)

begins_on : (folder rest front : List ℕ) → IsTrue (starts_with nat_eq folder front) → IsTrue (starts_with nat_eq (folder ++ rest) front)
begins_on folder rest front so =
    let same = begins folder front so in
    begins_by (folder ++ rest) front (take-append-le (length front) folder rest (front_short folder front same) ∙ same)

or_true : (b : Bool) → (b || true) ≡ true
or_true false = refl
or_true true = refl

slash_within : (front rest : List ℕ) → has_slash ((front ++ slash ∷ []) ++ rest) ≡ true
slash_within [] rest = refl
slash_within (b ∷ front) rest = ap (λ w. (b == slash) || w) (slash_within front rest) ∙ or_true (b == slash)

-- a front without a slash isn't longer than the folder's path
short_front : (folder rest front : List ℕ) → EndsInSlash folder → has_slash front ≡ false → IsTrue (starts_with nat_eq (folder ++ rest) front) → length front ≤ length folder
short_front folder rest front ends none so = elim (cases_lt (length folder) (length front)) [
  | inl long ↦
      let path_is : front ++ drop (length front) (folder ++ rest) ≡ folder ++ rest = ap (λ (w : List ℕ). w ++ drop (length front) (folder ++ rest)) (sym (begins (folder ++ rest) front so)) ∙ take-append-drop (length front) (folder ++ rest) in
      let folder_is : take (length folder) front ≡ folder = sym (take-append-le (length folder) front (drop (length front) (folder ++ rest)) (omega (arith, long))) ∙ ap (take (length folder)) path_is ∙ take_at folder rest (length folder) refl in
      let front_is : front ≡ (ends.front ++ slash ∷ []) ++ drop (length folder) front = sym (take-append-drop (length folder) front) ∙ ap (λ (w : List ℕ). w ++ drop (length folder) front) (folder_is ∙ ends.joined) in
      absurd (false≢true (sym none ∙ ap has_slash front_is ∙ slash_within ends.front (drop (length folder) front)))
  | inr short ↦ short
]

-- ---- a cut of a path in the folder

module _ (icase : Bool) (folder rest front behind : List ℕ) (cut : IsCut icase (folder ++ rest) front behind) where
  -- a front that isn't shorter than the folder's path goes on in it
  goes_on : (text more : List ℕ) → text ≡ front ++ more → length folder ≤ length front → (other : List ℕ) × IsCut icase text folder other
  goes_on text more joined long =
      let n = length folder in
      let head_is : take n cut.head ≡ folder =
      sym (take-append-le n cut.head behind (omega (arith, long, head_length icase (folder ++ rest) front behind cut))) ∙ sym (ap (take n) cut.joined) ∙ take_at folder rest n refl in
      let same : compared icase (take n text) ≡ compared icase folder =
      ap (compared icase) (ap (take n) joined ∙ take-append-le n front more long) ∙ compared_take icase n front ∙ ap (take n) (sym cut.alike) ∙ sym (compared_take icase n cut.head) ∙ ap (compared icase) head_is in
      (drop n text, cut_at icase text folder same)

  -- and one that isn't longer is cut from it
  lies_in : length front ≤ length folder → IsCut icase folder front (drop (length front) folder)
  lies_in short = cut_at icase folder front (ap (compared icase) (sym (take-append-le (length front) folder rest short)) ∙ alike_is icase (folder ++ rest) front behind cut)

-- ---- an element that meets a path in the folder

first_alone : (left rest : List ℕ) → 0 < length left → starts_with nat_eq (left ++ rest) (codes "/") ≡ starts_with nat_eq left (codes "/")
first_alone [] rest some = absurd (omega (arith, some))
first_alone (b ∷ left) rest some = refl

below_alone : (text left rest : List ℕ) → 0 < length left → is_below text (left ++ rest) ≡ is_below text left
below_alone text left rest some = ap (λ w. (length text == 0 || ends_with nat_eq text (codes "/")) || w) (first_alone left rest some)

module _ (item : PathspecItem) (folder rest : List ℕ) (ends : EndsInSlash folder) where
  kept_by_case : (item.magic.icase ≡ true → has_slash (kept_of item) ≡ false) → IsTrue (starts_with nat_eq (folder ++ rest) (kept_of item)) → item.magic.icase ≡ true → IsTrue (starts_with nat_eq folder (kept_of item))
  kept_by_case no_slash so folds = begins_in folder rest (kept_of item) (short_front folder rest (kept_of item) ends (no_slash folds) so) so

  kept_within : length (kept_of item) ≤ length item.text
  kept_within = omega (arith, ap length (take-append-drop item.literal_front item.text), length-append (kept_of item) (drop item.literal_front item.text))

  below_here : (behind : List ℕ) → IsTrue (starts_with nat_eq (folder ++ rest) (kept_of item)) → length item.text < length folder
      → IsCut item.magic.icase (folder ++ rest) item.text behind → IsTrue (is_below item.text behind) → Meets item folder
  below_here behind so short cut below =
      let n = length item.text in
      let left = drop n folder in
      let some : 0 < length left = omega (arith, short, ap length (take-append-drop n folder), length-append (take n folder) left, length-take-le n folder (omega (arith, short))) in
      let behind_is : behind ≡ left ++ rest = rest_is item.magic.icase (folder ++ rest) item.text behind cut ∙ drop-append-le n folder rest (omega (arith, short)) in
      let here : IsTrue (is_below item.text left) = sym (below_alone item.text left rest some) ∙ sym (ap (is_below item.text) behind_is) ∙ below in (
        begins_in folder rest (kept_of item) (omega (arith, kept_within, short)) so,
        (manner.Below, (left, lies_in item.magic.icase folder rest item.text behind cut (omega (arith, short)), here)),
      )

  met_or_led : (item.magic.icase ≡ true → has_slash (kept_of item) ≡ false) → IsTrue (starts_with nat_eq (folder ++ rest) (kept_of item)) → (way : Manner) → IsMetSo way item (folder ++ rest) → Meets item folder ⊎ LeadsInto item folder
  met_or_led no_slash so manner.Exact cut =
      let long : length folder ≤ length item.text = omega (arith, length-append folder rest, ap length (cut.joined ∙ append-nil cut.head), head_length item.magic.icase (folder ++ rest) item.text [] cut) in
      inr (kept_by_case no_slash so, inl (goes_on item.magic.icase folder rest item.text [] cut item.text [] (sym (append-nil item.text)) long))
  met_or_led no_slash so manner.Below met = elim (cases_lt (length item.text) (length folder)) [
    | inl short ↦ inl (below_here met.0 so short met.1 met.2)
    | inr long ↦ inr (kept_by_case no_slash so, inl (goes_on item.magic.icase folder rest item.text met.0 met.1 item.text [] (sym (append-nil item.text)) long))
  ]
  met_or_led no_slash so manner.Wild met = elim (cases_lt (length folder) (length (take item.front item.text))) [
    | inl long ↦ inr (
      kept_by_case no_slash so,
      inl (goes_on item.magic.icase folder rest (take item.front item.text) met.1 met.2 item.text (pattern_of item) (sym (take-append-drop item.front item.text)) (omega (arith, long))),
    )
    | inr short ↦ inr (kept_by_case no_slash so, inr (met.0, (drop (length (take item.front item.text)) folder, lies_in item.magic.icase folder rest (take item.front item.text) met.1 met.2 short)))
  ]

-- ---- an exclude that meets the folder

or_more : (a b : Bool) → (a || false) ≡ true → (a || b) ≡ true
or_more true b either = refl
or_more false b either = absurd (false≢true either)

below_on : (text behind rest : List ℕ) → IsTrue (is_below text behind) → IsTrue (is_below text (behind ++ rest))
below_on text [] rest below = or_more (length text == 0 || ends_with nat_eq text (codes "/")) (starts_with nat_eq rest (codes "/")) below
below_on text (b ∷ behind) rest below = below

or_second : (a b c : Bool) → b ≡ true → ((a || b) || c) ≡ true
or_second true b c second = refl
or_second false b c second = ap (λ w. w || c) second

pub below_end : (text rest : List ℕ) → ends_with nat_eq text (codes "/") ≡ true → IsTrue (is_below text rest)
below_end text rest ends = or_second (length text == 0) (ends_with nat_eq text (codes "/")) (starts_with nat_eq rest (codes "/")) ends

module _ (item : PathspecItem) (folder rest : List ℕ) (ends : EndsInSlash folder) (none : pattern_of item ≡ []) where
  still_met_so : (way : Manner) → IsMetSo way item folder → (other : Manner) × IsMetSo other item (folder ++ rest)
  still_met_so manner.Exact cut =
      let alike : compared item.magic.icase folder ≡ compared item.magic.icase item.text = ap (compared item.magic.icase) (cut.joined ∙ append-nil cut.head) ∙ cut.alike in
      (manner.Below, (rest, record { head = folder; joined = refl; alike = alike }, below_end item.text rest (ends_alike item.magic.icase folder item.text ends alike)))
  still_met_so manner.Below met = (
    manner.Below,
    (
      met.0 ++ rest,
      record { head = met.1.head; joined = ap (λ (w : List ℕ). w ++ rest) met.1.joined ∙ append_assoc met.1.head met.0 rest; alike = met.1.alike },
      below_on item.text met.0 rest met.2,
    ),
  )
  still_met_so manner.Wild met = absurd (met.0 none)

  still_met : Meets item folder → Meets item (folder ++ rest)
  still_met meets = (begins_on folder rest (kept_of item) meets.0, still_met_so meets.1.0 meets.1.1)

-- ---- lists

pub nothing_or_some : (xs : List ℕ) → (xs ≡ []) ⊎ (xs ≢ [])
nothing_or_some [] = inl refl
nothing_or_some (x ∷ xs) = inr (λ none. absurd (let e = ap length none in omega (arith, e)))

pub loses_nothing : LosesNothing
loses_nothing items folder rest ends none_wild kept nothing matches =
    let met = matches.0 in
    let item = met.1 in
    let no_slash : item.magic.icase ≡ true → has_slash (kept_of item) ≡ false =
    subst (λ (i : PathspecItem). i.magic.icase ≡ true → has_slash (kept_of i) ≡ false) met.3 (kept met.0 item met.2) in
    let leads : Meets item folder ⊎ LeadsInto item folder = met_or_led item folder rest ends no_slash met.4.1.0 met.4.1.1.0 met.4.1.1.1 in
    nothing (
      (met.0, item, met.2, met.3, (met.4.0, leads)),
      λ (excluded : IsMet true items folder). elim (nothing_or_some (pattern_of excluded.1)) [
        | inl none ↦ matches.1 (excluded.0, excluded.1, excluded.2, excluded.3, (excluded.4.0, still_met excluded.1 folder rest ends none excluded.4.1))
        | inr some ↦ none_wild (excluded.0, excluded.1, excluded.2, excluded.3, (excluded.4.0, some, excluded.4.1))
      ],
    )
