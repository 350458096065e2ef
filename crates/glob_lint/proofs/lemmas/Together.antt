-- Lines that each have a reason may be taken out together: no answer changes.
use Rattle.std.proofs.Common.{◌≡◌, ◌⊎◌, inl, inr, ⊎_elim, ℕ, ◌+◌, ◌<◌, ◌≤◌, Bool, true, false, List, Option, Some, None, refl, sym, ap, subst, ◌∙◌, arith, zero-add}
use Rattle.std.specs.Prelude.{◌↔◌}
use Rattle.std.proofs.lemmas.Bool.{cases_lt, false≢true}
use Rattle.glob_lists.specs.declared.rules.Rules.{Rules}
use Rattle.gix_glob.specs.EntryLists.{EntryList}
use Rattle.glob_lists.specs.Deciding.{Decides, IsLastAnswer}
use Rattle.glob_trees.specs.Trees.{HasNoneIgnored, Ignores, IsPositiveAt}
use Rattle.glob_trees.proofs.lemmas.Folders.{above_above}
use Rattle.glob_lint.specs.Ignoring.{IgnoreAlike, Ignoring}
use Rattle.glob_lint.specs.Lines.{IsReal}
use Rattle.glob_lint.specs.declared.why.Why.TheVariants.{TakesNothingBack}
use Rattle.glob_lint.specs.Effects.{Before, IsWhy}
use Rattle.glob_lint.specs.Private.Reasons.{IsBacked, MayGo}
use Rattle.glob_lint.specs.Without.{is_among, lists_but}
use Rattle.glob_lint.proofs.lemmas.Finding.{something_decides}
use Rattle.glob_lint.proofs.lemmas.Left.{IsLeft, match_stays, match_stood, sign_stays}
use Rattle.glob_lint.proofs.lemmas.Ranks.{rank, rank_grows, rank_rises}
use Rattle.glob_lint.proofs.lemmas.Parts.{folder_is_real}

-- of two pairs of places the one comes before the other, or they are one, or the other way round
pub in_order : (a b : ℕ × ℕ) → Before a b ⊎ ((a ≡ b) ⊎ Before b a)
in_order (i, m) (j, n) =
    ⊎_elim
    (λ (less : i < j). inl (inl less))
    (λ (from : j ≤ i). ⊎_elim
    (λ (more : j < i). inr (inr (inl more)))
    (λ (up_to : i ≤ j).
    let same : i ≡ j = omega arith in
    ⊎_elim
    (λ (low : m < n). inl (inr (same, low)))
    (λ (high : n ≤ m). ⊎_elim
    (λ (lower : n < m). inr (inr (inr (sym same, lower))))
    (λ (level : m ≤ n). let place : m ≡ n = omega arith in inr (inl cc))
    (cases_lt n m))
    (cases_lt m n))
    (cases_lt j i))
    (cases_lt i j)

pub by_order : (a b : ℕ × ℕ) (P : Type 0) → (Before a b → P) → (a ≡ b → P) → (Before b a → P) → P
by_order a b P before same after = ⊎_elim before (λ (h : (a ≡ b) ⊎ Before b a). ⊎_elim same after h) (in_order a b)

pub not_both : (a b : ℕ × ℕ) → Before a b → ¬ Before b a
not_both a b (inl h) (inl k) = omega arith
not_both a b (inl h) (inr k) = let same = k.0 in omega arith
not_both a b (inr h) (inl k) = let same = h.0 in omega arith
not_both a b (inr h) (inr k) = let less = h.1 in let more = k.1 in omega arith

-- the one pair of places is the other, or comes before it
abbrev pub UpTo : ℕ × ℕ → ℕ × ℕ → Type 0
UpTo a b = (a.0 < b.0) ⊎ ((a.0 ≡ b.0) × (a.1 ≤ b.1))

pub not_past : (a b : ℕ × ℕ) → UpTo a b → ¬ Before b a
not_past a b (inl h) (inl k) = omega arith
not_past a b (inl h) (inr k) = let same = k.0 in omega arith
not_past a b (inr h) (inl k) = let same = h.0 in omega arith
not_past a b (inr h) (inr k) = let less = h.1 in let more = k.1 in omega arith

one_last : (a b : ℕ × ℕ) → UpTo a b → UpTo b a → a ≡ b
one_last a b h k = by_order a b (a ≡ b) (λ before. absurd (not_past b a k before)) (λ same. same) (λ after. absurd (not_past a b h after))

pub false_or_true : (b : Bool) → (b ≡ false) ⊎ (b ≡ true)
false_or_true true = inr refl
false_or_true false = inl refl

module _ {V : Type 0} (lists : List (EntryList V)) (folder : List ℕ) (rules : Rules) where
  -- what decides about a folder that no line ignores doesn't
  not_ignoring : (pair : Option (ℕ × ℕ)) → Decides lists folder true rules pair → ((by : ℕ × ℕ) → ¬ Ignores lists rules folder by) → ¬ Ignoring lists pair
  not_ignoring None d none h = h
  not_ignoring (Some by) d none h = none by (d, h)

module _ {V : Type 0} (lists : List (EntryList V)) (gone : List (ℕ × ℕ)) (rules : Rules) where
  abbrev but : List (EntryList V)
  but = lists_but gone 0 lists

  -- ---- the last line that matches

  module _ (path : List ℕ) (is_dir : Bool) where
    -- what is earlier is left earlier
    left_earlier : (a b x y : ℕ × ℕ) → IsLeft lists gone path is_dir rules a x → IsLeft lists gone path is_dir rules b y → Before a b → Before x y
    left_earlier a b x y s t (inl less) = inl (let i = s.list in let j = t.list in omega arith)
    left_earlier a b x y s t (inr (same, less)) =
        let kept : is_among gone a.0 (0 + a.1) ≡ false = subst (λ n. is_among gone a.0 n ≡ false) (sym (zero-add a.1)) s.stays in
        let grows : rank (is_among gone a.0) 0 a.1 < rank (is_among gone a.0) 0 b.1 = rank_grows (is_among gone a.0) 0 a.1 b.1 less kept in
        let there : rank (is_among gone a.0) 0 b.1 ≡ y.1 = ap (λ i. rank (is_among gone i) 0 b.1) same ∙ t.place in
        let here : rank (is_among gone a.0) 0 a.1 ≡ x.1 = s.place in
        inr (s.list ∙ (same ∙ sym t.list), omega arith)

    left_up_to : (a b x y : ℕ × ℕ) → IsLeft lists gone path is_dir rules a x → IsLeft lists gone path is_dir rules b y → UpTo a b → UpTo x y
    left_up_to a b x y s t (inl less) = inl (let i = s.list in let j = t.list in omega arith)
    left_up_to a b x y s t (inr (same, up_to)) =
        let rises : rank (is_among gone a.0) 0 a.1 ≤ rank (is_among gone a.0) 0 b.1 = rank_rises (is_among gone a.0) 0 a.1 b.1 up_to in
        let there : rank (is_among gone a.0) 0 b.1 ≡ y.1 = ap (λ i. rank (is_among gone i) 0 b.1) same ∙ t.place in
        let here : rank (is_among gone a.0) 0 a.1 ≡ x.1 = s.place in
        inr (s.list ∙ (same ∙ sym t.list), omega arith)

    last_left : (pair left : ℕ × ℕ) → IsLeft lists gone path is_dir rules pair left → IsLastAnswer lists path is_dir rules pair → IsLastAnswer but path is_dir rules left
    last_left pair left s found = record {
      answers = s.is;
      last = λ i n other.
          let t = match_stood lists gone path is_dir rules (i, n) other in
          left_up_to (i, t.0) pair (i, n) left t.1 s (found.last i t.0 t.1.was);
    }

    -- ---- what decides, where no folder above is ignored

    module _ (pair y : ℕ × ℕ) (is_gone : is_among gone pair.0 pair.1 ≡ true) (was : IsLastAnswer lists path is_dir rules pair) (is : IsLastAnswer but path is_dir rules y) where
      -- the line that is left as the last one
      stood : (m : ℕ) × IsLeft lists gone path is_dir rules (y.0, m) y
      stood = match_stood lists gone path is_dir rules y is.answers

      stood_earlier : Before (y.0, stood.0) pair
      stood_earlier = by_order (y.0, stood.0) pair (Before (y.0, stood.0) pair)
          (λ before. before)
          (λ same. absurd (false≢true (sym stood.1.stays ∙ ap (λ (p : ℕ × ℕ). is_among gone p.0 p.1) same ∙ is_gone)))
          (λ after. absurd (not_past (y.0, stood.0) pair (was.last y.0 stood.0 stood.1.was) after))

      alike_backed : IsReal path → IsBacked rules lists gone pair → IsPositiveAt lists pair ↔ IsPositiveAt but y
      alike_backed real b =
          let s = match_stays lists gone path is_dir rules b.by (b.covers path is_dir real was.answers) b.stays in
          let left : ℕ × ℕ = (b.by.0, rank (is_among gone b.by.0) 0 b.by.1) in
          let sign = b.alike (y.0, stood.0)
          (λ after. not_past left y (is.last left.0 left.1 s.is) (left_earlier (y.0, stood.0) b.by y left stood.1 s after))
          stood_earlier path is_dir real was.answers stood.1.was in
          let stays = sign_stays lists gone path is_dir rules (y.0, stood.0) y stood.1 in
          (λ h. stays.0 (sign.1 h), λ h. sign.0 (stays.1 h))

      alike_taking : IsReal path → IsWhy rules lists pair TakesNothingBack → IsPositiveAt lists pair ↔ IsPositiveAt but y
      alike_taking real takes =
          let stays = sign_stays lists gone path is_dir rules (y.0, stood.0) y stood.1 in (
            λ h. let self = takes path is_dir pair real was.answers was.answers h in absurd (not_both pair pair self self),
            λ h. absurd (not_both (y.0, stood.0) pair stood_earlier (takes path is_dir (y.0, stood.0) real was.answers stood.1.was (stays.1 h))),
          )

    last_once : (a b : ℕ × ℕ) → IsLastAnswer but path is_dir rules a → IsLastAnswer but path is_dir rules b → a ≡ b
    last_once a b h k = one_last a b (k.last a.0 a.1 h.answers) (h.last b.0 b.1 k.answers)

    -- a line that is gone decided
    module _ (real : IsReal path) (none : HasNoneIgnored lists rules path) (pair : ℕ × ℕ) (is_gone : is_among gone pair.0 pair.1 ≡ true) (was : IsLastAnswer lists path is_dir rules pair) where
      alike_gone : MayGo rules lists gone pair → (is : Option (ℕ × ℕ)) → Decides but path is_dir rules is → IsPositiveAt lists pair ↔ Ignoring but is
      alike_gone (inl never) is d = absurd (never path is_dir real none was)
      alike_gone (inr (inl b)) None d =
          let s = match_stays lists gone path is_dir rules b.by (b.covers path is_dir real was.answers) b.stays in
          absurd (d b.by.0 (rank (is_among gone b.by.0) 0 b.by.1) s.is)
      alike_gone (inr (inl b)) (Some y) d = alike_backed pair y is_gone was d real b
      alike_gone (inr (inr takes)) None d =
          (λ h. let self = takes path is_dir pair real was.answers was.answers h in absurd (not_both pair pair self self), λ h. absurd h)
      alike_gone (inr (inr takes)) (Some y) d = alike_taking pair y is_gone was d real takes

    -- a line that stays decided
    alike_kept : (pair : ℕ × ℕ) → is_among gone pair.0 pair.1 ≡ false → IsLastAnswer lists path is_dir rules pair → (is : Option (ℕ × ℕ)) → Decides but path is_dir rules is → IsPositiveAt lists pair ↔ Ignoring but is
    alike_kept pair stays was None d =
        let s = match_stays lists gone path is_dir rules pair was.answers stays in
        absurd (d pair.0 (rank (is_among gone pair.0) 0 pair.1) s.is)
    alike_kept pair stays was (Some y) d =
        let left : ℕ × ℕ = (pair.0, rank (is_among gone pair.0) 0 pair.1) in
        let s = match_stays lists gone path is_dir rules pair was.answers stays in
        subst (λ p. IsPositiveAt lists pair ↔ IsPositiveAt but p) (last_once left y (last_left pair left s was) d) (sign_stays lists gone path is_dir rules pair left s)

  module _ (reasons : (pair : ℕ × ℕ) → is_among gone pair.0 pair.1 ≡ true → MayGo rules lists gone pair) where
    module _ (path : List ℕ) (is_dir : Bool) (real : IsReal path) (none : HasNoneIgnored lists rules path) where
      alike_here : (was is : Option (ℕ × ℕ)) → Decides lists path is_dir rules was → Decides but path is_dir rules is → Ignoring lists was ↔ Ignoring but is
      alike_here None None d e = (λ h. h, λ h. h)
      alike_here None (Some y) d e =
          let t = match_stood lists gone path is_dir rules y e.answers in
          absurd (d y.0 t.0 t.1.was)
      alike_here (Some pair) is d e = ⊎_elim
          (λ (stays : is_among gone pair.0 pair.1 ≡ false). alike_kept path is_dir pair stays d is e)
          (λ (is_gone : is_among gone pair.0 pair.1 ≡ true). alike_gone path is_dir real none pair is_gone d (reasons pair is_gone) is e)
          (false_or_true (is_among gone pair.0 pair.1))

    -- ---- what decides in a work tree

    -- Taking these lines out changes no answer.
    pub alike : IgnoreAlike rules lists but
    alike path is_dir was is real (inl x) (inl y) = (
      λ _. subst (Ignoring but) (sym y.2) y.1.ignored.1,
      λ _. subst (Ignoring lists) (sym x.2) x.1.ignored.1,
    )
    alike path is_dir was is real (inl x) (inr y) =
        let folder = x.1.folder in
        let folder_real = folder_is_real folder x.1.above.0 path x.1.above.1 real in
        absurd (something_decides but folder true rules (λ d.
        let same = alike_here folder true folder_real x.1.topmost (Some x.0) d.0 x.1.ignored.0 d.1 in
        not_ignoring but folder rules d.0 d.1 (λ pair. y.0 folder pair x.1.above) (same.0 x.1.ignored.1)))
    alike path is_dir was is real (inr x) (inl y) =
        let folder = y.1.folder in
        let folder_real = folder_is_real folder y.1.above.0 path y.1.above.1 real in
        let none : HasNoneIgnored lists rules folder = λ top by higher. x.0 top by (above_above top folder path higher y.1.above) in
        absurd (something_decides lists folder true rules (λ d.
        let same = alike_here folder true folder_real none d.0 (Some y.0) d.1 y.1.ignored.0 in
        not_ignoring lists folder rules d.0 d.1 (λ pair. x.0 folder pair y.1.above) (same.1 y.1.ignored.1)))
    alike path is_dir was is real (inr x) (inr y) = alike_here path is_dir real x.0 was is x.1 y.1
