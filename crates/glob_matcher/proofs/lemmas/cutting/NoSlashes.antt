-- A value without slash is split alike in each mode, where the pattern begins with no double star and its slash.
use Rattle.std.proofs.Common.{◌≡◌, ◌≢◌, ◌↔◌, ◌⊎◌, inl, inr, ⊎_elim, ℕ, zero, suc, ◌+◌, ◌-◌, ◌<◌, ◌≤◌, Bool, true, false, not, ◌&&◌, ◌==◌, if◌then◌else◌, List, [], ◌∷◌, length, get_or, refl, sym, ap, ◌∙◌, subst, arith, eq-eqb}
use Rattle.std.specs.List.{list_any}
use Rattle.std.proofs.lemmas.Bool.{false≢true, false_from_ne_true, cases_Bool, cases_lt, eqb-true}
use Rattle.std.proofs.lemmas.Bool.Decides.{eqb_tells}
use Rattle.std.proofs.lemmas.List.Folds.{list_any_at}
use Rattle.glob_matcher.specs.declared.wildmatch.way.Way.{Way}
use Rattle.glob_matcher.specs.declared.wildmatch.items.Class.{Class}
use Rattle.glob_matcher.specs.declared.wildmatch.items.Class.TheVariants as class
use Rattle.glob_matcher.specs.declared.wildmatch.items.Item.{Item}
use Rattle.glob_matcher.specs.declared.wildmatch.items.Item.TheVariants as item
use Rattle.glob_matcher.specs.Bytes.{HasByte, IsEscaped, NoSlash, backslash, fold, folding, has_slash, is_path, slash, star}
use Rattle.glob_matcher.specs.ExactFolding.{is_exact_one}
use Rattle.glob_matcher.specs.Sets.{Set, class_holds, item_holds, set_holds}
use Rattle.glob_matcher.specs.Tokens.{Token, Byte, Any, OneOf, Free, Local, Dirs, Nothing, TokenAt, DirsAt, IsRun, IsBounded, From}
use Rattle.glob_matcher.specs.Matching.{SplitsBy, SplitsFrom, Fits}
use Rattle.glob_matcher.proofs.lemmas.reading.TokenLemmas.{byte_in_both, run_lead}
use Rattle.glob_matcher.proofs.lemmas.reading.Existence.{From-short, TokenAt-past}
use Rattle.glob_matcher.proofs.lemmas.cutting.CutLemmas.{IsOne, end_in, end_out, one_in, one_out, free_in, free_out, local_in, local_out, nothing_out}
use Rattle.glob_matcher.proofs.lemmas.cutting.SlashLemmas.{ends_in_slash_byte, fold_slash}

-- ---- tests of a byte that is no slash, in ways that fold alike

module _ (m n : Way) (case : folding m ≡ folding n) where
  same_fold : (b : ℕ) → fold m b ≡ fold n b
  same_fold b = rw case refl

  same_class : (c : Class) (b : ℕ) → class_holds m c b ≡ class_holds n c b
  same_class class.Alnum b = refl
  same_class class.Alpha b = refl
  same_class class.Blank b = refl
  same_class class.Cntrl b = refl
  same_class class.Digit b = refl
  same_class class.Graph b = refl
  same_class class.Lower b = refl
  same_class class.Print b = refl
  same_class class.Punct b = refl
  same_class class.Space b = refl
  same_class class.Upper b = rw case refl
  same_class class.Xdigit b = refl

  same_item : (b : ℕ) (x : Item) → item_holds m b x ≡ item_holds n b x
  same_item b (item.Member c) = rw case refl
  same_item b (item.Range low high) = rw case refl
  same_item b (item.Class c) = ap (class_holds m c) (same_fold b) ∙ same_class c (fold n b)

  same_items : (b : ℕ) (xs : List Item) → list_any (item_holds m b) xs ≡ list_any (item_holds n b) xs
  same_items b [] = refl
  same_items b (x ∷ xs) = rw (same_item b x) (rw (same_items b xs) refl)

  -- off the slash a set holds in the one mode what it holds in the other
  same_set : (s : Set) (b : ℕ) → b ≢ slash → set_holds m s b ≡ set_holds n s b
  same_set s b other =
      let no : (b == slash) ≡ false = false_from_ne_true (b == slash) (λ is. other (eqb-true b slash is)) in
      rw no (rw (same_items b s.items) (by (is_path m) (is_path n))) where
        by : (x y : Bool) → (not (x && false) && (if s.negated then not (list_any (item_holds n b) s.items) else list_any (item_holds n b) s.items))
            ≡ (not (y && false) && (if s.negated then not (list_any (item_holds n b) s.items) else list_any (item_holds n b) s.items))
        by true true = refl
        by true false = refl
        by false true = refl
        by false false = refl

  -- a token of one byte takes it in the one mode where it does in the other
  pub same_fits : (t : Token) (b : ℕ) → b ≢ slash → Fits m t b → Fits n t b
  same_fits (Byte c) b other fits = sym (same_fold b) ∙ (fits ∙ same_fold c)
  same_fits Any b other fits = λ path. other
  same_fits (OneOf s) b other fits = sym (same_set s b other) ∙ fits
  same_fits Free b other fits = absurd fits
  same_fits Local b other fits = absurd fits
  same_fits Dirs b other fits = absurd fits
  same_fits Nothing b other fits = absurd fits

-- ---- which bytes a pattern has, decided

has_byte_or_not : (p : List ℕ) (i b : ℕ) → HasByte p i b ⊎ (¬ HasByte p i b)
has_byte_or_not p i b = elim (cases_lt i (length p)) [
  | inr past ↦ inr (λ h. let inside = h.inside in omega arith)
  | inl inside ↦ elim (eqb_tells (get_or p i 0) b) [
    | inl same ↦ inl (record { inside = inside; is = same.1 })
    | inr other ↦ inr (λ h. other.1 h.is)
  ]
]

bounded_or_not : (p : List ℕ) (i j : ℕ) → IsBounded p i j ⊎ (¬ IsBounded p i j)
bounded_or_not p i j = elim (cases_lt j (i + 2)) [
  | inl few ↦ inr (λ x. let many = x.many in omega arith)
  | inr many ↦ by many before after
] where
  before : ((i ≡ 0) ⊎ HasByte p (i - 1) slash) ⊎ (¬ ((i ≡ 0) ⊎ HasByte p (i - 1) slash))
  before = elim (cases_lt 0 i) [
    | inr first ↦ inl (inl (omega arith))
    | inl later ↦ elim (has_byte_or_not p (i - 1) slash) [
      | inl h ↦ inl (inr h)
      | inr none ↦ inr (λ x. elim x [ inl first ↦ omega arith | inr h ↦ none h ])
    ]
  ]

  after : ((j ≡ length p) ⊎ (HasByte p j slash ⊎ IsEscaped p j slash)) ⊎ (¬ ((j ≡ length p) ⊎ (HasByte p j slash ⊎ IsEscaped p j slash)))
  after = elim (eqb_tells j (length p)) [
    | inl last ↦ inl (inl last.1)
    | inr inner ↦ elim (has_byte_or_not p j slash) [
      | inl h ↦ inl (inr (inl h))
      | inr bare ↦ elim (has_byte_or_not p j backslash) [
        | inr none ↦ inr (λ x. elim x [ inl last ↦ inner.1 last | inr e ↦ elim e [ inl h ↦ bare h | inr h ↦ none h.escape ] ])
        | inl escape ↦ elim (has_byte_or_not p (j + 1) slash) [
          | inl h ↦ inl (inr (inr (record { escape = escape; byte = h })))
          | inr none ↦ inr (λ x. elim x [ inl last ↦ inner.1 last | inr e ↦ elim e [ inl h ↦ bare h | inr h ↦ none h.byte ] ])
        ]
      ]
    ]
  ]

  by : i + 2 ≤ j → ((i ≡ 0) ⊎ HasByte p (i - 1) slash) ⊎ (¬ ((i ≡ 0) ⊎ HasByte p (i - 1) slash))
      → ((j ≡ length p) ⊎ (HasByte p j slash ⊎ IsEscaped p j slash)) ⊎ (¬ ((j ≡ length p) ⊎ (HasByte p j slash ⊎ IsEscaped p j slash)))
      → IsBounded p i j ⊎ (¬ IsBounded p i j)
  by many (inl x) (inl y) = inl (record { many = many; before = x; after = y })
  by many (inl x) (inr none) = inr (λ b. none b.after)
  by many (inr none) y = inr (λ b. none b.before)

-- ---- from token to token

-- no double star and its slash begin at place i, in any mode
pub NoDirs : List ℕ → ℕ → Type 0
NoDirs p i = (way : Way) (j : ℕ) → ¬ DirsAt way p i j

module _ (m n : Way) (p v : List ℕ) (case : folding m ≡ folding n) (none : NoSlash v 0 (length v)) where
  -- what is split from place i on in the one mode is split in the other
  Over : ℕ → Type 0
  Over i = (k : ℕ) → k ≤ length v → SplitsFrom v k p i m → SplitsFrom v k p i n

  -- a run of stars is a run in the other mode, too
  star_in : (i j k e : ℕ) → NoDirs p i → IsRun p i j → k ≤ e → e ≤ length v → SplitsFrom v e p j n → SplitsFrom v k p i n
  unfolding NoDirs
  star_in i j k e no_dirs run low high later = ⊎_elim path plain (cases_Bool (is_path n)) where
    plain : is_path n ≡ false → SplitsFrom v k p i n
    plain off = free_in n p v i j k e (run, λ path. absurd (false≢true (sym off ∙ path))) low high later

    path : is_path n ≡ true → SplitsFrom v k p i n
    path on = elim (bounded_or_not p i j) [
      | inl bounded ↦
          free_in n p v i j k e
          (run, λ path. (bounded, λ h. no_dirs n (j + 1) (record { path = on; run_end = j; run = run; bounded = bounded; slash = h; after = refl })))
          low high later
      | inr not_bounded ↦
          local_in n p v i j k e (run, on, not_bounded) low high (record { at = λ x from below. none.at x (omega arith) (omega arith) }) later
    ]

  -- after a run there is no star
  no_dirs_after_run : (i j : ℕ) → IsRun p i j → NoDirs p j
  unfolding NoDirs
  no_dirs_after_run i j run way e dirs = run.whole (run_lead p j dirs.run_end dirs.run)

  -- nor does a double star come after a byte that isn't a slash
  no_dirs_after_one : (i j c : ℕ) (t : Token) → IsOne t → TokenAt m p i t j → c ≢ slash → Fits m t c → NoDirs p j
  unfolding NoDirs
  no_dirs_after_one i j c t one here other fits way e dirs = elim dirs.bounded.before [
    | inl first ↦ let past : i < j = TokenAt-past m p i t j here in omega arith
    | inr h ↦ other (fold_slash m c (subst (λ (u : Token). Fits m u c) (ends_in_slash_byte m p i t j one here h) fits))
  ]

  one_over : (i j k : ℕ) (t : Token) → IsOne t → TokenAt m p i t j → TokenAt n p i t j → (NoDirs p j → Over j)
      → SplitsFrom v k p i m → SplitsFrom v k p i n
  unfolding Over
  one_over i j k t one here there later all =
      let out = one_out m p v i j k t one here all in
      let inside : k < length v = out.0 in
      let other : get_or v k 0 ≢ slash = none.at k (omega arith) inside in
      one_in n p v i j k t there inside (same_fits m n case t (get_or v k 0) other out.1)
      (later (no_dirs_after_one i j (get_or v k 0) t one here other out.1) (k + 1) (omega arith) out.2)

  token_over : (i j k : ℕ) (t : Token) → NoDirs p i → TokenAt m p i t j → (NoDirs p j → Over j) → k ≤ length v
      → SplitsFrom v k p i m → SplitsFrom v k p i n
  unfolding Over NoDirs
  token_over i j k (Byte b) no_dirs here later inside all = one_over i j k (Byte b) tt here (byte_in_both m n p i b j (ap is_exact_one case) here) later all
  token_over i j k Any no_dirs here later inside all = one_over i j k Any tt here here later all
  token_over i j k (OneOf s) no_dirs here later inside all = one_over i j k (OneOf s) tt here here later all
  token_over i j k Free no_dirs here later inside all =
      let out = free_out m p v i j k here inside all in
      star_in i j k out.0 no_dirs here.0 out.1 out.2 (later (no_dirs_after_run i j here.0) out.0 out.2 out.3)
  token_over i j k Local no_dirs here later inside all =
      let out = local_out m p v i j k here inside all in
      star_in i j k out.0 no_dirs here.0 out.1 out.2 (later (no_dirs_after_run i j here.0) out.0 out.2 out.4)
  token_over i j k Dirs no_dirs here later inside all = absurd (no_dirs m j here)
  token_over i j k Nothing no_dirs here later inside all = absurd (nothing_out m p v i j k here inside all)

  -- what is split where the first token is read first
  tokens_over : (i k : ℕ) (ts : List Token) → From m p i ts → ((j : ℕ) → i < j → NoDirs p j → Over j) → NoDirs p i → k ≤ length v
      → SplitsFrom v k p i m → SplitsFrom v k p i n
  unfolding Over
  tokens_over i k [] read later no_dirs inside all = end_in n p v i k read (end_out m p v i k read all)
  tokens_over i k (t ∷ ts) read later no_dirs inside all =
      token_over i read.0 k t no_dirs read.1 (later read.0 (TokenAt-past m p i t read.0 read.1)) inside all

  over : (d i : ℕ) → length p ≤ i + d → NoDirs p i → Over i
  unfolding Over
  over zero i enough no_dirs k inside all =
      tokens_over i k all.tokens all.read
      (λ j past clear e within rest. let short = From-short m p j rest.tokens rest.read in absurd (omega arith)) no_dirs inside all
  over (suc d) i enough no_dirs k inside all =
      tokens_over i k all.tokens all.read (λ j past clear. over d j (omega arith) clear) no_dirs inside all

-- ---- the law

-- where no place of the value has a slash, and no double star and its slash begin the pattern, the modes tell nothing apart
pub splits_alike : (m n : Way) (p v : List ℕ) → folding m ≡ folding n → has_slash v ≡ false → NoDirs p 0 → SplitsBy v p m ↔ SplitsBy v p n
unfolding Over
splits_alike m n p v case bare no_dirs = (
  λ s. over m n p v case none (length p) 0 (omega arith) no_dirs 0 (omega arith) s,
  λ s. over n m p v (sym case) none (length p) 0 (omega arith) no_dirs 0 (omega arith) s,
) where
  none : NoSlash v 0 (length v)
  none = record { at = λ x low inside is. false≢true (sym bare ∙ list_any_at (λ b. b == slash) v x 0 inside (eq-eqb _ _ is)) }

-- a pattern without slash has no double star and its slash
pub no_dirs_without_slash : (p : List ℕ) → has_slash p ≡ false → NoDirs p 0
unfolding NoDirs
no_dirs_without_slash p bare way j dirs =
    let there = dirs.slash in
    false≢true (sym bare ∙ list_any_at (λ b. b == slash) p dirs.run_end 0 there.inside (eq-eqb _ _ there.is))

-- nor does one that doesn't begin with two stars begin with them
pub no_dirs_without_stars : (p : List ℕ) → ¬ (HasByte p 0 star × HasByte p 1 star) → NoDirs p 0
unfolding NoDirs
no_dirs_without_stars p few way j dirs =
    let many : 0 + 2 ≤ dirs.run_end = dirs.bounded.many in
    few (dirs.run.stars 0 (omega arith) (omega arith), dirs.run.stars 1 (omega arith) (omega arith))
