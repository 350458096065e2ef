-- What begins with a star token is split at earlier places too, and how many star tokens a pattern has.
use Rattle.std.proofs.Common.{◌≡◌, ◌⊎◌, inl, inr, ℕ, zero, suc, ◌+◌, ◌-◌, ◌<◌, ◌≤◌, List, [], ◌∷◌, length, get_or, refl, sym, ◌∙◌, ap, subst, arith}
use Rattle.std.proofs.lemmas.Bool.{cases_lt}
use Rattle.glob_matcher.specs.declared.wildmatch.way.Way.{Way}
use Rattle.glob_matcher.specs.Bytes.{HasByte, NoSlash, backslash, open_bracket, slash, star}
use Rattle.glob_matcher.specs.ExactFolding.{is_exact}
use Rattle.glob_matcher.specs.Private.Spelling.{question_mark}
use Rattle.glob_matcher.specs.Tokens.{Token, Byte, Any, OneOf, Free, Local, Dirs, Nothing, TokenAt, IsRun, IsBroken, From}
use Rattle.glob_matcher.specs.Matching.{SplitsFrom}
use Rattle.glob_matcher.specs.Pruning.{star_count}
use Rattle.glob_matcher.specs.Private.Fitting.{AfterSlash}
use Rattle.glob_matcher.proofs.lemmas.reading.SetLemmas.{HasByte-unique, two_bytes}
use Rattle.glob_matcher.proofs.lemmas.reading.TokenLemmas.{ByteAt, IsRun-unique, not_special, run_lead, TokenAt-unique, TokenAt-inside, byte_in_both, broken_in_both}
use Rattle.glob_matcher.proofs.lemmas.cutting.CutLemmas.{free_in, free_out, local_in, local_out, dirs_in, dirs_out}

-- two stretches without slash, one after the other
pub no_slash_join : {v : List ℕ} {k m e : ℕ} → NoSlash v k m → NoSlash v m e → NoSlash v k e
no_slash_join {m} x y = record {
  at = λ place low below. elim (cases_lt place m) [
    | inl before ↦ x.at place low before
    | inr later ↦ y.at place later below
  ];
}

module _ {way : Way} {p v : List ℕ} {i j k e : ℕ} where
  pub free_before : TokenAt way p i Free j → k ≤ e → e ≤ length v
      → SplitsFrom v e p i way → SplitsFrom v k p i way
  free_before here low inside all =
      let out = free_out way p v i j e here inside all in
      let later : e ≤ out.0 = out.1 in
      free_in way p v i j k out.0 here (omega arith) out.2 out.3

  pub local_before : TokenAt way p i Local j → k ≤ e → e ≤ length v → NoSlash v k e
      → SplitsFrom v e p i way → SplitsFrom v k p i way
  local_before here low inside none all =
      let out = local_out way p v i j e here inside all in
      let later : e ≤ out.0 = out.1 in
      local_in way p v i j k out.0 here (omega arith) out.2 (no_slash_join none out.3) out.4

  pub dirs_before : TokenAt way p i Dirs j → k < e → e ≤ length v
      → get_or v (e - 1) 0 ≡ slash → SplitsFrom v e p i way → SplitsFrom v k p i way
  dirs_before here low inside is all =
      let out = dirs_out way p v i j e here inside all in by out.0 out.1 out.2 where
        by : (f : ℕ) → (f ≡ e) ⊎ AfterSlash v e f → SplitsFrom v f p j way → SplitsFrom v k p i way
        by f (inl same) later =
            dirs_in way p v i j k e here (record { past = low; inside = inside; slash = is })
            (subst (λ (n : ℕ). SplitsFrom v n p j way) same later)
        by f (inr after) later =
            let past : e < f = after.past in
            dirs_in way p v i j k f here (record { past = omega arith; inside = after.inside; slash = after.slash }) later

-- a star token: a run of stars, with a slash after it or without
pub record IsStarToken (p : List ℕ) (i : ℕ) (t : Token) (j : ℕ) : Type 0 where
  pub stop : ℕ
  pub run : IsRun p i stop
  pub after : (j ≡ stop) ⊎ (HasByte p stop slash × (j ≡ stop + 1))
  pub counts : (ts : List Token) → star_count (t ∷ ts) ≡ star_count ts + 1

-- another token: it is the same in each way that folds as exactly
pub record IsOtherToken (way : Way) (p : List ℕ) (i : ℕ) (t : Token) (j : ℕ) : Type 0 where
  pub alike : (other : Way) → is_exact way ≡ is_exact other → TokenAt other p i t j
  pub counts : (ts : List Token) → star_count (t ∷ ts) ≡ star_count ts
  pub no_star : ¬ HasByte p i star

byte_no_star : (way : Way) (p : List ℕ) (i b j : ℕ) → ByteAt way p i b j → ¬ HasByte p i star
byte_no_star way p i b j (inl e) h = two_bytes p i backslash star e.0.escape h (λ is. omega arith)
byte_no_star way p i b j (inr e) h = not_special b star e.1 refl (HasByte-unique p i b star e.0 h)

broken_no_star : (way : Way) (p : List ℕ) (i : ℕ) → IsBroken way p i → ¬ HasByte p i star
broken_no_star way p i (inl e) h = two_bytes p i backslash star e.0 h (λ is. omega arith)
broken_no_star way p i (inr e) h = two_bytes p i open_bracket star e.0 h (λ is. omega arith)

pub star_or_other : (way : Way) (p : List ℕ) (i : ℕ) (t : Token) (j : ℕ) → TokenAt way p i t j
    → IsStarToken p i t j ⊎ IsOtherToken way p i t j
star_or_other way p i (Byte b) j e = inr (record { alike = λ m exact. byte_in_both way m p i b j exact e; counts = λ ts. refl; no_star = byte_no_star way p i b j e })
star_or_other way p i Any j e =
    inr (record { alike = λ m exact. e; counts = λ ts. refl; no_star = λ h. two_bytes p i question_mark star e.0 h (λ is. omega arith) })
star_or_other way p i (OneOf s) j e =
    inr (record { alike = λ m exact. e; counts = λ ts. refl; no_star = λ h. two_bytes p i open_bracket star e.bracket h (λ is. omega arith) })
star_or_other way p i Free j e = inl (record { stop = j; run = e.0; after = inl refl; counts = λ ts. refl })
star_or_other way p i Local j e = inl (record { stop = j; run = e.0; after = inl refl; counts = λ ts. refl })
star_or_other way p i Dirs j e = inl (record { stop = e.run_end; run = e.run; after = inr (e.slash, e.after); counts = λ ts. refl })
star_or_other way p i Nothing j e =
    inr (record { alike = λ m exact. (broken_in_both way m p i exact e.0, e.1); counts = λ ts. refl; no_star = broken_no_star way p i e.0 })

-- a bare slash is a token of its own
pub slash_token : (way : Way) (p : List ℕ) (i : ℕ) → HasByte p i slash → TokenAt way p i (Byte slash) (i + 1)
slash_token way p i h = inr (h, refl, refl)

-- the tokens after a slash
after_slash_token : (way : Way) (p : List ℕ) (i : ℕ) (ts : List Token) → HasByte p i slash → From way p i ts
    → (us : List Token) × From way p (i + 1) us × (length ts ≡ length us + 1) × (star_count ts ≡ star_count us)
after_slash_token way p i [] h read = let inside = h.inside in absurd (omega arith)
after_slash_token way p i (t ∷ ts) h read =
    let same = TokenAt-unique way p i t (Byte slash) read.0 (i + 1) read.1 (slash_token way p i h) in
    let long : length (t ∷ ts) ≡ length ts + 1 = omega arith in
    (ts, subst (λ (n : ℕ). From way p n ts) same.1 read.2, long, ap (λ (u : Token). star_count (u ∷ ts)) same.0)

-- the number of star tokens from a place on is the same in ways that fold as exactly
module _ (m n : Way) (exact : is_exact m ≡ is_exact n) (p : List ℕ) where
  Agree : ℕ → Type 0
  Agree bound = (i : ℕ) (ts us : List Token) → length ts ≤ bound → From m p i ts → From n p i us → star_count ts ≡ star_count us

  after_stars : (bound i j end : ℕ) (ts us : List Token) → Agree bound → length ts ≤ bound
      → (stop : ℕ) → (j ≡ stop) ⊎ (HasByte p stop slash × (j ≡ stop + 1)) → (end ≡ stop) ⊎ (HasByte p stop slash × (end ≡ stop + 1))
      → From m p j ts → From n p end us → star_count ts ≡ star_count us
  unfolding Agree
  after_stars bound i j end ts us later few stop (inl a) (inl b) x y =
      later stop ts us few (subst (λ (q : ℕ). From m p q ts) a x) (subst (λ (q : ℕ). From n p q us) b y)
  after_stars bound i j end ts us later few stop (inl a) (inr b) x y =
      let past = after_slash_token m p stop ts b.0 (subst (λ (q : ℕ). From m p q ts) a x) in
      past.3 ∙ later (stop + 1) past.0 us (omega (arith, past.2)) past.1 (subst (λ (q : ℕ). From n p q us) b.1 y)
  after_stars bound i j end ts us later few stop (inr a) (inl b) x y =
      let past = after_slash_token n p stop us a.0 (subst (λ (q : ℕ). From n p q us) b y) in
      later (stop + 1) ts past.0 few (subst (λ (q : ℕ). From m p q ts) a.1 x) past.1 ∙ sym past.3
  after_stars bound i j end ts us later few stop (inr a) (inr b) x y =
      later (stop + 1) ts us few (subst (λ (q : ℕ). From m p q ts) a.1 x) (subst (λ (q : ℕ). From n p q us) b.1 y)

  step : (bound i j end : ℕ) (t u : Token) (ts us : List Token) → Agree bound → length ts ≤ bound
      → IsStarToken p i t j ⊎ IsOtherToken m p i t j → IsStarToken p i u end ⊎ IsOtherToken n p i u end
      → TokenAt n p i u end → From m p j ts → From n p end us → star_count (t ∷ ts) ≡ star_count (u ∷ us)
  unfolding Agree
  step bound i j end t u ts us later few (inl a) (inl b) here x y =
      let same = IsRun-unique p i a.stop b.stop a.run b.run in
      let again = after_stars bound i j end ts us later few b.stop
      (subst (λ (q : ℕ). (j ≡ q) ⊎ (HasByte p q slash × (j ≡ q + 1))) same a.after) b.after x y in
      a.counts ts ∙ (ap (λ (q : ℕ). q + 1) again ∙ sym (b.counts us))
  step bound i j end t u ts us later few (inl a) (inr b) here x y = absurd (b.no_star (run_lead p i a.stop a.run))
  step bound i j end t u ts us later few (inr a) (inl b) here x y = absurd (a.no_star (run_lead p i b.stop b.run))
  step bound i j end t u ts us later few (inr a) (inr b) here x y =
      let same = TokenAt-unique n p i t u j end (a.alike n exact) here in
      a.counts ts ∙ (later end ts us few (subst (λ (q : ℕ). From m p q ts) same.1 x) y ∙ sym (b.counts us))

  agree : (bound : ℕ) → Agree bound
  unfolding Agree
  agree bound i [] [] few x y = refl
  agree bound i [] (u ∷ us) few x y = let inside = TokenAt-inside n p i u y.0 y.1 in absurd (omega arith)
  agree bound i (t ∷ ts) [] few x y = let inside = TokenAt-inside m p i t x.0 x.1 in absurd (omega arith)
  agree zero i (t ∷ ts) (u ∷ us) few x y = absurd (omega arith)
  agree (suc bound) i (t ∷ ts) (u ∷ us) few x y =
      step bound i x.0 y.0 t u ts us (agree bound) (omega arith) (star_or_other m p i t x.0 x.1) (star_or_other n p i u y.0 y.1) y.1 x.2 y.2

pub star_count_alike : (m n : Way) → is_exact m ≡ is_exact n → (p : List ℕ) (i : ℕ) (ts us : List Token) → From m p i ts → From n p i us
    → star_count ts ≡ star_count us
unfolding Agree
star_count_alike m n exact p i ts us x y = agree m n exact p (length ts) i ts us (omega arith) x y
