-- Paths in the order of their bytes.
use Rattle.std.proofs.Common.{◌≡◌, ◌≢◌, ◌⊎◌, inl, inr, ⊎_elim, ℕ, ◌<◌, List, [], ◌∷◌, ◌++◌, refl, sym, ap, subst, ◌∙◌, append_assoc, arith}
use Rattle.std.specs.Cmp.Lexicographic.{slice_cmp}
use Rattle.std.specs.Cmp.{ranks}
use Rattle.std.specs.Ordering.{MatchOrdering, nat_cmp, ordering_then}
use Rattle.std.specs.declared.cmp.Ordering.{Ordering}
use Rattle.std.specs.declared.cmp.Ordering.TheVariants.{Less, Equal, Greater}
use Rattle.gix_glob.specs.Bytes.{slash}
use Rattle.byte_streams.specs.Records.{HasNo}
use Rattle.tree_commands.specs.Files.{ComesBefore}

-- ---- the order by cases on the bytes

-- one text comes before another one: where they first differ it has the lesser byte, or it ends there
abbrev pub Before : List ℕ → List ℕ → Type 0
Before [] [] = ⊥
Before [] (y ∷ ys) = Unit {0}
Before (x ∷ xs) [] = ⊥
Before (x ∷ xs) (y ∷ ys) = (x < y) ⊎ ((x ≡ y) × Before xs ys)

abbrev Ranks : ℕ → ℕ → Type 0
Ranks x y = ((x < y) × (nat_cmp x y ≡ Less)) ⊎ (((x ≡ y) × (nat_cmp x y ≡ Equal)) ⊎ ((y < x) × (nat_cmp x y ≡ Greater)))

by_rank : (x y : ℕ) (rank : Ordering) → nat_cmp x y ≡ rank → MatchOrdering rank (x < y) (x ≡ y) (y < x) → Ranks x y
by_rank x y Less is h = inl (h, is)
by_rank x y Equal is h = inr (inl (h, is))
by_rank x y Greater is h = inr (inr (h, is))

three : (x y : ℕ) → Ranks x y
three x y = by_rank x y (nat_cmp x y) refl (ranks x y)

pub before_by_bytes : (xs ys : List ℕ) → ComesBefore xs ys → Before xs ys
before_by_bytes [] [] h = absurd (cc)
before_by_bytes [] (y ∷ ys) h = tt
before_by_bytes (x ∷ xs) [] h = absurd (cc)
before_by_bytes (x ∷ xs) (y ∷ ys) h = ⊎_elim
    (λ (less : (x < y) × (nat_cmp x y ≡ Less)). inl less.0)
    (λ (more : ((x ≡ y) × (nat_cmp x y ≡ Equal)) ⊎ ((y < x) × (nat_cmp x y ≡ Greater))). ⊎_elim
    (λ (same : (x ≡ y) × (nat_cmp x y ≡ Equal)). inr (same.0, before_by_bytes xs ys (sym (ap (λ o. ordering_then o (slice_cmp nat_cmp xs ys)) same.1) ∙ h)))
    (λ (greater : (y < x) × (nat_cmp x y ≡ Greater)).
    let never : Greater ≡ Less = sym (ap (λ o. ordering_then o (slice_cmp nat_cmp xs ys)) greater.1) ∙ h in absurd (cc))
    more)
    (three x y)

pub by_bytes_before : (xs ys : List ℕ) → Before xs ys → ComesBefore xs ys
by_bytes_before [] [] h = absurd h
by_bytes_before [] (y ∷ ys) h = refl
by_bytes_before (x ∷ xs) [] h = absurd h
by_bytes_before (x ∷ xs) (y ∷ ys) h = ⊎_elim
    (λ (less : (x < y) × (nat_cmp x y ≡ Less)). ap (λ o. ordering_then o (slice_cmp nat_cmp xs ys)) less.1)
    (λ (more : ((x ≡ y) × (nat_cmp x y ≡ Equal)) ⊎ ((y < x) × (nat_cmp x y ≡ Greater))). ⊎_elim
    (λ (same : (x ≡ y) × (nat_cmp x y ≡ Equal)). ap (λ o. ordering_then o (slice_cmp nat_cmp xs ys)) same.1 ∙ by_bytes_before xs ys (rest same.0 h))
    (λ (greater : (y < x) × (nat_cmp x y ≡ Greater)). absurd (never greater.0 h))
    more)
    (three x y)
  where
    rest : x ≡ y → (x < y) ⊎ ((x ≡ y) × Before xs ys) → Before xs ys
    rest is (inl less) = absurd (omega arith)
    rest is (inr more) = more.1

    never : y < x → (x < y) ⊎ ((x ≡ y) × Before xs ys) → ⊥
    never less (inl greater) = omega arith
    never less (inr more) = let is = more.0 in omega arith

-- ---- texts that go on

before_more : (xs ys more : List ℕ) → Before xs ys → Before xs (ys ++ more)
before_more [] [] more h = absurd h
before_more [] (y ∷ ys) more h = tt
before_more (x ∷ xs) [] more h = absurd h
before_more (x ∷ xs) (y ∷ ys) more (inl less) = inl less
before_more (x ∷ xs) (y ∷ ys) more (inr same) = inr (same.0, before_more xs ys more same.1)

-- what comes before a path comes before what lies below it
pub comes_before_more : (xs ys more : List ℕ) → ComesBefore xs ys → ComesBefore xs (ys ++ more)
comes_before_more xs ys more h = by_bytes_before xs (ys ++ more) (before_more xs ys more (before_by_bytes xs ys h))

-- a path comes before what goes on behind it
pub comes_before_itself_more : (xs more : List ℕ) → more ≢ [] → ComesBefore xs (xs ++ more)
comes_before_itself_more xs more some = by_bytes_before xs (xs ++ more) (before_itself xs more some)
  where
    before_itself : (xs more : List ℕ) → more ≢ [] → Before xs (xs ++ more)
    before_itself [] [] some = absurd (some refl)
    before_itself [] (y ∷ more) some = tt
    before_itself (x ∷ xs) more some = inr (refl, before_itself xs more some)

before_behind : (front xs ys : List ℕ) → Before xs ys → Before (front ++ xs) (front ++ ys)
before_behind [] xs ys h = h
before_behind (b ∷ front) xs ys h = inr (refl, before_behind front xs ys h)

before_without : (front xs ys : List ℕ) → Before (front ++ xs) (front ++ ys) → Before xs ys
before_without [] xs ys h = h
before_without (b ∷ front) xs ys (inl less) = absurd (omega arith)
before_without (b ∷ front) xs ys (inr same) = before_without front xs ys same.1

-- ---- names with slashes behind them

-- nothing stands behind a name, or a slash
abbrev pub IsMark : List ℕ → Type 0
IsMark mark = (mark ≡ []) ⊎ (mark ≡ slash ∷ [])

no_less_mark : (mark : List ℕ) → IsMark mark → Before (slash ∷ []) mark → ⊥
no_less_mark mark (inl none) h = subst (λ m. Before (slash ∷ []) m) none h
no_less_mark mark (inr one) h = twice (subst (λ m. Before (slash ∷ []) m) one h)
  where
    twice : Before (slash ∷ []) (slash ∷ []) → ⊥
    twice (inl less) = omega arith
    twice (inr same) = same.1

-- of two names, where a slash stands behind the one that comes first, it comes first with more behind the slash, too
name_goes_on : (name other mark rest : List ℕ) → HasNo slash name → HasNo slash other → IsMark mark → Before (name ++ slash ∷ []) (other ++ mark) → Before (name ++ slash ∷ rest) (other ++ mark)
name_goes_on [] [] mark rest none whole is h = absurd (no_less_mark mark is h)
name_goes_on [] (y ∷ other) mark rest none whole is (inl less) = inl less
name_goes_on [] (y ∷ other) mark rest none whole is (inr same) = absurd (whole.0 (sym same.0))
name_goes_on (x ∷ name) [] mark rest none whole (inl empty) h = absurd (subst (λ m. Before (x ∷ (name ++ slash ∷ [])) m) empty h)
name_goes_on (x ∷ name) [] mark rest none whole (inr one) h =
    subst (λ m. Before (x ∷ (name ++ slash ∷ rest)) m) (sym one) (heads (subst (λ m. Before (x ∷ (name ++ slash ∷ [])) m) one h))
  where
    heads : Before (x ∷ (name ++ slash ∷ [])) (slash ∷ []) → Before (x ∷ (name ++ slash ∷ rest)) (slash ∷ [])
    heads (inl less) = inl less
    heads (inr same) = absurd (none.0 same.0)
name_goes_on (x ∷ name) (y ∷ other) mark rest none whole is (inl less) = inl less
name_goes_on (x ∷ name) (y ∷ other) mark rest none whole is (inr same) = inr (same.0, name_goes_on name other mark rest none.1 whole.1 is same.1)

-- of two entries of a folder, all that lies below the one that comes first comes first, too
pub comes_before_below : (start name other mark rest : List ℕ) → HasNo slash name → HasNo slash other → IsMark mark
    → ComesBefore ((start ++ name) ++ slash ∷ []) ((start ++ other) ++ mark) → ComesBefore (((start ++ name) ++ slash ∷ []) ++ rest) ((start ++ other) ++ mark)
comes_before_below start name other mark rest none whole is h =
    let left = append_assoc start name (slash ∷ []) in
    let right = append_assoc start other mark in
    let longer : ((start ++ name) ++ slash ∷ []) ++ rest ≡ start ++ (name ++ slash ∷ rest) =
    append_assoc (start ++ name) (slash ∷ []) rest ∙ append_assoc start name (slash ∷ rest) in
    let known = before_by_bytes (start ++ (name ++ slash ∷ [])) (start ++ (other ++ mark)) (subst (λ l. ComesBefore l (start ++ (other ++ mark))) left (subst (λ r. ComesBefore ((start ++ name) ++ slash ∷ []) r) right h)) in
    let names = before_without start (name ++ slash ∷ []) (other ++ mark) known in
    let more = before_behind start (name ++ slash ∷ rest) (other ++ mark) (name_goes_on name other mark rest none whole is names) in
    subst (λ l. ComesBefore l ((start ++ other) ++ mark)) (sym longer) (subst (λ r. ComesBefore (start ++ (name ++ slash ∷ rest)) r) (sym right) (by_bytes_before (start ++ (name ++ slash ∷ rest)) (start ++ (other ++ mark)) more))

-- ---- a total order

before_trans : (xs ys zs : List ℕ) → Before xs ys → Before ys zs → Before xs zs
before_trans [] [] zs one two = absurd one
before_trans [] (y ∷ ys) [] one two = absurd two
before_trans [] (y ∷ ys) (z ∷ zs) one two = tt
before_trans (x ∷ xs) [] zs one two = absurd one
before_trans (x ∷ xs) (y ∷ ys) [] one two = absurd two
before_trans (x ∷ xs) (y ∷ ys) (z ∷ zs) (inl less) (inl more) = inl (omega arith)
before_trans (x ∷ xs) (y ∷ ys) (z ∷ zs) (inl less) (inr same) = inl (let is = same.0 in omega arith)
before_trans (x ∷ xs) (y ∷ ys) (z ∷ zs) (inr same) (inl more) = inl (let is = same.0 in omega arith)
before_trans (x ∷ xs) (y ∷ ys) (z ∷ zs) (inr one) (inr two) = inr (one.0 ∙ two.0, before_trans xs ys zs one.1 two.1)

either : (xs ys : List ℕ) → Before xs ys ⊎ ((xs ≡ ys) ⊎ Before ys xs)
either [] [] = inr (inl refl)
either [] (y ∷ ys) = inl tt
either (x ∷ xs) [] = inr (inr tt)
either (x ∷ xs) (y ∷ ys) = ⊎_elim
    (λ (less : (x < y) × (nat_cmp x y ≡ Less)). inl (inl less.0))
    (λ (more : ((x ≡ y) × (nat_cmp x y ≡ Equal)) ⊎ ((y < x) × (nat_cmp x y ≡ Greater))). ⊎_elim
    (λ (same : (x ≡ y) × (nat_cmp x y ≡ Equal)). ⊎_elim
    (λ (one : Before xs ys). inl (inr (same.0, one)))
    (λ (two : (xs ≡ ys) ⊎ Before ys xs). ⊎_elim
    (λ (is : xs ≡ ys). inr (inl (let head = same.0 in cc)))
    (λ (other : Before ys xs). inr (inr (inr (sym same.0, other))))
    two)
    (either xs ys))
    (λ (greater : (y < x) × (nat_cmp x y ≡ Greater)). inr (inr (inl greater.0)))
    more)
    (three x y)

-- what doesn't come behind another text, and isn't it, comes before it
pub comes_before_other : (xs ys : List ℕ) → ¬ ComesBefore ys xs → xs ≢ ys → ComesBefore xs ys
comes_before_other xs ys late other = ⊎_elim
    (λ (one : Before xs ys). by_bytes_before xs ys one)
    (λ (more : (xs ≡ ys) ⊎ Before ys xs). ⊎_elim
    (λ (is : xs ≡ ys). absurd (other is))
    (λ (behind : Before ys xs). absurd (late (by_bytes_before ys xs behind)))
    more)
    (either xs ys)

-- and so it goes on
pub not_behind_trans : (xs ys zs : List ℕ) → ¬ ComesBefore ys xs → ¬ ComesBefore zs ys → ¬ ComesBefore zs xs
not_behind_trans xs ys zs one two late = ⊎_elim
    (λ (first : Before xs ys). two (by_bytes_before zs ys (before_trans zs xs ys (before_by_bytes zs xs late) first)))
    (λ (more : (xs ≡ ys) ⊎ Before ys xs). ⊎_elim
    (λ (is : xs ≡ ys). two (subst (ComesBefore zs) is late))
    (λ (behind : Before ys xs). one (by_bytes_before ys xs behind))
    more)
    (either xs ys)

-- of two texts neither of which comes before the other one, each is the other
pub same_between : (xs ys : List ℕ) → ¬ ComesBefore xs ys → ¬ ComesBefore ys xs → xs ≡ ys
same_between xs ys one two = ⊎_elim
    (λ (before : Before xs ys). absurd (one (by_bytes_before xs ys before)))
    (λ (more : (xs ≡ ys) ⊎ Before ys xs). ⊎_elim
    (λ (is : xs ≡ ys). is)
    (λ (behind : Before ys xs). absurd (two (by_bytes_before ys xs behind)))
    more)
    (either xs ys)
