-- A pattern is read in one way: a place decides its token and where that ends, and so the tokens from it on.
use Rattle.std.specs.Char.{is_ascii_uppercase}
use Rattle.std.proofs.Common.{◌≡◌, ◌≢◌, ◌⊎◌, inl, inr, ⊎_elim, ℕ, ◌+◌, ◌<◌, Bool, true, not, ◌&&◌, IsTrue, List, [], ◌∷◌, length, refl, sym, ◌∙◌, ap, subst, arith}
use Rattle.std.proofs.lemmas.Bool.{eqb-true, false≢true, false_from_ne_true, or_cases}
use Rattle.glob_matcher.specs.declared.wildmatch.way.Way.{Way}
use Rattle.glob_matcher.specs.Bytes.{HasByte, IsEscaped, StandsForItself, is_special, star, open_bracket, backslash, slash}
use Rattle.glob_matcher.specs.ExactFolding.{is_dead, is_exact}
use Rattle.glob_matcher.specs.Private.Spelling.{question_mark}
use Rattle.glob_matcher.specs.Sets.{Set, SetAt}
use Rattle.glob_matcher.specs.Tokens.{Token, Byte, Any, OneOf, Free, Local, Dirs, Nothing, TokenAt, DirsAt, IsRun, IsBounded, IsBroken, From}
use Rattle.glob_matcher.proofs.lemmas.reading.SetLemmas.{HasByte-unique, IsEscaped-unique, two_bytes, SetAt-unique}

-- the byte b is spelled from place i up to place j
abbrev pub ByteAt : Way → List ℕ → ℕ → ℕ → ℕ → Type 0
ByteAt way p i b j = (IsEscaped p i b × (j ≡ i + 2) × IsTrue (not (is_dead way b))) ⊎ (HasByte p i b × StandsForItself b × (j ≡ i + 1))

-- a run of stars ends in one place
run_not_longer : (p : List ℕ) (i j m : ℕ) → IsRun p i j → IsRun p i m → j < m → ⊥
run_not_longer p i j m x y longer = let some : i < j = x.some in x.whole (y.stars j (omega arith) longer)

pub IsRun-unique : (p : List ℕ) (i j m : ℕ) → IsRun p i j → IsRun p i m → j ≡ m
IsRun-unique p i j m x y =
    let above : j < m → ⊥ = run_not_longer p i j m x y in
    let below : m < j → ⊥ = run_not_longer p i m j y x in
    omega arith

-- a run begins with a star
pub run_lead : (p : List ℕ) (i j : ℕ) → IsRun p i j → HasByte p i star
run_lead p i j x = let some : i < j = x.some in x.stars i (omega arith) some

-- a byte that stands for itself is no special one
pub not_special : (b c : ℕ) → StandsForItself b → is_special c ≡ true → b ≢ c
not_special b c own special is = false≢true (sym own ∙ (ap is_special is ∙ special))

-- a byte that is none of the special ones stands for itself
pub stands_for_itself : (b : ℕ) → b ≢ star → b ≢ question_mark → b ≢ open_bracket → b ≢ backslash → StandsForItself b
stands_for_itself b not_star not_any not_set not_escape = false_from_ne_true (is_special b) (λ special.
    ⊎_elim
    (λ wild. ⊎_elim
    (λ either. ⊎_elim (λ is. not_star (eqb-true b star is)) (λ is. not_any (eqb-true b question_mark is)) (or_cases _ _ either))
    (λ is. not_set (eqb-true b open_bracket is))
    (or_cases _ _ wild))
    (λ is. not_escape (eqb-true b backslash is))
    (or_cases _ _ special))

-- a byte token doesn't begin with what begins another token
byte_lead : (way : Way) (p : List ℕ) (i b j c : ℕ) → ByteAt way p i b j → HasByte p i c
    → (c ≡ star) ⊎ ((c ≡ question_mark) ⊎ (c ≡ open_bracket)) → ⊥
byte_lead way p i b j c (inl e) h (inl is) = let same : c ≡ backslash = HasByte-unique p i c backslash h e.0.escape in omega arith
byte_lead way p i b j c (inl e) h (inr (inl is)) = let same : c ≡ backslash = HasByte-unique p i c backslash h e.0.escape in omega arith
byte_lead way p i b j c (inl e) h (inr (inr is)) = let same : c ≡ backslash = HasByte-unique p i c backslash h e.0.escape in omega arith
byte_lead way p i b j c (inr e) h (inl is) = not_special b star e.1 refl (HasByte-unique p i b c e.0 h ∙ is)
byte_lead way p i b j c (inr e) h (inr (inl is)) = not_special b question_mark e.1 refl (HasByte-unique p i b c e.0 h ∙ is)
byte_lead way p i b j c (inr e) h (inr (inr is)) = not_special b open_bracket e.1 refl (HasByte-unique p i b c e.0 h ∙ is)

byte_or_broken : (way : Way) (p : List ℕ) (i b j : ℕ) → ByteAt way p i b j → IsBroken way p i → ⊥
byte_or_broken way p i b j (inl e) (inl (h, inl last)) = let inside : i + 1 < length p = e.0.byte.inside in omega arith
byte_or_broken way p i b j (inl e) (inl (h, inr dead)) =
    let same : b ≡ dead.0 = HasByte-unique p (i + 1) b dead.0 e.0.byte dead.1 in
    false≢true (sym (ap not dead.2) ∙ subst (λ (c : ℕ). IsTrue (not (is_dead way c))) same e.2)
byte_or_broken way p i b j (inl e) (inr f) = two_bytes p i backslash open_bracket e.0.escape f.0 (λ h. omega arith)
byte_or_broken way p i b j (inr e) (inl f) = not_special b backslash e.1 refl (HasByte-unique p i b backslash e.0 f.0)
byte_or_broken way p i b j (inr e) (inr f) = not_special b open_bracket e.1 refl (HasByte-unique p i b open_bracket e.0 f.0)

-- what matches nothing begins with a backslash or a bracket
broken_lead : (way : Way) (p : List ℕ) (i c : ℕ) → IsBroken way p i → HasByte p i c → (c ≡ star) ⊎ (c ≡ question_mark) → ⊥
broken_lead way p i c (inl e) h (inl is) = let same : c ≡ backslash = HasByte-unique p i c backslash h e.0 in omega arith
broken_lead way p i c (inl e) h (inr is) = let same : c ≡ backslash = HasByte-unique p i c backslash h e.0 in omega arith
broken_lead way p i c (inr e) h (inl is) = let same : c ≡ open_bracket = HasByte-unique p i c open_bracket h e.0 in omega arith
broken_lead way p i c (inr e) h (inr is) = let same : c ≡ open_bracket = HasByte-unique p i c open_bracket h e.0 in omega arith

set_or_broken : (way : Way) (p : List ℕ) (i : ℕ) (s : Set) (j : ℕ) → SetAt p i s j → IsBroken way p i → ⊥
set_or_broken way p i s j e (inl f) = two_bytes p i open_bracket backslash e.bracket f.0 (λ h. omega arith)
set_or_broken way p i s j e (inr f) = f.1 s j e

bytes_unique : (way : Way) (p : List ℕ) (i a b j m : ℕ) → ByteAt way p i a j → ByteAt way p i b m → (a ≡ b) × (j ≡ m)
bytes_unique way p i a b j m (inl e) (inl f) = (IsEscaped-unique p i a b e.0 f.0, e.1 ∙ sym f.1)
bytes_unique way p i a b j m (inl e) (inr f) = absurd (not_special b backslash f.1 refl (HasByte-unique p i b backslash f.0 e.0.escape))
bytes_unique way p i a b j m (inr e) (inl f) = absurd (not_special a backslash e.1 refl (HasByte-unique p i a backslash e.0 f.0.escape))
bytes_unique way p i a b j m (inr e) (inr f) = (HasByte-unique p i a b e.0 f.0, e.2 ∙ sym f.2)

-- ways that agree on whether folding is exact agree on what an escape stands for
dead_alike : (m n : Way) → is_exact m ≡ is_exact n → (b : ℕ) → is_dead m b ≡ is_dead n b
dead_alike m n exact b = ap (λ (x : Bool). x && is_ascii_uppercase b) exact

pub byte_in_both : (m n : Way) (p : List ℕ) (i b j : ℕ) → is_exact m ≡ is_exact n → ByteAt m p i b j → ByteAt n p i b j
byte_in_both m n p i b j exact (inl e) = inl (e.0, e.1, subst (λ (d : Bool). IsTrue (not d)) (dead_alike m n exact b) e.2)
byte_in_both m n p i b j exact (inr e) = inr e

pub broken_in_both : (m n : Way) (p : List ℕ) (i : ℕ) → is_exact m ≡ is_exact n → IsBroken m p i → IsBroken n p i
broken_in_both m n p i exact (inl (h, inl last)) = inl (h, inl last)
broken_in_both m n p i exact (inl (h, inr dead)) = inl (h, inr (dead.0, dead.1, subst (λ (d : Bool). IsTrue d) (dead_alike m n exact dead.0) dead.2))
broken_in_both m n p i exact (inr e) = inr e

free_or_local : (way : Way) (p : List ℕ) (i j m : ℕ) → TokenAt way p i Free j → TokenAt way p i Local m → ⊥
free_or_local way p i j m e f =
    let same : j ≡ m = IsRun-unique p i j m e.0 f.0 in
    f.2 (subst (λ (n : ℕ). IsBounded p i n) same (e.1 f.1).0)

free_or_dirs : (way : Way) (p : List ℕ) (i j m : ℕ) → TokenAt way p i Free j → DirsAt way p i m → ⊥
free_or_dirs way p i j m e f =
    let same : f.run_end ≡ j = IsRun-unique p i f.run_end j f.run e.0 in
    (e.1 f.path).1 (subst (λ (n : ℕ). HasByte p n slash) same f.slash)

local_or_dirs : (way : Way) (p : List ℕ) (i j m : ℕ) → TokenAt way p i Local j → DirsAt way p i m → ⊥
local_or_dirs way p i j m e f =
    let same : f.run_end ≡ j = IsRun-unique p i f.run_end j f.run e.0 in
    e.2 (subst (λ (n : ℕ). IsBounded p i n) same f.bounded)

-- A place decides its token, and where that ends.
pub TokenAt-unique : (way : Way) (p : List ℕ) (i : ℕ) (t u : Token) (j m : ℕ)
    → TokenAt way p i t j → TokenAt way p i u m → (t ≡ u) × (j ≡ m)
TokenAt-unique way p i (Byte b) (Byte c) j m e f = let same = bytes_unique way p i b c j m e f in (ap Byte same.0, same.1)
TokenAt-unique way p i (Byte b) Any j m e f = absurd (byte_lead way p i b j question_mark e f.0 (inr (inl refl)))
TokenAt-unique way p i (Byte b) (OneOf t) j m e f = absurd (byte_lead way p i b j open_bracket e f.bracket (inr (inr refl)))
TokenAt-unique way p i (Byte b) Free j m e f = absurd (byte_lead way p i b j star e (run_lead p i m f.0) (inl refl))
TokenAt-unique way p i (Byte b) Local j m e f = absurd (byte_lead way p i b j star e (run_lead p i m f.0) (inl refl))
TokenAt-unique way p i (Byte b) Dirs j m e f = absurd (byte_lead way p i b j star e (run_lead p i f.run_end f.run) (inl refl))
TokenAt-unique way p i (Byte b) Nothing j m e f = absurd (byte_or_broken way p i b j e f.0)
TokenAt-unique way p i Any (Byte c) j m e f = absurd (byte_lead way p i c m question_mark f e.0 (inr (inl refl)))
TokenAt-unique way p i Any Any j m e f = (refl, e.1 ∙ sym f.1)
TokenAt-unique way p i Any (OneOf t) j m e f = absurd (two_bytes p i question_mark open_bracket e.0 f.bracket (λ h. omega arith))
TokenAt-unique way p i Any Free j m e f = absurd (two_bytes p i question_mark star e.0 (run_lead p i m f.0) (λ h. omega arith))
TokenAt-unique way p i Any Local j m e f = absurd (two_bytes p i question_mark star e.0 (run_lead p i m f.0) (λ h. omega arith))
TokenAt-unique way p i Any Dirs j m e f = absurd (two_bytes p i question_mark star e.0 (run_lead p i f.run_end f.run) (λ h. omega arith))
TokenAt-unique way p i Any Nothing j m e f = absurd (broken_lead way p i question_mark f.0 e.0 (inr refl))
TokenAt-unique way p i (OneOf s) (Byte c) j m e f = absurd (byte_lead way p i c m open_bracket f e.bracket (inr (inr refl)))
TokenAt-unique way p i (OneOf s) Any j m e f = absurd (two_bytes p i open_bracket question_mark e.bracket f.0 (λ h. omega arith))
TokenAt-unique way p i (OneOf s) (OneOf t) j m e f = let same = SetAt-unique p i s t j m e f in (ap OneOf same.0, same.1)
TokenAt-unique way p i (OneOf s) Free j m e f = absurd (two_bytes p i open_bracket star e.bracket (run_lead p i m f.0) (λ h. omega arith))
TokenAt-unique way p i (OneOf s) Local j m e f = absurd (two_bytes p i open_bracket star e.bracket (run_lead p i m f.0) (λ h. omega arith))
TokenAt-unique way p i (OneOf s) Dirs j m e f = absurd (two_bytes p i open_bracket star e.bracket (run_lead p i f.run_end f.run) (λ h. omega arith))
TokenAt-unique way p i (OneOf s) Nothing j m e f = absurd (set_or_broken way p i s j e f.0)
TokenAt-unique way p i Free (Byte c) j m e f = absurd (byte_lead way p i c m star f (run_lead p i j e.0) (inl refl))
TokenAt-unique way p i Free Any j m e f = absurd (two_bytes p i star question_mark (run_lead p i j e.0) f.0 (λ h. omega arith))
TokenAt-unique way p i Free (OneOf t) j m e f = absurd (two_bytes p i star open_bracket (run_lead p i j e.0) f.bracket (λ h. omega arith))
TokenAt-unique way p i Free Free j m e f = (refl, IsRun-unique p i j m e.0 f.0)
TokenAt-unique way p i Free Local j m e f = absurd (free_or_local way p i j m e f)
TokenAt-unique way p i Free Dirs j m e f = absurd (free_or_dirs way p i j m e f)
TokenAt-unique way p i Free Nothing j m e f = absurd (broken_lead way p i star f.0 (run_lead p i j e.0) (inl refl))
TokenAt-unique way p i Local (Byte c) j m e f = absurd (byte_lead way p i c m star f (run_lead p i j e.0) (inl refl))
TokenAt-unique way p i Local Any j m e f = absurd (two_bytes p i star question_mark (run_lead p i j e.0) f.0 (λ h. omega arith))
TokenAt-unique way p i Local (OneOf t) j m e f = absurd (two_bytes p i star open_bracket (run_lead p i j e.0) f.bracket (λ h. omega arith))
TokenAt-unique way p i Local Free j m e f = absurd (free_or_local way p i m j f e)
TokenAt-unique way p i Local Local j m e f = (refl, IsRun-unique p i j m e.0 f.0)
TokenAt-unique way p i Local Dirs j m e f = absurd (local_or_dirs way p i j m e f)
TokenAt-unique way p i Local Nothing j m e f = absurd (broken_lead way p i star f.0 (run_lead p i j e.0) (inl refl))
TokenAt-unique way p i Dirs (Byte c) j m e f = absurd (byte_lead way p i c m star f (run_lead p i e.run_end e.run) (inl refl))
TokenAt-unique way p i Dirs Any j m e f = absurd (two_bytes p i star question_mark (run_lead p i e.run_end e.run) f.0 (λ h. omega arith))
TokenAt-unique way p i Dirs (OneOf t) j m e f = absurd (two_bytes p i star open_bracket (run_lead p i e.run_end e.run) f.bracket (λ h. omega arith))
TokenAt-unique way p i Dirs Free j m e f = absurd (free_or_dirs way p i m j f e)
TokenAt-unique way p i Dirs Local j m e f = absurd (local_or_dirs way p i m j f e)
TokenAt-unique way p i Dirs Dirs j m e f = (refl, e.after ∙ (ap (λ (n : ℕ). n + 1) (IsRun-unique p i e.run_end f.run_end e.run f.run) ∙ sym f.after))
TokenAt-unique way p i Dirs Nothing j m e f = absurd (broken_lead way p i star f.0 (run_lead p i e.run_end e.run) (inl refl))
TokenAt-unique way p i Nothing (Byte c) j m e f = absurd (byte_or_broken way p i c m f e.0)
TokenAt-unique way p i Nothing Any j m e f = absurd (broken_lead way p i question_mark e.0 f.0 (inr refl))
TokenAt-unique way p i Nothing (OneOf t) j m e f = absurd (set_or_broken way p i t m f e.0)
TokenAt-unique way p i Nothing Free j m e f = absurd (broken_lead way p i star e.0 (run_lead p i m f.0) (inl refl))
TokenAt-unique way p i Nothing Local j m e f = absurd (broken_lead way p i star e.0 (run_lead p i m f.0) (inl refl))
TokenAt-unique way p i Nothing Dirs j m e f = absurd (broken_lead way p i star e.0 (run_lead p i f.run_end f.run) (inl refl))
TokenAt-unique way p i Nothing Nothing j m e f = (refl, e.1 ∙ sym f.1)

-- a token begins inside the pattern
pub TokenAt-inside : (way : Way) (p : List ℕ) (i : ℕ) (t : Token) (j : ℕ) → TokenAt way p i t j → i < length p
TokenAt-inside way p i (Byte b) j (inl e) = e.0.escape.inside
TokenAt-inside way p i (Byte b) j (inr e) = e.0.inside
TokenAt-inside way p i Any j e = e.0.inside
TokenAt-inside way p i (OneOf s) j e = e.bracket.inside
TokenAt-inside way p i Free j e = (run_lead p i j e.0).inside
TokenAt-inside way p i Local j e = (run_lead p i j e.0).inside
TokenAt-inside way p i Dirs j e = (run_lead p i e.run_end e.run).inside
TokenAt-inside way p i Nothing j (inl e, after) = e.0.inside
TokenAt-inside way p i Nothing j (inr e, after) = e.0.inside

-- The tokens from a place on are one list.
pub From-unique : (way : Way) (p : List ℕ) (i : ℕ) (ts us : List Token) → From way p i ts → From way p i us → ts ≡ us
From-unique way p i [] [] e f = refl
From-unique way p i [] (u ∷ us) e f = let inside = TokenAt-inside way p i u f.0 f.1 in absurd (omega arith)
From-unique way p i (t ∷ ts) [] e f = let inside = TokenAt-inside way p i t e.0 e.1 in absurd (omega arith)
From-unique way p i (t ∷ ts) (u ∷ us) e f =
    let here = TokenAt-unique way p i t u e.0 f.0 e.1 f.1 in
    let head : t ≡ u = here.0 in
    let tail : ts ≡ us = From-unique way p f.0 ts us (subst (λ (n : ℕ). From way p n ts) here.1 e.2) f.2 in
    cc
