-- What every engine uses of the cuttings: a step by the kind that the reader answers.
use Rattle.std.proofs.Common.{◌≡◌, ◌⊎◌, inl, inr, ℕ, ◌+◌, ◌<◌, ◌≤◌, true, false, List, length, get_or, sym, subst, arith}
use Rattle.glob_matcher.specs.declared.wildmatch.way.Way.{Way}
use Rattle.glob_matcher.specs.declared.wildmatch.tokens.TokenKind.{TokenKind}
use Rattle.glob_matcher.specs.Tokens.{Token, Byte, Any, OneOf, Free, Local, Dirs, Nothing, TokenAt, IsToken, kind_of}
use Rattle.glob_matcher.specs.Matching.{SplitsFrom, Fits}
use Rattle.glob_matcher.specs.Private.Reader.{is_star}
use Rattle.glob_matcher.specs.Private.Fitting.{Spans, AfterSlash}
use Rattle.glob_matcher.proofs.lemmas.cutting.CutLemmas.{one_in, one_out, free_in, free_out, local_in, local_out, dirs_in_empty, dirs_in, dirs_out, nothing_out}

-- a star token that takes this stretch, and then a cutting of the rest
token_star_in : (way : Way) (p v : List ℕ) (i j k e : ℕ) (t : Token) → TokenAt way p i t j → k ≤ e → e ≤ length v
    → Spans (kind_of t) v k e → SplitsFrom v e p j way → SplitsFrom v k p i way
token_star_in way p v i j k e (Byte b) here low high takes later = absurd takes
token_star_in way p v i j k e Any here low high takes later = absurd takes
token_star_in way p v i j k e (OneOf s) here low high takes later = absurd takes
token_star_in way p v i j k e Free here low high takes later = free_in way p v i j k e here low high later
token_star_in way p v i j k e Local here low high takes later = local_in way p v i j k e here low high takes later
token_star_in way p v i j k e Dirs here low high (inl same) later =
    dirs_in_empty way p v i j k here (omega arith) (subst (λ (n : ℕ). SplitsFrom v n p j way) same later)
token_star_in way p v i j k e Dirs here low high (inr after) later = dirs_in way p v i j k e here after later
token_star_in way p v i j k e Nothing here low high takes later = absurd takes

pub star_in : {way : Way} {p v : List ℕ} {i : ℕ} {s : TokenKind} {j k e : ℕ} → IsToken way p i s j → k ≤ e → e ≤ length v
    → Spans s v k e → SplitsFrom v e p j way → SplitsFrom v k p i way
star_in {way} {p} {v} {i} {s} {j} {k} {e} x low high takes later =
    token_star_in way p v i j k e x.token x.here low high (subst (λ (t : TokenKind). Spans t v k e) x.same_kind takes) later

dirs_low : (v : List ℕ) (k e : ℕ) → (e ≡ k) ⊎ AfterSlash v k e → k ≤ e
dirs_low v k e (inl same) = omega arith
dirs_low v k e (inr after) = omega (arith, after.past)

dirs_high : (v : List ℕ) (k e : ℕ) → k ≤ length v → (e ≡ k) ⊎ AfterSlash v k e → e ≤ length v
dirs_high v k e inside (inl same) = omega arith
dirs_high v k e inside (inr after) = after.inside

-- a cutting that begins with a star token takes some stretch
token_star_out : (way : Way) (p v : List ℕ) (i j k : ℕ) (t : Token) → TokenAt way p i t j → is_star (kind_of t) ≡ true
    → k ≤ length v → SplitsFrom v k p i way
    → (e : ℕ) × (k ≤ e) × (e ≤ length v) × Spans (kind_of t) v k e × SplitsFrom v e p j way
token_star_out way p v i j k (Byte b) here star inside all = let wrong : false ≡ true = star in cc
token_star_out way p v i j k Any here star inside all = let wrong : false ≡ true = star in cc
token_star_out way p v i j k (OneOf s) here star inside all = let wrong : false ≡ true = star in cc
token_star_out way p v i j k Free here star inside all =
    let out = free_out way p v i j k here inside all in (out.0, out.1, out.2, tt, out.3)
token_star_out way p v i j k Local here star inside all =
    let out = local_out way p v i j k here inside all in (out.0, out.1, out.2, out.3, out.4)
token_star_out way p v i j k Dirs here star inside all =
    let out = dirs_out way p v i j k here inside all in (out.0, dirs_low v k out.0 out.1, dirs_high v k out.0 inside out.1, out.1, out.2)
token_star_out way p v i j k Nothing here star inside all = let wrong : false ≡ true = star in cc

pub star_out : {way : Way} {p v : List ℕ} {i : ℕ} {s : TokenKind} {j k : ℕ} → IsToken way p i s j → is_star s ≡ true
    → k ≤ length v → SplitsFrom v k p i way
    → (e : ℕ) × (k ≤ e) × (e ≤ length v) × Spans s v k e × SplitsFrom v e p j way
star_out {way} {p} {v} {i} {s} {j} {k} x star inside all =
    let out = token_star_out way p v i j k x.token x.here (subst (λ (t : TokenKind). is_star t ≡ true) x.same_kind star) inside all in
    (out.0, out.1, out.2, subst (λ (t : TokenKind). Spans t v k out.0) (sym x.same_kind) out.3, out.4)

-- one byte taken, and then a cutting of the rest
pub byte_in : (way : Way) (p v : List ℕ) (i : ℕ) (s : TokenKind) (j k : ℕ) → (x : IsToken way p i s j) → k < length v
    → Fits way x.token (get_or v k 0) → SplitsFrom v (k + 1) p j way → SplitsFrom v k p i way
byte_in way p v i s j k x inside fits later = one_in way p v i j k x.token x.here inside fits later

-- a cutting that begins with no star token takes one byte
pub token_byte_out : (way : Way) (p v : List ℕ) (i j k : ℕ) (t : Token) → TokenAt way p i t j → is_star (kind_of t) ≡ false
    → k ≤ length v → SplitsFrom v k p i way → (k < length v) × Fits way t (get_or v k 0) × SplitsFrom v (k + 1) p j way
token_byte_out way p v i j k (Byte b) here star inside all = one_out way p v i j k (Byte b) tt here all
token_byte_out way p v i j k Any here star inside all = one_out way p v i j k Any tt here all
token_byte_out way p v i j k (OneOf s) here star inside all = one_out way p v i j k (OneOf s) tt here all
token_byte_out way p v i j k Free here star inside all = let wrong : true ≡ false = star in cc
token_byte_out way p v i j k Local here star inside all = let wrong : true ≡ false = star in cc
token_byte_out way p v i j k Dirs here star inside all = let wrong : true ≡ false = star in cc
token_byte_out way p v i j k Nothing here star inside all = absurd (nothing_out way p v i j k here inside all)

pub byte_out : (way : Way) (p v : List ℕ) (i : ℕ) (s : TokenKind) (j k : ℕ) → (x : IsToken way p i s j) → is_star s ≡ false
    → k ≤ length v → SplitsFrom v k p i way
    → (k < length v) × Fits way x.token (get_or v k 0) × SplitsFrom v (k + 1) p j way
byte_out way p v i s j k x star inside all =
    token_byte_out way p v i j k x.token x.here (subst (λ (t : TokenKind). is_star t ≡ false) x.same_kind star) inside all
