-- What the kind of a token tells of it.
use Rattle.std.proofs.Common.{◌≡◌, ◌≢◌, ◌↔◌, ◌⊎◌, Bool, IsTrue, get_or, inl, inr, ℕ, List, refl, sym, ◌∙◌, subst, arith}
use Rattle.glob_matcher.specs.declared.wildmatch.way.Way.{Way}
use Rattle.glob_matcher.specs.declared.wildmatch.tokens.TokenKind.{TokenKind}
use Rattle.glob_matcher.specs.declared.wildmatch.tokens.TokenKind.TheVariants as kind
use Rattle.glob_matcher.specs.Bytes.{open_bracket, star, slash}
use Rattle.glob_matcher.specs.Sets.{Set, SetAt, set_holds}
use Rattle.glob_matcher.specs.Tokens.{Token, Byte, Any, OneOf, Free, Local, Dirs, Nothing, TokenAt, DirsAt, IsToken, kind_of}
use Rattle.glob_matcher.specs.Matching.{Fits}
use Rattle.glob_matcher.specs.Pruning.{IsStart, IsBoundary}
use Rattle.glob_matcher.proofs.lemmas.reading.SetLemmas.{SetAt-unique, two_bytes}
use Rattle.glob_matcher.proofs.lemmas.reading.TokenLemmas.{run_lead}
use Rattle.glob_matcher.proofs.lemmas.cutting.CutLemmas.{IsOne}
use Rattle.glob_matcher.proofs.lemmas.reading.Starts.{IsDirsSlash, dirs_slash}

-- what a kind tells of its token
abbrev pub IsOf : TokenKind → Token → Type 0
IsOf (kind.Byte b) t = t ≡ Byte b
IsOf kind.Any t = t ≡ Any
IsOf kind.Set t = (set : Set) × (t ≡ OneOf set)
IsOf kind.Free t = t ≡ Free
IsOf kind.Local t = t ≡ Local
IsOf kind.Dirs t = t ≡ Dirs
IsOf kind.Nothing t = t ≡ Nothing

of_own_kind : (t : Token) → IsOf (kind_of t) t
of_own_kind (Byte b) = refl
of_own_kind Any = refl
of_own_kind (OneOf set) = (set, refl)
of_own_kind Free = refl
of_own_kind Local = refl
of_own_kind Dirs = refl
of_own_kind Nothing = refl

pub token_is : (t : Token) {s : TokenKind} → kind_of t ≡ s → IsOf s t
token_is t e = subst (λ (s : TokenKind). IsOf s t) e (of_own_kind t)

module _ {way : Way} {p : List ℕ} {i : ℕ} {s : TokenKind} {j : ℕ} (x : IsToken way p i s j) where
  pub is_free : s ≡ kind.Free → TokenAt way p i Free j
  is_free e = subst (λ (t : Token). TokenAt way p i t j) (token_is x.token (sym x.same_kind ∙ e)) x.here

  pub is_local : s ≡ kind.Local → TokenAt way p i Local j
  is_local e = subst (λ (t : Token). TokenAt way p i t j) (token_is x.token (sym x.same_kind ∙ e)) x.here

  pub is_dirs : s ≡ kind.Dirs → TokenAt way p i Dirs j
  is_dirs e = subst (λ (t : Token). TokenAt way p i t j) (token_is x.token (sym x.same_kind ∙ e)) x.here

  pub is_nothing : s ≡ kind.Nothing → TokenAt way p i Nothing j
  is_nothing e = subst (λ (t : Token). TokenAt way p i t j) (token_is x.token (sym x.same_kind ∙ e)) x.here

  pub is_one : ((b : ℕ) × (s ≡ kind.Byte b)) ⊎ ((s ≡ kind.Any) ⊎ (s ≡ kind.Set)) → IsOne x.token
  is_one (inl e) = subst IsOne (sym (token_is x.token (sym x.same_kind ∙ e.1))) tt
  is_one (inr (inl e)) = subst IsOne (sym (token_is x.token (sym x.same_kind ∙ e))) tt
  is_one (inr (inr e)) = let found = token_is x.token (sym x.same_kind ∙ e) in subst IsOne (sym found.1) tt

  -- a token that begins with no bracket is no set
  pub no_set : get_or p i 0 ≢ open_bracket → s ≢ kind.Set
  no_set other e =
      let found = token_is x.token (sym x.same_kind ∙ e) in
      other (subst (λ (t : Token). TokenAt way p i t j) found.1 x.here).bracket.is

-- a set that was read is the one of the token there
pub set_takes : (way : Way) (b : ℕ) {p : List ℕ} {i : ℕ} {s : TokenKind} {set : Set} {k : ℕ} {holds : Bool} → s ≡ kind.Set → SetAt p i set k
    → holds ≡ set_holds way set b → (t : Token) (j : ℕ) → TokenAt way p i t j → s ≡ kind_of t → IsTrue holds ↔ Fits way t b
set_takes way b {p = p} {i = i} {set = set} {k = k} {holds = holds} is read answer t j here same_kind =
    let other = token_is t (sym same_kind ∙ is) in
    let there : SetAt p i other.0 j = subst (λ (x : Token). TokenAt way p i x j) other.1 here in
    let same = SetAt-unique p i set other.0 k j read there in
    let answers : holds ≡ set_holds way other.0 b = subst (λ (x : Set). holds ≡ set_holds way x b) same.0 answer in
    subst (λ (x : Token). IsTrue holds ↔ Fits way x b) (sym other.1) (λ yes. sym answers ∙ yes, λ yes. answers ∙ yes)

-- a double star begins at a token's start
pub dirs_boundary : {way : Way} {p : List ℕ} {i j : ℕ} → IsStart p i way → DirsAt way p i j → IsBoundary p i way
dirs_boundary {way} {p} {i} {j} x here = by x.place where
  by : IsBoundary p i way ⊎ IsDirsSlash p i way → IsBoundary p i way
  by (inl at) = at
  by (inr at) =
      absurd (two_bytes p i slash star (dirs_slash way p at.0 i at.2) (run_lead p i here.run_end here.run) (λ h. omega arith))
