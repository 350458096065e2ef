-- Bytes that stand for themselves, at the front of a row of tokens.
use Rattle.std.proofs.Common.{◌≡◌, ℕ, List, [], ◌∷◌, ◌++◌, map, refl, sym, ap, ◌∙◌}
use Rattle.glob_matcher.specs.declared.wildmatch.way.Way.{Way}
use Rattle.glob_matcher.specs.declared.wildmatch.way.Way.TheVariants as way
use Rattle.glob_matcher.specs.Bytes.{fold}
use Rattle.glob_matcher.specs.Matching.{IsCut}
use Rattle.glob_matcher.specs.Tokens.{Byte, Token}
use Rattle.glob_patterns.specs.declared.pattern.case.Case.{Case}
use Rattle.glob_patterns.specs.declared.pattern.case.Case.TheVariants.{Sensitive, Fold}
use Rattle.glob_patterns.specs.Folding.{folding_of}
use Rattle.glob_patterns.specs.GitPaths.{git_way}
use Rattle.gix_glob.specs.Stripping.{folding_by}

-- the value is bytes that are alike to these, and what the tokens match
pub record LiteralCut (way : Way) (bytes : List ℕ) (tokens : List Token) (value : List ℕ) : Type 0 where
  pub front : List ℕ
  pub rest : List ℕ
  pub joined : value ≡ front ++ rest
  pub alike : folding_of way front ≡ folding_of way bytes
  pub later : IsCut way tokens rest

module _ (way : Way) (tokens : List Token) where
  pub literal_out : (bytes value : List ℕ) → IsCut way (map (λ b. Byte b) bytes ++ tokens) value → LiteralCut way bytes tokens value
  literal_out [] value cut = record { front = []; rest = value; joined = refl; alike = refl; later = cut }
  literal_out (b ∷ bytes) value cut =
      let one = cut.3 in
      let more = literal_out bytes cut.1 cut.4 in
      record {
        front = one.0 ∷ more.front;
        rest = more.rest;
        joined = cut.2 ∙ ap (λ (xs : List ℕ). xs ++ cut.1) one.1 ∙ ap (λ (xs : List ℕ). one.0 ∷ xs) more.joined;
        alike = ap (λ (x : ℕ). x ∷ folding_of way more.front) one.2 ∙ ap (λ (xs : List ℕ). fold way b ∷ xs) more.alike;
        later = more.later;
      }

  pub literal_back : (bytes front rest : List ℕ) → folding_of way front ≡ folding_of way bytes → IsCut way tokens rest
      → IsCut way (map (λ b. Byte b) bytes ++ tokens) (front ++ rest)
  literal_back [] [] rest alike later = later
  literal_back [] (c ∷ front) rest alike later = absurd (cc)
  literal_back (b ∷ bytes) [] rest alike later = absurd (cc)
  literal_back (b ∷ bytes) (c ∷ front) rest alike later =
      let head : fold way c ≡ fold way b = cc in
      let tail : folding_of way front ≡ folding_of way bytes = cc in
      (c ∷ [], front ++ rest, refl, (c, refl, head), literal_back bytes front rest tail later)

-- ---- a base, up to case

pub unfolded : (xs : List ℕ) → folding_of way.Path xs ≡ xs
unfolded [] = refl
unfolded (x ∷ xs) = ap (λ (ys : List ℕ). x ∷ ys) (unfolded xs)

pub base_out : (case : Case) (front base : List ℕ) → folding_by case front ≡ folding_by case base → folding_of (git_way case) front ≡ folding_of (git_way case) base
base_out Sensitive front base same = ap (folding_of way.Path) same
base_out Fold front base same = same

pub base_back : (case : Case) (front base : List ℕ) → folding_of (git_way case) front ≡ folding_of (git_way case) base → folding_by case front ≡ folding_by case base
base_back Sensitive front base same = sym (unfolded front) ∙ same ∙ unfolded base
base_back Fold front base same = same
