-- What is found behind a front tells how a path is met.
use Rattle.std.proofs.Common.{◌≡◌, ◌≢◌, ℕ, Bool, Bor, true, false, IsTrue, List, [], ◌∷◌, length, Option, None, Some, refl, sym, ap, ◌∙◌, subst, arith, eqb}
use Rattle.std.specs.Prelude.{◌↔◌, MatchOption, is_some, not}
use Rattle.std.proofs.lemmas.Bool.{eq-eqb, eqb-true, false≢true}
use Rattle.std.proofs.lemmas.List.{append-nil}
use Rattle.glob_matcher.specs.Matching.{SplitsBy}
use Rattle.pathspecs.specs.declared.magic.Magic.{Magic}
use Rattle.pathspecs.specs.Elements.{IsCut, compared, is_below, way_of_item}

-- what is found is the one rest that there is
abbrev IsOnlyRest : Bool → List ℕ → List ℕ → List ℕ → Type 0
IsOnlyRest icase path front rest = (other : List ℕ) → IsCut icase path front other → other ≡ rest

pub begins_by : (icase : Bool) (path front : List ℕ) (found : Option (Bor (List ℕ))) (r : Bool) → r ≡ is_some found
    → MatchOption found ((rest : List ℕ) → ¬ IsCut icase path front rest) (λ rest. IsCut icase path front rest.now × ((other : List ℕ) → IsCut icase path front other → other ≡ rest.now))
    → IsTrue r ↔ ((rest : List ℕ) × IsCut icase path front rest)
begins_by icase path front None r is not_cut = (λ so. absurd (false≢true (sym is ∙ so)), λ cut. absurd (not_cut cut.0 cut.1))
begins_by icase path front (Some rest) r is cut = (λ so. (rest.now, cut.0), λ other. is)

-- ---- bytes

pub no_bytes : (xs : List ℕ) → length xs ≡ 0 → xs ≡ []
no_bytes [] none = refl
no_bytes (x ∷ xs) none = absurd (omega (arith, none))

pub has_bytes_by : (xs : List ℕ) (r : Bool) → r ≡ eqb (length xs) 0 → IsTrue (not r) ↔ (xs ≢ [])
has_bytes_by xs true is = (λ so. absurd (false≢true so), λ some. absurd (some (no_bytes xs (eqb-true _ _ (sym is)))))
has_bytes_by xs false is = (λ so none. false≢true (is ∙ eq-eqb _ _ (ap length none)), λ some. refl)

-- ---- a text

pub text_by : (icase : Bool) (path text : List ℕ) (r : Bool) → (IsTrue r ↔ (compared icase path ≡ compared icase text)) → IsTrue r ↔ IsCut icase path text []
text_by icase path text r alike = (
  λ so. record { head = path; joined = sym (append-nil path); alike = alike.0 so },
  λ cut. alike.1 (ap (compared icase) (cut.joined ∙ append-nil cut.head) ∙ cut.alike),
)

pub below_by : (icase : Bool) (path text rest : List ℕ) (r : Bool) → IsCut icase path text rest → IsOnlyRest icase path text rest → r ≡ is_below text rest
    → IsTrue r ↔ ((other : List ℕ) × IsCut icase path text other × IsTrue (is_below text other))
below_by icase path text rest r cut one is = (λ so. (rest, cut, sym is ∙ so), λ below. is ∙ subst (λ (w : List ℕ). IsTrue (is_below text w)) (one below.0 below.1) below.2)

pub not_below : (icase : Bool) (path text : List ℕ) → ((rest : List ℕ) → ¬ IsCut icase path text rest) → IsTrue false ↔ ((other : List ℕ) × IsCut icase path text other × IsTrue (is_below text other))
not_below icase path text not_cut = (λ so. absurd (false≢true so), λ below. absurd (not_cut below.0 below.1))

-- ---- a pattern

pub fits_by : (magic : Magic) (path front pattern rest : List ℕ) (r : Bool) → pattern ≢ [] → IsCut magic.icase path front rest → IsOnlyRest magic.icase path front rest
    → (IsTrue r ↔ SplitsBy rest pattern (way_of_item magic))
    → IsTrue r ↔ ((pattern ≢ []) × (other : List ℕ) × IsCut magic.icase path front other × SplitsBy other pattern (way_of_item magic))
fits_by magic path front pattern rest r some cut one splits = (
  λ so. (some, rest, cut, splits.0 so),
  λ met. splits.1 (subst (λ (w : List ℕ). SplitsBy w pattern (way_of_item magic)) (one met.1 met.2) met.3),
)

pub fits_none : (magic : Magic) (path front pattern : List ℕ) → ((rest : List ℕ) → ¬ IsCut magic.icase path front rest)
    → IsTrue false ↔ ((pattern ≢ []) × (other : List ℕ) × IsCut magic.icase path front other × SplitsBy other pattern (way_of_item magic))
fits_none magic path front pattern not_cut = (λ so. absurd (false≢true so), λ met. absurd (not_cut met.1 met.2))
