-- Entries of one path without case: which there are, and the last of them.
use Rattle.std.proofs.Common.{◌≡◌, ◌⊎◌, ℕ, zero, suc, Bool, true, false, List, [], ◌∷◌, Option, None, Some, option_map, is_some, refl, sym, ap, ◌∙◌, inl, inr}
use Rattle.std.specs.Prelude.{if◌then◌else◌, slice_get}
use Rattle.std.specs.List.{last_or}
use Rattle.std.specs.Str.{bytes_eq}
use Rattle.std.proofs.lemmas.Bool.{false≢true}
use Rattle.std.proofs.lemmas.Slice.Eq.{bytes_eq-Decides}
use Rattle.git_index.specs.Entries.{Tracked}
use Rattle.git_index.specs.Folding.{HasBelowFolded, IsTrackedFolded, alike, folded}

-- ---- which there are

stands_by : (b : Bool) (f e : Tracked) (rest : List Tracked) (j : ℕ) → slice_get rest j ≡ Some e → (k : ℕ) × (slice_get (if b then f ∷ rest else rest) k ≡ Some e)
stands_by true f e rest j at = (suc j, at)
stands_by false f e rest j at = (j, at)

pub among_alike : (entries : List Tracked) (path : List ℕ) (i : ℕ) (e : Tracked) → slice_get entries i ≡ Some e → folded e.path ≡ folded path → (j : ℕ) × (slice_get (alike entries path) j ≡ Some e)
among_alike [] path i e at same = absurd cc
among_alike (f ∷ entries) path zero e at same =
    let is : f ≡ e = cc in
    let passes : bytes_eq (folded f.path) (folded path) ≡ true = (bytes_eq-Decides (folded f.path) (folded path)).1 (ap (λ (t : Tracked). folded t.path) is ∙ same) in
    (0, rw passes (ap (λ (t : Tracked). Some t) is))
among_alike (f ∷ entries) path (suc i) e at same =
    let more = among_alike entries path i e at same in
    stands_by (bytes_eq (folded f.path) (folded path)) f e (alike entries path) more.0 more.1

from_by : (b : Bool) (f e : Tracked) (entries rest : List Tracked) (path : List ℕ) (j : ℕ) → bytes_eq (folded f.path) (folded path) ≡ b → slice_get (if b then f ∷ rest else rest) j ≡ Some e
    → ((k : ℕ) → slice_get rest k ≡ Some e → (i : ℕ) × (slice_get entries i ≡ Some e) × (folded e.path ≡ folded path)) → (i : ℕ) × (slice_get (f ∷ entries) i ≡ Some e) × (folded e.path ≡ folded path)
from_by true f e entries rest path zero is at later =
    let same : f ≡ e = cc in
    (0, at, ap (λ (t : Tracked). folded t.path) (sym same) ∙ (bytes_eq-Decides (folded f.path) (folded path)).0 is)
from_by true f e entries rest path (suc j) is at later = let more = later j at in (suc more.0, more.1, more.2)
from_by false f e entries rest path j is at later = let more = later j at in (suc more.0, more.1, more.2)

pub from_alike : (entries : List Tracked) (path : List ℕ) (j : ℕ) (e : Tracked) → slice_get (alike entries path) j ≡ Some e → (i : ℕ) × (slice_get entries i ≡ Some e) × (folded e.path ≡ folded path)
from_alike [] path j e at = absurd cc
from_alike (f ∷ entries) path j e at = from_by (bytes_eq (folded f.path) (folded path)) f e entries (alike entries path) path j refl at (λ k is. from_alike entries path k e is)

-- ---- lists with the same entries of each path

module _ (entries others : List Tracked) (same : (path : List ℕ) → alike entries path ≡ alike others path) where
  stands_there : (i : ℕ) (e : Tracked) → slice_get entries i ≡ Some e → (k : ℕ) × (slice_get others k ≡ Some e)
  stands_there i e at =
      let here = among_alike entries e.path i e at refl in
      let there = from_alike others e.path here.0 e (ap (λ (es : List Tracked). slice_get es here.0) (sym (same e.path)) ∙ here.1) in
      (there.0, there.1)

  pub below_there : (folder : List ℕ) → HasBelowFolded entries folder → HasBelowFolded others folder
  below_there folder below = let there = stands_there below.0 below.1 below.3 in (there.0, below.1, below.2, there.1, below.4)

-- ---- the last of them

last_some : (e : Tracked) (entries : List Tracked) → (f : Tracked) × (last_or (Some e) entries ≡ Some f)
last_some e [] = (e, refl)
last_some e (f ∷ entries) = last_some f entries

last_among : (o : Option Tracked) (entries : List Tracked) (e : Tracked) → last_or o entries ≡ Some e → (o ≡ Some e) ⊎ ((j : ℕ) × (slice_get entries j ≡ Some e))
last_among o [] e is = inl is
last_among o (f ∷ entries) e is = elim (last_among (Some f) entries e is) [ inl first ↦ inr (0, first) | inr later ↦ inr (suc later.0, later.1) ]

some_of : (o : Option Tracked) → is_some (option_map (λ (e : Tracked). e.kind) o) ≡ true → (e : Tracked) × (o ≡ Some e)
some_of None is = absurd (false≢true is)
some_of (Some e) is = (e, refl)

pub tracked_by_last : (entries : List Tracked) (path : List ℕ) → is_some (option_map (λ (e : Tracked). e.kind) (last_or None (alike entries path))) ≡ true → IsTrackedFolded entries path
tracked_by_last entries path is =
    let last = some_of (last_or None (alike entries path)) is in
    elim (last_among None (alike entries path) last.0 last.1) [ inl none ↦ absurd cc | inr at ↦ (let from = from_alike entries path at.0 last.0 at.1 in (from.0, last.0, from.1, from.2)) ]

any_last : (entries : List Tracked) (j : ℕ) (e : Tracked) → slice_get entries j ≡ Some e → is_some (option_map (λ (t : Tracked). t.kind) (last_or None entries)) ≡ true
any_last [] j e at = absurd cc
any_last (f ∷ entries) j e at = let last = last_some f entries in ap (λ (o : Option Tracked). is_some (option_map (λ (t : Tracked). t.kind) o)) last.1

pub last_of_tracked : (entries : List Tracked) (path : List ℕ) → IsTrackedFolded entries path → is_some (option_map (λ (e : Tracked). e.kind) (last_or None (alike entries path))) ≡ true
last_of_tracked entries path has = let at = among_alike entries path has.0 has.1 has.2 has.3 in any_last (alike entries path) at.0 has.1 at.1
