-- Searching for a submodule among the entries of one path.
use Rattle.std.proofs.Common.{◌≡◌, ℕ, zero, suc, ◌+◌, ◌<◌, ◌≤◌, false, List, [], ◌∷◌, ◌++◌, length, get_or, map, Some, refl, sym, ap, ◌∙◌, arith, inl, inr}
use Rattle.std.specs.Prelude.{slice_get}
use Rattle.std.specs.Ordering.{is_gt, is_lt}
use Rattle.std.proofs.lemmas.Bool.{cases_lt}
use Rattle.std.proofs.lemmas.List.{append-nil}
use Rattle.std.proofs.lemmas.Map.Lookups.{exact_bytes}
use Rattle.git_index.specs.declared.entry.Entry.{Entry}
use Rattle.git_index.specs.declared.entry.Kind.{Kind}
use Rattle.git_index.specs.declared.entry.Kind.TheVariants.{Submodule}
use Rattle.git_index.specs.Entries.{InOrder, IsSubmodule, Tracked, tracked}
use Rattle.git_index.specs.Private.Search.{IsFirstFrom, path_at}
use Rattle.git_index.proofs.lemmas.Order.{path_equal}
use Rattle.git_index.proofs.lemmas.Search.{alike_by, at_place, cmp, paths_rise, stands_behind}

-- each submodule with this path stands at the place or behind it
abbrev pub StandBehind : List Tracked → List ℕ → ℕ → Type 0
StandBehind entries path place = (i : ℕ) (e : Tracked) → slice_get entries i ≡ Some e → e.path ≡ path → e.kind ≡ Submodule → place ≤ i

tracked_at : (entries : List Entry) (i : ℕ) (d : Entry) → i < length entries → slice_get (map tracked entries) i ≡ Some (tracked (get_or entries i d))
tracked_at [] i d lt = absurd (omega arith)
tracked_at (f ∷ entries) zero d lt = refl
tracked_at (f ∷ entries) (suc i) d lt = tracked_at entries i d (omega arith)

-- the entry at a place, as a list's element with itself as the default
at_itself : (entries : List Entry) (i : ℕ) (e : Entry) → i < length entries → e ≡ get_or entries i e → slice_get (map tracked entries) i ≡ Some (tracked e)
at_itself entries i e lt is = tracked_at entries i e lt ∙ ap (λ (x : Entry). Some (tracked x)) (sym is)

same_entry : (entries : List Entry) (i : ℕ) (d e : Entry) → i < length entries → get_or entries i d ≡ get_or entries i e
same_entry [] i d e lt = absurd (omega arith)
same_entry (f ∷ entries) zero d e lt = refl
same_entry (f ∷ entries) (suc i) d e lt = same_entry entries i d e (omega arith)

-- the kind of the entry at a place, and what it isn't
pub kind_at : (entries : List Entry) (i : ℕ) (e d : Entry) (k : Kind) → i < length entries → e ≡ get_or entries i e → (get_or entries i d).kind ≡ k → e.kind ≡ k
kind_at entries i e d k lt is kind = ap (λ (x : Entry). x.kind) (is ∙ same_entry entries i e d lt) ∙ kind

pub other_kind_at : (entries : List Entry) (i : ℕ) (e d : Entry) (k : Kind) → i < length entries → e ≡ get_or entries i e → ((get_or entries i d).kind ≡ k → ⊥) → e.kind ≡ k → ⊥
other_kind_at entries i e d k lt is other kind = other (sym (ap (λ (x : Entry). x.kind) (is ∙ same_entry entries i e d lt)) ∙ kind)

pub is_found : (entries : List Entry) (path : List ℕ) (i : ℕ) (e : Entry) → i < length entries → e ≡ get_or entries i e → (get_or entries i e).path ≡ path → e.kind ≡ Submodule → IsSubmodule (map tracked entries) path
is_found entries path i e lt is same kind = (i, tracked e, at_itself entries i e lt is, ap (λ (x : Entry). x.path) is ∙ same, kind)

-- ---- a loop's step

pub begin_at_first : (entries : List Tracked) (path : List ℕ) (first : ℕ) → IsFirstFrom entries (path ++ []) first → StandBehind entries path first
begin_at_first entries path first found i e at same kind =
    let is : path_at entries i ≡ path ++ [] = (at_place entries i e at).1 ∙ same ∙ sym (append-nil path) in
    stands_behind entries (path ++ []) first i found (ap is_lt (path_equal (path_at entries i) (path ++ []) is))

other_kind : (e f : Tracked) → Some e ≡ Some f → e.kind ≡ Submodule → f.kind ≡ Submodule
other_kind e f same kind = let alike : f ≡ e = cc in ap (λ (t : Tracked). t.kind) alike ∙ kind

pub pass_over : (entries : List Entry) (path : List ℕ) (place : ℕ) (e : Entry) → place < length entries → e ≡ get_or entries place e → (e.kind ≡ Submodule → ⊥) → StandBehind (map tracked entries) path place → StandBehind (map tracked entries) path (place + 1)
pass_over entries path place e lt is other behind i f at same kind =
    elim (cases_lt place i) [
      | inl less ↦ omega arith
      | inr le ↦
          let here : i ≡ place = omega (arith, behind i f at same kind) in
          absurd (other (other_kind f (tracked e) (sym at ∙ ap (slice_get (map tracked entries)) here ∙ at_itself entries place e lt is) kind))
    ]

-- ---- where the search ends

pub none_at_the_end : (entries : List Tracked) (path : List ℕ) (place : ℕ) → length entries ≤ place → StandBehind entries path place → IsSubmodule entries path → ⊥
none_at_the_end entries path place end behind has =
    let at = at_place entries has.0 has.1 has.2 in
    absurd (omega (arith, at.0, behind has.0 has.1 has.2 has.3 has.4))

pub none_behind_another : (entries : List Tracked) (path : List ℕ) (place : ℕ) → InOrder entries → is_lt (cmp (path_at entries place) (path ++ [])) ≡ false → StandBehind entries path place → (path_at entries place ≡ path → ⊥) → IsSubmodule entries path → ⊥
none_behind_another entries path place order low behind differs has =
    let at = at_place entries has.0 has.1 has.2 in
    let whole : path ++ [] ≡ path = append-nil path in
    let is : path_at entries has.0 ≡ path = at.1 ∙ has.3 in
    let high : is_gt (cmp (path_at entries place) (path ++ [])) ≡ false = rw (is ∙ sym whole) at (paths_rise entries order place has.0 (behind has.0 has.1 has.2 has.3 has.4) at.0) in
    differs (exact_bytes (path_at entries place) (path ++ []) (alike_by (cmp (path_at entries place) (path ++ [])) low high) ∙ whole)
