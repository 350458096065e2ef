-- What an entry holds: by its path, by a pattern, or as one below the top.
use Rattle.std.proofs.Common.{◌≡◌, ◌⊎◌, ℕ, zero, Bool, true, false, eqb, nat_eq, List, [], ◌∷◌, ◌++◌, length, map, take, drop, refl, sym, ap, ◌∙◌, subst, arith, inl, inr}
use Rattle.std.specs.Prelude.{IsTrue, ◌↔◌}
use Rattle.std.specs.Cmp.Lexicographic.{pointwise}
use Rattle.std.proofs.lemmas.Bool.{eq-eqb, eqb-true, false≢true}
use Rattle.std.proofs.lemmas.List.{append_cancel_left, length-map, take_at, take-append-drop}
use Rattle.std.proofs.lemmas.Slice.Eq.{bytes_eq-Decides}
use Rattle.glob_matcher.specs.declared.wildmatch.mode.Mode.{Mode}
use Rattle.glob_matcher.specs.Ways.{way_of}
use Rattle.glob_matcher.specs.declared.wildmatch.way.Way.TheVariants.{Plain}
use Rattle.glob_matcher.specs.declared.wildmatch.way.Way.{Way}
use Rattle.glob_matcher.specs.Matching.{Splits, SplitsBy}
use Rattle.git_index.specs.declared.entry.Entry.{Entry}
use Rattle.git_index.specs.Entries.{Tracked, tracked}
use Rattle.git_index.specs.Holding.{FitsPattern, Holds, IsHeld, front_of}
use Rattle.git_index.specs.Private.Parts.{Fits, HoldsPath, IsFitted, IsHeldByPath, IsHeldByPattern}

-- ---- a front and a pattern

pub fits_by : (path front pattern rest : List ℕ) (r : Bool) → pointwise nat_eq (take (length front) path) front ≡ true → rest ≡ drop (length front) path → (IsTrue r ↔ SplitsBy rest pattern Plain) → IsTrue r ↔ Fits path front pattern
fits_by path front pattern rest r same behind splits =
    let begins : take (length front) path ≡ front = (bytes_eq-Decides (take (length front) path) front).0 same in
    let joined : path ≡ front ++ rest = sym (take-append-drop (length front) path) ∙ ap (λ (w : List ℕ). w ++ drop (length front) path) begins ∙ ap (λ (w : List ℕ). front ++ w) (sym behind) in (
      λ yes. (rest, joined, splits.0 yes),
      λ fits. splits.1 (subst (λ (w : List ℕ). SplitsBy w pattern Plain) (append_cancel_left front fits.0 rest (sym fits.1 ∙ joined)) fits.2),
    )

pub fits_none : (path front pattern : List ℕ) → pointwise nat_eq (take (length front) path) front ≡ false → Fits path front pattern → ⊥
fits_none path front pattern differs fits =
    let begins : take (length front) path ≡ front = ap (take (length front)) fits.1 ∙ take_at front fits.0 (length front) refl in
    false≢true (sym differs ∙ (bytes_eq-Decides (take (length front) path) front).1 begins)

-- the pattern that stands behind the front is one alone
pub held_fits : (entries : List Tracked) (asked front pattern : List ℕ) (literal : ℕ) → front ≡ front_of asked literal → asked ≡ front ++ pattern → (pattern ≡ [] → ⊥) → IsFitted entries front pattern → IsHeldByPattern entries asked literal
held_fits entries asked front pattern literal is joined some has =
    let fits = has.3 in (
      has.0,
      has.1,
      has.2,
      record {
        pattern = pattern;
        rest = fits.0;
        asked_cut = joined ∙ ap (λ (w : List ℕ). w ++ pattern) is;
        some = some;
        path_cut = fits.1 ∙ ap (λ (w : List ℕ). w ++ fits.0) is;
        matches = fits.2;
      },
    )

same_pattern : (asked front pattern : List ℕ) (literal : ℕ) → front ≡ front_of asked literal → asked ≡ front ++ pattern → (path : List ℕ) → (f : FitsPattern path asked literal) → f.pattern ≡ pattern
same_pattern asked front pattern literal is joined path f = append_cancel_left front f.pattern pattern (ap (λ (w : List ℕ). w ++ f.pattern) is ∙ sym f.asked_cut ∙ joined)

pub fits_held : (entries : List Tracked) (asked front pattern : List ℕ) (literal : ℕ) → front ≡ front_of asked literal → asked ≡ front ++ pattern → IsHeldByPattern entries asked literal → IsFitted entries front pattern
fits_held entries asked front pattern literal is joined has =
    let f = has.3 in (
      has.0,
      has.1,
      has.2,
      (
        f.rest,
        f.path_cut ∙ ap (λ (w : List ℕ). w ++ f.rest) (sym is),
        subst (λ (w : List ℕ). SplitsBy f.rest w Plain) (same_pattern asked front pattern literal is joined has.1.path f) f.matches,
      ),
    )

pub none_held : (entries : List Tracked) (asked front pattern : List ℕ) (literal : ℕ) → front ≡ front_of asked literal → asked ≡ front ++ pattern → pattern ≡ [] → IsHeldByPattern entries asked literal → ⊥
none_held entries asked front pattern literal is joined none has = has.3.some (same_pattern asked front pattern literal is joined has.1.path has.3 ∙ none)

-- ---- the parts of what is held

pub held_top : (entries : List Tracked) (asked : List ℕ) (literal : ℕ) → (entries ≡ [] → ⊥) → asked ≡ [] → IsHeld entries asked literal
held_top [] asked literal some top = absurd (some refl)
held_top (e ∷ entries) asked literal some top = (zero, e, refl, inl top)

by_path : (e : Tracked) (asked : List ℕ) (literal : ℕ) → HoldsPath e asked → Holds e asked literal
by_path e asked literal (inl itself) = inr (inl itself)
by_path e asked literal (inr (inl slashed)) = inr (inr (inl slashed))
by_path e asked literal (inr (inr below)) = inr (inr (inr (inl below)))

pub held_by_path : (entries : List Tracked) (asked : List ℕ) (literal : ℕ) → IsHeldByPath entries asked → IsHeld entries asked literal
held_by_path entries asked literal has = (has.0, has.1, has.2, by_path has.1 asked literal has.3)

pub held_by_pattern : (entries : List Tracked) (asked : List ℕ) (literal : ℕ) → IsHeldByPattern entries asked literal → IsHeld entries asked literal
held_by_pattern entries asked literal has = (has.0, has.1, has.2, inr (inr (inr (inr has.3))))

parts_by : (e : Tracked) (asked : List ℕ) (literal : ℕ) → Holds e asked literal → (asked ≡ []) ⊎ HoldsPath e asked ⊎ FitsPattern e.path asked literal
parts_by e asked literal (inl top) = inl top
parts_by e asked literal (inr (inl itself)) = inr (inl (inl itself))
parts_by e asked literal (inr (inr (inl slashed))) = inr (inl (inr (inl slashed)))
parts_by e asked literal (inr (inr (inr (inl below)))) = inr (inl (inr (inr below)))
parts_by e asked literal (inr (inr (inr (inr fits)))) = inr (inr fits)

pub parts : (entries : List Tracked) (asked : List ℕ) (literal : ℕ) → IsHeld entries asked literal → (asked ≡ []) ⊎ IsHeldByPath entries asked ⊎ IsHeldByPattern entries asked literal
parts entries asked literal has = elim (parts_by has.1 asked literal has.3) [ inl top ↦ inl top | inr (inl path) ↦ inr (inl (has.0, has.1, has.2, path)) | inr (inr fits) ↦ inr (inr (has.0, has.1, has.2, fits)) ]

pub none_in_none : (asked : List ℕ) (literal : ℕ) → IsHeld [] asked literal → ⊥
none_in_none asked literal has = absurd (let none = has.2 in cc)

-- ---- nothing

pub no_bytes : (xs : List ℕ) → length xs ≡ 0 → xs ≡ []
no_bytes [] none = refl
no_bytes (x ∷ xs) none = absurd (omega (arith, none))

pub some_bytes : (xs : List ℕ) (r : Bool) → r ≡ eqb (length xs) 0 → r ≡ false → xs ≡ [] → ⊥
some_bytes xs r tested differs none = false≢true (sym differs ∙ tested ∙ eq-eqb _ _ (ap length none))

none_of_none : (entries : List Entry) → length entries ≡ 0 → map tracked entries ≡ []
none_of_none [] none = refl
none_of_none (e ∷ entries) none = absurd (omega (arith, none))

-- an index is empty where the list of its entries is
pub is_none_by : (entries : List Entry) (index : List Tracked) (r : Bool) → map tracked entries ≡ index → r ≡ eqb (length entries) 0 → IsTrue r ↔ (index ≡ [])
is_none_by entries index r are tested = (
  λ yes. sym are ∙ none_of_none entries (eqb-true _ _ (sym tested ∙ yes)),
  λ none. tested ∙ eq-eqb _ _ (sym (length-map entries tracked) ∙ ap length (are ∙ none)),
)

-- ---- the mode without a bit

plain_way : (mode : Mode) → mode.0 ≡ 0 → way_of mode ≡ Plain
plain_way mode none = ap (λ (n : ℕ). let plain : Mode = record { 0 = n } in way_of plain) none

pub splits_plain : (rest pattern : List ℕ) (mode : Mode) (r : Bool) → (IsTrue r ↔ Splits rest pattern mode) → mode.0 ≡ 0 → IsTrue r ↔ SplitsBy rest pattern Plain
splits_plain rest pattern mode r splits none = subst (λ (w : Way). IsTrue r ↔ SplitsBy rest pattern w) (plain_way mode none) splits
