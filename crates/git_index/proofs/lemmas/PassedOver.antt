-- Entries that are passed over until one has a property.
use Rattle.std.proofs.Common.{◌≡◌, ℕ, zero, suc, ◌+◌, ◌<◌, ◌≤◌, List, [], ◌∷◌, length, get_or, map, Some, refl, subst, sym, ap, ◌∙◌, arith, inl, inr}
use Rattle.std.specs.Prelude.{slice_get}
use Rattle.std.proofs.lemmas.Bool.{cases_lt}
use Rattle.std.proofs.lemmas.Option.{slice_get_within}
use Rattle.std.proofs.lemmas.List.{length-map}
use Rattle.git_index.specs.declared.entry.Entry.{Entry}
use Rattle.git_index.specs.Entries.{Tracked, tracked}
use Rattle.git_index.specs.Private.Parts.{HasEntry}

-- each entry that has the property stands at the place or behind it
abbrev pub StandBehind : (Tracked → Type 0) → List Tracked → ℕ → Type 0
StandBehind P entries place = (i : ℕ) (e : Tracked) → slice_get entries i ≡ Some e → P e → place ≤ i

tracked_at : (entries : List Entry) (i : ℕ) (d : Entry) → i < length entries → slice_get (map tracked entries) i ≡ Some (tracked (get_or entries i d))
tracked_at [] i d lt = absurd (omega arith)
tracked_at (f ∷ entries) zero d lt = refl
tracked_at (f ∷ entries) (suc i) d lt = tracked_at entries i d (omega arith)

-- the entry at a place, told as itself
at_itself : (entries : List Entry) (i : ℕ) (e : Entry) → i < length entries → e ≡ get_or entries i e → slice_get (map tracked entries) i ≡ Some (tracked e)
at_itself entries i e lt is = tracked_at entries i e lt ∙ ap (λ (x : Entry). Some (tracked x)) (sym is)

pub has_entry : (P : Tracked → Type 0) (entries : List Entry) (i : ℕ) (e : Entry) → i < length entries → e ≡ get_or entries i e → P (tracked e) → HasEntry P (map tracked entries)
has_entry P entries i e lt is has = (i, tracked e, at_itself entries i e lt is, has)

same_some : (P : Tracked → Type 0) (e f : Tracked) → Some e ≡ Some f → P e → P f
same_some P e f same has = let alike : e ≡ f = cc in subst P alike has

pub pass_over : (P : Tracked → Type 0) (entries : List Entry) (place : ℕ) (e : Entry) → place < length entries → e ≡ get_or entries place e → (P (tracked e) → ⊥) → StandBehind P (map tracked entries) place → StandBehind P (map tracked entries) (place + 1)
pass_over P entries place e lt is other behind i f at has =
    elim (cases_lt place i) [
      | inl less ↦ omega arith
      | inr le ↦
          let here : i ≡ place = omega (arith, behind i f at has) in
          absurd (other (same_some P f (tracked e) (sym at ∙ ap (slice_get (map tracked entries)) here ∙ at_itself entries place e lt is) has))
    ]

pub none_at_the_end : (P : Tracked → Type 0) (entries : List Entry) (place : ℕ) → length entries ≤ place → StandBehind P (map tracked entries) place → HasEntry P (map tracked entries) → ⊥
none_at_the_end P entries place end behind has =
    absurd (omega (arith, slice_get_within (map tracked entries) has.0 has.1 has.2, length-map entries tracked, behind has.0 has.1 has.2 has.3))
