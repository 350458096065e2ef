-- An asked path and the paths of entries: itself, with a slash at its end, and what lies below.
use Rattle.std.proofs.Common.{◌≡◌, ◌⊎◌, ℕ, zero, suc, ◌+◌, ◌-◌, ◌<◌, ◌≤◌, true, false, nat_eq, List, [], ◌∷◌, ◌++◌, length, get_or, take, drop, Some, refl, sym, ap, ◌∙◌, subst, append_assoc, length-append, arith, inl, inr}
use Rattle.std.specs.Prelude.{slice_get}
use Rattle.std.specs.Cmp.Lexicographic.{pointwise}
use Rattle.std.proofs.Math.Seq.{get_or-append_seam}
use Rattle.std.proofs.lemmas.Bool.{cases_lt, false≢true}
use Rattle.std.proofs.lemmas.List.{append_cancel_right, drop_at, take_at, take-append-drop}
use Rattle.std.proofs.lemmas.Slice.Eq.{bytes_eq-Decides}
use Rattle.git_index.specs.Entries.{HasBelow, IsSubmodule, IsTracked, Tracked}
use Rattle.git_index.specs.Holding.{LiesIn}
use Rattle.git_index.specs.Private.Parts.{HoldsPath, IsHeldByPath}

-- ---- a slash at the end

pub slash_off : (asked x : List ℕ) → pointwise nat_eq (drop (length asked - 1) asked) (47 ∷ []) ≡ true → x ≡ take (length asked - 1) asked → asked ≡ x ++ 47 ∷ []
slash_off asked x ends is =
    sym (take-append-drop (length asked - 1) asked)
    ∙ ap (λ (w : List ℕ). w ++ drop (length asked - 1) asked) (sym is)
    ∙ ap (λ (w : List ℕ). x ++ w) ((bytes_eq-Decides (drop (length asked - 1) asked) (47 ∷ [])).0 ends)

one_less : (folder : List ℕ) → length (folder ++ 47 ∷ []) - 1 ≡ length folder
one_less folder = omega (arith, length-append folder (47 ∷ []))

pub no_slash : (asked : List ℕ) → pointwise nat_eq (drop (length asked - 1) asked) (47 ∷ []) ≡ false → (folder : List ℕ) → asked ≡ folder ++ 47 ∷ [] → ⊥
no_slash asked differs folder ends =
    let last : drop (length asked - 1) asked ≡ 47 ∷ [] =
    ap (λ (w : List ℕ). drop (length w - 1) w) ends ∙ ap (λ n. drop n (folder ++ 47 ∷ [])) (one_less folder) ∙ drop_at folder (47 ∷ []) (length folder) refl in
    false≢true (sym differs ∙ (bytes_eq-Decides (drop (length asked - 1) asked) (47 ∷ [])).1 last)

-- ---- held by its path

pub held_itself : (entries : List Tracked) (asked : List ℕ) → IsTracked entries asked → IsHeldByPath entries asked
held_itself entries asked has = (has.0, has.1, has.2, inl (sym has.3))

pub held_above : (entries : List Tracked) (asked folder : List ℕ) → (asked ≡ folder) ⊎ (asked ≡ folder ++ 47 ∷ []) → HasBelow entries folder → IsHeldByPath entries asked
held_above entries asked folder told has = (has.0, has.1, has.3, inr (inr (folder, has.2, told, has.4)))

pub held_submodule : (entries : List Tracked) (asked folder : List ℕ) → asked ≡ folder ++ 47 ∷ [] → IsSubmodule entries folder → IsHeldByPath entries asked
held_submodule entries asked folder ends has = (has.0, has.1, has.2, inr (inl (ends ∙ ap (λ (w : List ℕ). w ++ 47 ∷ []) (sym has.3), has.4)))

same_folder : (asked a b : List ℕ) → asked ≡ a ++ 47 ∷ [] → asked ≡ b ++ 47 ∷ [] → a ≡ b
same_folder asked a b first second = append_cancel_right a b (47 ∷ []) (sym first ∙ second)

below_slash : (entries : List Tracked) (asked folder f rest : List ℕ) (i : ℕ) (e : Tracked) → slice_get entries i ≡ Some e → asked ≡ folder ++ 47 ∷ [] → (asked ≡ f) ⊎ (asked ≡ f ++ 47 ∷ []) → e.path ≡ f ++ 47 ∷ rest → HasBelow entries folder
below_slash entries asked folder f rest i e at ends (inl whole) path =
    (i, e, 47 ∷ rest, at, path ∙ ap (λ (w : List ℕ). w ++ 47 ∷ rest) (sym whole ∙ ends) ∙ append_assoc folder (47 ∷ []) (47 ∷ rest))
below_slash entries asked folder f rest i e at ends (inr slashed) path = (i, e, rest, at, path ∙ ap (λ (w : List ℕ). w ++ 47 ∷ rest) (same_folder asked f folder slashed ends))

slash_parts_by : (entries : List Tracked) (asked folder : List ℕ) (i : ℕ) (e : Tracked) → slice_get entries i ≡ Some e → asked ≡ folder ++ 47 ∷ [] → HoldsPath e asked → IsTracked entries asked ⊎ HasBelow entries folder ⊎ IsSubmodule entries folder
slash_parts_by entries asked folder i e at ends (inl itself) = inl (i, e, at, sym itself)
slash_parts_by entries asked folder i e at ends (inr (inl slashed)) = inr (inr (i, e, at, same_folder asked e.path folder slashed.0 ends, slashed.1))
slash_parts_by entries asked folder i e at ends (inr (inr below)) = inr (inl (below_slash entries asked folder below.0 below.1 i e at ends below.2 below.3))

pub slash_parts : (entries : List Tracked) (asked folder : List ℕ) → asked ≡ folder ++ 47 ∷ [] → IsHeldByPath entries asked → IsTracked entries asked ⊎ HasBelow entries folder ⊎ IsSubmodule entries folder
slash_parts entries asked folder ends has = slash_parts_by entries asked folder has.0 has.1 has.2 ends has.3

below_whole : (entries : List Tracked) (asked f rest : List ℕ) (i : ℕ) (e : Tracked) → slice_get entries i ≡ Some e → ((folder : List ℕ) → asked ≡ folder ++ 47 ∷ [] → ⊥) → (asked ≡ f) ⊎ (asked ≡ f ++ 47 ∷ []) → e.path ≡ f ++ 47 ∷ rest → HasBelow entries asked
below_whole entries asked f rest i e at never (inl whole) path = (i, e, rest, at, path ∙ ap (λ (w : List ℕ). w ++ 47 ∷ rest) (sym whole))
below_whole entries asked f rest i e at never (inr slashed) path = absurd (never f slashed)

whole_parts_by : (entries : List Tracked) (asked : List ℕ) (i : ℕ) (e : Tracked) → slice_get entries i ≡ Some e → ((folder : List ℕ) → asked ≡ folder ++ 47 ∷ [] → ⊥) → HoldsPath e asked → IsTracked entries asked ⊎ HasBelow entries asked
whole_parts_by entries asked i e at never (inl itself) = inl (i, e, at, sym itself)
whole_parts_by entries asked i e at never (inr (inl slashed)) = absurd (never e.path slashed.0)
whole_parts_by entries asked i e at never (inr (inr below)) = inr (below_whole entries asked below.0 below.1 i e at never below.2 below.3)

pub whole_parts : (entries : List Tracked) (asked : List ℕ) → ((folder : List ℕ) → asked ≡ folder ++ 47 ∷ [] → ⊥) → IsHeldByPath entries asked → IsTracked entries asked ⊎ HasBelow entries asked
whole_parts entries asked never has = whole_parts_by entries asked has.0 has.1 has.2 never has.3

-- ---- in a submodule

cut_at : (xs : List ℕ) (i d : ℕ) → i + 1 < length xs → get_or xs i d ≡ 47 → (b : ℕ) × (rest : List ℕ) × (xs ≡ take i xs ++ 47 ∷ b ∷ rest)
cut_at [] i d lt is = absurd (omega arith)
cut_at (x ∷ []) i d lt is = absurd (omega arith)
cut_at (x ∷ b ∷ xs) zero d lt is = (b, xs, ap (λ (c : ℕ). c ∷ b ∷ xs) is)
cut_at (x ∷ b ∷ xs) (suc i) d lt is = let more = cut_at (b ∷ xs) i d (omega arith) is in (more.0, more.1, ap (λ (w : List ℕ). x ∷ w) more.2)

pub lies_in : (entries : List Tracked) (asked : List ℕ) (i d : ℕ) → i + 1 < length asked → get_or asked i d ≡ 47 → IsSubmodule entries (take i asked) → LiesIn entries asked (take i asked)
lies_in entries asked i d lt slash has = let cut = cut_at asked i d lt slash in (cut.0, cut.1, cut.2, has)

pub lies_within : (entries : List Tracked) (asked other : List ℕ) → LiesIn entries asked other → length other + 1 < length asked
lies_within entries asked other lies = omega (arith, ap length lies.2, length-append other (47 ∷ lies.0 ∷ lies.1))

-- another submodule ends behind a place where none does
pub goes_on : (entries : List Tracked) (asked : List ℕ) (place d : ℕ) → (get_or asked place d ≡ 47 → IsSubmodule entries (take place asked) → ⊥) → ((other : List ℕ) → LiesIn entries asked other → place ≤ length other) → (other : List ℕ) → LiesIn entries asked other → place + 1 ≤ length other
goes_on entries asked place d never before other lies =
    elim (cases_lt place (length other)) [
      | inl less ↦ omega arith
      | inr le ↦
          let here : place ≡ length other = omega (arith, before other lies) in
          let front : take place asked ≡ other = ap (take place) lies.2 ∙ take_at other (47 ∷ lies.0 ∷ lies.1) place (sym here) in
          let slash : get_or asked place d ≡ 47 = ap (λ (w : List ℕ). get_or w place d) lies.2 ∙ ap (λ n. get_or (other ++ 47 ∷ lies.0 ∷ lies.1) n d) here ∙ get_or-append_seam other 47 (lies.0 ∷ lies.1) d in
          absurd (never slash (subst (λ (w : List ℕ). IsSubmodule entries w) (sym front) lies.3))
    ]
