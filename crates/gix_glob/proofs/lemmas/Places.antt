-- Places in a path, and the same places in what follows a base.
use Rattle.std.proofs.Common.{◌≡◌, ◌==◌, ℕ, ◌+◌, ◌-◌, ◌<◌, ◌≤◌, Bool, true, false, inl, inr, List, [], ◌++◌, length, slice_index, codes, if◌then◌else◌, refl, sym, ap, ◌∙◌, subst, arith, length-append, Option, Some, None}
use Rattle.std.specs.Char.{to_ascii_lowercase}
use Rattle.std.proofs.lemmas.List.{get_or-map, get_or-append-add, get_or_append_left}
use Rattle.std.proofs.lemmas.Bool.{cases_lt, eqb-true}
use Rattle.std.proofs.Math.Seq.{get_or-append_seam}
use Rattle.std.proofs.lemmas.Bool.Decides.{eqb_tells}
use Rattle.glob_patterns.specs.declared.pattern.case.Case.{Case}
use Rattle.glob_patterns.specs.declared.pattern.case.Case.TheVariants.{Sensitive, Fold}
use Rattle.glob_matcher.specs.Bytes.{EndsInSlash, HasByte, slash}
pub use Rattle.glob_matcher.proofs.lemmas.cutting.SlashLemmas.{slash_of_lowercase}
use Rattle.glob_patterns.specs.RepositoryPaths.{IsAfterLastSlash, IsBasenameStart}
use Rattle.gix_glob.specs.Stripping.{folding_by, Rest, stripped_place}
use Rattle.gix_glob.specs.Paths.{IsFolder}
use Rattle.gix_glob.proofs.lemmas.Rests.{Rest-front, length-folding_by}

-- a byte of the rest is a byte of the path, so much further on
pub later_byte : (front rest : List ℕ) (i b : ℕ) → HasByte rest i b → HasByte (front ++ rest) (length front + i) b
later_byte front rest i b has = record {
  inside = omega (arith, has.inside, length-append front rest);
  is = get_or-append-add front rest i 0 ∙ has.is;
}

earlier_byte : (front rest : List ℕ) (i b : ℕ) → HasByte (front ++ rest) (length front + i) b → HasByte rest i b
earlier_byte front rest i b has = record {
  inside = omega (arith, has.inside, length-append front rest);
  is = sym (get_or-append-add front rest i 0) ∙ has.is;
}

-- where no slash of the path stands past the front, the rest has none
no_later_slash : (front rest : List ℕ) (from : ℕ) → ((j : ℕ) → from ≤ j → ¬ HasByte (front ++ rest) j slash) → from ≤ length front → (j : ℕ) → ¬ HasByte rest j slash
no_later_slash front rest from last short j has = last (length front + j) (omega arith) (later_byte front rest j slash has)

not_zero : (n : ℕ) → (n == 0) ≡ false → 0 < n
not_zero n some = elim (eqb_tells n 0) [ inl same ↦ absurd (cc) | inr other ↦ omega (arith, other.1) ]

place_case : (front rest : List ℕ) (at : ℕ) (b : Bool) → (at - length front == 0) ≡ b → IsAfterLastSlash (front ++ rest) at → IsBasenameStart rest (if b then None else Some (at - length front))
place_case front rest at true none after = no_later_slash front rest at after.last (omega (arith, eqb-true (at - length front) 0 none))
place_case front rest at false some after =
    let positive = not_zero (at - length front) some in
    record {
      some = positive;
      after = earlier_byte front rest (at - length front - 1) slash (subst (λ k. HasByte (front ++ rest) k slash) (omega (arith, positive)) after.after);
      last = λ j past has. after.last (length front + j) (omega arith) (later_byte front rest j slash has);
    }

-- the place after a path's last slash, as a place in the rest
start_behind_front : (front rest : List ℕ) (basename_start : Option ℕ) → IsBasenameStart (front ++ rest) basename_start → IsBasenameStart rest (stripped_place (length front) basename_start)
start_behind_front front rest None none = λ j has. none (length front + j) (later_byte front rest j slash has)
start_behind_front front rest (Some at) after = place_case front rest at (at - length front == 0) refl after

pub start_in_rest : (case : Case) (base path rest : List ℕ) (basename_start : Option ℕ) → Rest case base path rest → IsBasenameStart path basename_start → IsBasenameStart rest (stripped_place (length base) basename_start)
start_in_rest case base path rest basename_start r start =
    subst (λ n. IsBasenameStart rest (stripped_place n basename_start)) (Rest-front case base path rest r)
    (start_behind_front r.front rest basename_start (subst (λ p. IsBasenameStart p basename_start) r.joined start))

folding_by-slash : (case : Case) (text : List ℕ) (i : ℕ) → HasByte (folding_by case text) i slash → HasByte text i slash
folding_by-slash Sensitive text i has = has
folding_by-slash Fold text i has =
    let inside : i < length text = omega (arith, has.inside, length-folding_by Fold text) in
    record { inside = inside; is = slash_of_lowercase _ (sym (get_or-map to_ascii_lowercase text i 0 0 inside) ∙ has.is) }

slash-folding_by : (case : Case) (text : List ℕ) (i : ℕ) → HasByte text i slash → HasByte (folding_by case text) i slash
slash-folding_by Sensitive text i has = has
slash-folding_by Fold text i has = record {
  inside = omega (arith, has.inside, length-folding_by Fold text);
  is = get_or-map to_ascii_lowercase text i 0 0 has.inside ∙ ap to_ascii_lowercase has.is;
}

folder_end : (base : List ℕ) (ends : EndsInSlash base) → HasByte base (length base - 1) slash
folder_end base ends =
    let at_end : length base - 1 ≡ length ends.front = omega (arith, ap length ends.joined, length-append ends.front (codes "/")) in
    record {
      inside = omega (arith, ap length ends.joined, length-append ends.front (codes "/"));
      is = ap (λ i. slice_index base i) at_end ∙ ap (λ text. slice_index text (length ends.front)) ends.joined ∙ get_or-append_seam ends.front slash [] 0;
    }

-- a folder that a path begins with ends at a slash of the path
folder_slash : (case : Case) (base path rest : List ℕ) → Rest case base path rest → EndsInSlash base → HasByte path (length base - 1) slash
folder_slash case base path rest r ends =
    let base_slash : HasByte base (length base - 1) slash = folder_end base ends in
    let front_slash = folding_by-slash case r.front (length base - 1) (subst (λ text. HasByte text (length base - 1) slash) (sym r.same) (slash-folding_by case base (length base - 1) base_slash)) in
    subst (λ text. HasByte text (length base - 1) slash) (sym r.joined) (record {
      inside = omega (arith, front_slash.inside, length-append r.front rest);
      is = get_or_append_left r.front rest 0 (length base - 1) front_slash.inside ∙ front_slash.is;
    })

pub place_past_base : (case : Case) (base path rest : List ℕ) (at : ℕ) → IsFolder base → Rest case base path rest → IsAfterLastSlash path at → length base ≤ at
place_past_base case base path rest at (inl empty) r after = omega (arith, ap length empty)
place_past_base case base path rest at (inr ends) r after = elim (cases_lt at (length base)) [
  | inl short ↦ absurd (after.last (length base - 1) (omega arith) (folder_slash case base path rest r ends))
  | inr past ↦ past
]
