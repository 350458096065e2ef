-- The entries of a shared file that stay, one after the other.
use Rattle.std.proofs.Common.{◌≡◌, Bool, true, false, cond, List, [], ◌∷◌, ◌++◌, refl, sym, ap, ◌∙◌, append_assoc}
use Rattle.std.proofs.lemmas.List.{append-nil}
use Rattle.git_index.specs.Entries.{Tracked}
use Rattle.git_index.specs.Private.Reading.{next_of, renewed_at}
use Rattle.git_index.specs.Split.{replaced_by, unmarked}

-- without marks or without new entries nothing is replaced
replaced_unmarked : (entries new : List Tracked) → replaced_by entries [] new ≡ entries
replaced_unmarked [] new = refl
replaced_unmarked (e ∷ entries) new = refl

replaced_none : (entries : List Tracked) (marks : List Bool) → replaced_by entries marks [] ≡ entries
replaced_none [] marks = refl
replaced_none (e ∷ entries) [] = refl
replaced_none (e ∷ entries) (true ∷ marks) = refl
replaced_none (e ∷ entries) (false ∷ marks) = ap (λ (w : List Tracked). e ∷ w) (replaced_none entries marks)

unmarked_none : (entries : List Tracked) → unmarked entries [] ≡ entries
unmarked_none [] = refl
unmarked_none (e ∷ entries) = refl

replaced_step : (e : Tracked) (entries : List Tracked) (marks : List Bool) (new : List Tracked)
    → replaced_by (e ∷ entries) marks new ≡ (renewed_at (next_of marks).0 e new).0 ∷ replaced_by entries (next_of marks).1 (renewed_at (next_of marks).0 e new).1
unfolding next_of renewed_at
replaced_step e entries [] new = ap (λ (w : List Tracked). e ∷ w) (sym (replaced_unmarked entries new))
replaced_step e entries (false ∷ marks) new = refl
replaced_step e entries (true ∷ marks) [] = ap (λ (w : List Tracked). e ∷ w) (sym (replaced_none entries marks))
replaced_step e entries (true ∷ marks) (n ∷ new) = refl

abbrev pub stays : Bool → Tracked → List Tracked
stays deleted e = cond deleted [] (e ∷ [])

unmarked_step : (e : Tracked) (entries : List Tracked) (marks : List Bool) → unmarked (e ∷ entries) marks ≡ stays (next_of marks).0 e ++ unmarked entries (next_of marks).1
unfolding next_of
unmarked_step e entries [] = ap (λ (w : List Tracked). e ∷ w) (sym (unmarked_none entries))
unmarked_step e entries (false ∷ marks) = refl
unmarked_step e entries (true ∷ marks) = refl

-- one entry, by what is read of its marks
pub kept_step : (front : List Tracked) (e : Tracked) (entries : List Tracked) (replaced deleted : List Bool) (new : List Tracked) (r d : Bool × List Bool) (x : Tracked × List Tracked) → r ≡ next_of replaced → d ≡ next_of deleted → x ≡ renewed_at r.0 e new
    → (front ++ stays d.0 x.0) ++ unmarked (replaced_by entries r.1 x.1) d.1 ≡ front ++ unmarked (replaced_by (e ∷ entries) replaced new) deleted
kept_step front e entries replaced deleted new r d x r-is d-is x-is =
    let one : unmarked (replaced_by (e ∷ entries) replaced new) deleted ≡ unmarked (x.0 ∷ replaced_by entries r.1 x.1) deleted = rw (x-is, r-is) (ap (λ (w : List Tracked). unmarked w deleted) (replaced_step e entries replaced new)) in
    let two : unmarked (x.0 ∷ replaced_by entries r.1 x.1) deleted ≡ stays d.0 x.0 ++ unmarked (replaced_by entries r.1 x.1) d.1 = rw d-is (unmarked_step x.0 (replaced_by entries r.1 x.1) deleted) in
    append_assoc front (stays d.0 x.0) (unmarked (replaced_by entries r.1 x.1) d.1) ∙ ap (λ (w : List Tracked). front ++ w) (sym (one ∙ two))

-- a turn of the loop: the entry is kept, or deleted
pub kept_one : (front : List Tracked) (e : Tracked) (entries : List Tracked) (replaced deleted : List Bool) (new : List Tracked) (r d : Bool × List Bool) (x : Tracked × List Tracked) (all : List Tracked) → r ≡ next_of replaced → d ≡ next_of deleted → x ≡ renewed_at r.0 e new
    → d.0 ≡ false → front ++ unmarked (replaced_by (e ∷ entries) replaced new) deleted ≡ all → (front ++ x.0 ∷ []) ++ unmarked (replaced_by entries r.1 x.1) d.1 ≡ all
kept_one front e entries replaced deleted new r d x all r-is d-is x-is stays_so so_far =
    let one : stays d.0 x.0 ≡ x.0 ∷ [] = rw stays_so refl in
    ap (λ (w : List Tracked). (front ++ w) ++ unmarked (replaced_by entries r.1 x.1) d.1) (sym one) ∙ kept_step front e entries replaced deleted new r d x r-is d-is x-is ∙ so_far

pub deleted_one : (front : List Tracked) (e : Tracked) (entries : List Tracked) (replaced deleted : List Bool) (new : List Tracked) (r d : Bool × List Bool) (x : Tracked × List Tracked) (all : List Tracked) → r ≡ next_of replaced → d ≡ next_of deleted → x ≡ renewed_at r.0 e new
    → d.0 ≡ true → front ++ unmarked (replaced_by (e ∷ entries) replaced new) deleted ≡ all → front ++ unmarked (replaced_by entries r.1 x.1) d.1 ≡ all
deleted_one front e entries replaced deleted new r d x all r-is d-is x-is goes so_far =
    let none : front ++ stays d.0 x.0 ≡ front = rw goes (append-nil front) in
    ap (λ (w : List Tracked). w ++ unmarked (replaced_by entries r.1 x.1) d.1) (sym none) ∙ kept_step front e entries replaced deleted new r d x r-is d-is x-is ∙ so_far
