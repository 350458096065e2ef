-- Reading entries one after the other, as a loop does.
use Rattle.std.proofs.Common.{◌≡◌, ℕ, suc, ◌-◌, ◌+◌, ◌≤◌, ◌<◌, List, [], ◌∷◌, ◌++◌, length, Result, Ok, Err, refl, sym, ap, ◌∙◌, append_assoc, arith, inl, inr, ◌⊎◌}
use Rattle.std.proofs.lemmas.List.{append-nil}
use Rattle.git_index.specs.declared.fault.IndexFault.{IndexFault}
use Rattle.git_index.specs.declared.fault.IndexFault.TheVariants.{Memory}
use Rattle.git_index.specs.Entries.{Tracked}
use Rattle.git_index.specs.Private.Reading.{◌>>=◌, entry_at, entries_at}

-- the path of the last entry
abbrev pub path_before : List Tracked → List ℕ
path_before [] = []
path_before (e ∷ []) = e.path
path_before (e ∷ f ∷ entries) = path_before (f ∷ entries)

pub path_before-push : (entries : List Tracked) (e : Tracked) → path_before (entries ++ e ∷ []) ≡ e.path
path_before-push [] e = refl
path_before-push (f ∷ []) e = refl
path_before-push (f ∷ g ∷ entries) e = path_before-push (g ∷ entries) e

-- what was read before, and what is still read
abbrev pub with_front : List Tracked → Result (List Tracked × List ℕ) IndexFault → Result (List Tracked × List ℕ) IndexFault
with_front front read = read >>= λ x. Ok (front ++ x.0, x.1)

regroup : (front : List Tracked) (e : Tracked) (read : Result (List Tracked × List ℕ) IndexFault) → with_front front (read >>= λ x. Ok (e ∷ x.0, x.1)) ≡ with_front (front ++ e ∷ []) read
regroup front e (Ok x) = ap (λ (es : List Tracked). Ok (es, x.1)) (simp append_assoc)
regroup front e (Err f) = refl

pub goes_on : (version hash : ℕ) (front : List Tracked) (previous : List ℕ) (before : previous ≡ path_before front) (count i room : ℕ) (bytes : List ℕ) (e : Tracked) (after : List ℕ) (total : Result (List Tracked × List ℕ) IndexFault) → i < count
    → entry_at version hash previous room bytes ≡ Ok (e, after)
    → with_front front (entries_at version hash (count - i) (path_before front) room bytes) ≡ total
    → with_front (front ++ e ∷ []) (entries_at version hash (count - (i + 1)) (path_before (front ++ e ∷ [])) (room - length e.path) after) ≡ total
unfolding entries_at
goes_on version hash front previous before count i room bytes e after total lt read so_far =
    let h : entry_at version hash (path_before front) room bytes ≡ Ok (e, after) = rw (← before) read in
    let k : count - i ≡ suc (count - (i + 1)) = omega arith in
    let one : with_front front (entries_at version hash (count - i) (path_before front) room bytes) ≡ with_front (front ++ e ∷ []) (entries_at version hash (count - (i + 1)) e.path (room - length e.path) after) = rw (k, h) (regroup front e (entries_at version hash (count - (i + 1)) e.path (room - length e.path) after)) in
    rw (path_before-push front e) (sym one ∙ so_far)

pub ends : (fault : IndexFault) (version hash : ℕ) (front : List Tracked) (previous : List ℕ) (before : previous ≡ path_before front) (count i room : ℕ) (bytes : List ℕ) (total : Result (List Tracked × List ℕ) IndexFault) → i < count
    → (fault ≡ Memory) ⊎ (entry_at version hash previous room bytes ≡ Err fault)
    → with_front front (entries_at version hash (count - i) (path_before front) room bytes) ≡ total
    → (fault ≡ Memory) ⊎ (total ≡ Err fault)
unfolding entries_at
ends fault version hash front previous before count i room bytes total lt (inl memory) so_far = inl memory
ends fault version hash front previous before count i room bytes total lt (inr read) so_far =
    let h : entry_at version hash (path_before front) room bytes ≡ Err fault = rw (← before) read in
    let k : count - i ≡ suc (count - (i + 1)) = omega arith in
    let one : with_front front (entries_at version hash (count - i) (path_before front) room bytes) ≡ Err fault = rw (k, h) refl in
    inr (sym so_far ∙ one)

pub is_done : (version hash : ℕ) (front : List Tracked) (count i room : ℕ) (bytes : List ℕ) (total : Result (List Tracked × List ℕ) IndexFault) → count ≤ i → with_front front (entries_at version hash (count - i) (path_before front) room bytes) ≡ total → total ≡ Ok (front, bytes)
unfolding entries_at
is_done version hash front count i room bytes total le so_far =
    let k : count - i ≡ 0 = omega arith in
    let one : with_front front (entries_at version hash (count - i) (path_before front) room bytes) ≡ Ok (front, bytes) = rw k (ap (λ (es : List Tracked). Ok (es, bytes)) (append-nil front)) in
    sym so_far ∙ one
