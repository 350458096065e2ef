-- The entries whose paths begin so, entry by entry, and their order.
use Rattle.std.proofs.Common.{◌≡◌, ℕ, ◌+◌, ◌<◌, Bool, true, false, cond, List, [], ◌∷◌, ◌++◌, get_or, length, map, nat_eq, take, sym, ap, ◌∙◌, inl, inr, arith}
use Rattle.std.specs.List.{filter, starts_with}
use Rattle.std.proofs.lemmas.Cmp.{nat_list_cmp_total}
use Rattle.std.proofs.lemmas.List.{map-append, take_more}
use Rattle.std.proofs.lemmas.List.Elements.{filter-append}
use Rattle.git_index.specs.declared.entry.Entry.{Entry}
use Rattle.git_index.specs.Entries.{ComesBefore, InOrder, Tracked, starting_with, tracked}

-- ---- entry by entry

one_longer : (entries : List Entry) (i : ℕ) (d : Entry) → i < length entries → map tracked (take i entries) ++ tracked (get_or entries i d) ∷ [] ≡ map tracked (take (i + 1) entries)
one_longer entries i d low = sym (ap (map tracked) (take_more entries i d low) ∙ map-append tracked (take i entries) (get_or entries i d ∷ []))

-- those among the entries so far, and the next one if it is among them
pub starting_more : (front : List ℕ) (entries : List Entry) (i : ℕ) (d e : Entry) (b : Bool) → i < length entries → get_or entries i d ≡ e → b ≡ starts_with nat_eq e.path front
    → starting_with front (map tracked (take i entries)) ++ cond b (tracked e ∷ []) [] ≡ starting_with front (map tracked (take (i + 1) entries))
starting_more front entries i d e b low here is =
    let first = map tracked (take i entries) in
    let starts : Tracked → Bool = λ e. starts_with nat_eq e.path front in
    ap (λ (w : Bool). starting_with front first ++ cond w (tracked e ∷ []) []) is
    ∙ sym (filter-append starts first (tracked e ∷ []))
    ∙ ap (λ (w : Entry). starting_with front (first ++ tracked w ∷ [])) (sym here)
    ∙ ap (starting_with front) (one_longer entries i d low)

-- ---- order

before_further : (a b c : Tracked) → ComesBefore a b → ComesBefore b c → ComesBefore a c
before_further a b c (inl less) (inl more) = inl (nat_list_cmp_total.trans a.path b.path c.path less more)
before_further a b c (inl less) (inr same) = inl (rw same.0 at less)
before_further a b c (inr same) (inl less) = inl (rw same.0 less)
before_further a b c (inr same) (inr also) = inr (same.0 ∙ also.0, same.1, omega arith)

without_next : (a b : Tracked) (entries : List Tracked) → InOrder (a ∷ b ∷ entries) → InOrder (a ∷ entries)
without_next a b [] order = tt
without_next a b (c ∷ entries) order = (before_further a b c order.0 order.1.0, order.1.1)

behind_first : (p : Tracked → Bool) (a : Tracked) (entries : List Tracked) → InOrder (a ∷ entries) → InOrder (a ∷ filter p entries)
behind_first p a [] order = tt
behind_first p a (b ∷ entries) order = elim (p b) as (λ v. InOrder (a ∷ cond v (b ∷ filter p entries) (filter p entries)))
    [ true ↦ (order.0, behind_first p b entries order.1) | false ↦ behind_first p a entries (without_next a b entries order) ]

behind : (a : Tracked) (entries : List Tracked) → InOrder (a ∷ entries) → InOrder entries
behind a [] order = tt
behind a (b ∷ entries) order = order.1

filter_in_order : (p : Tracked → Bool) (entries : List Tracked) → InOrder entries → InOrder (filter p entries)
filter_in_order p [] order = tt
filter_in_order p (a ∷ entries) order = elim (p a) as (λ v. InOrder (cond v (a ∷ filter p entries) (filter p entries)))
    [ true ↦ behind_first p a entries order | false ↦ filter_in_order p entries (behind a entries order) ]

pub starting_in_order : (front : List ℕ) (entries : List Tracked) → InOrder entries → InOrder (starting_with front entries)
starting_in_order front entries order = filter_in_order (λ e. starts_with nat_eq e.path front) entries order
