-- Putting entries in among others, one after the other.
use Rattle.std.proofs.Common.{◌≡◌, suc, ◌+◌, Bool, true, false, cond, eqb, List, [], ◌∷◌, ◌++◌, length, map, take, drop, refl, sym, ap, ◌∙◌, append_assoc, arith}
use Rattle.std.specs.Prelude.{filter}
use Rattle.std.specs.List.{prefix_len}
use Rattle.std.specs.Ordering.{is_gt, is_le, is_lt}
use Rattle.std.specs.declared.cmp.Ordering.{Ordering}
use Rattle.std.specs.declared.cmp.Ordering.TheVariants.{Less, Equal, Greater}
use Rattle.git_index.specs.declared.entry.Entry.{Entry}
use Rattle.git_index.specs.Entries.{Tracked, tracked}
use Rattle.git_index.specs.Private.Reading.{named_in}
use Rattle.git_index.specs.Split.{before, behind, place, put_in}

module _ (p q : Tracked → Bool) (e : Tracked) (entries : List Tracked) where
  taken_on : q e ≡ true → filter p (take (prefix_len q (e ∷ entries)) (e ∷ entries)) ≡ cond (p e) (e ∷ filter p (take (prefix_len q entries) entries)) (filter p (take (prefix_len q entries) entries))
  taken_on on = let n : 1 + prefix_len q entries ≡ suc (prefix_len q entries) = omega arith in rw (on, n) refl

  left_on : q e ≡ true → drop (prefix_len q (e ∷ entries)) (e ∷ entries) ≡ drop (prefix_len q entries) entries
  left_on on = let n : 1 + prefix_len q entries ≡ suc (prefix_len q entries) = omega arith in rw (on, n) refl

not_above : (o : Ordering) → is_gt o ≡ false → is_le o ≡ true
not_above Less e = refl
not_above Equal e = refl
not_above Greater e = absurd cc

-- an entry before the added one, or where it stands
goes_on : (a e : Tracked) (entries : List Tracked) → is_gt (place e a) ≡ false
    → (before a (e ∷ entries) ≡ cond (is_lt (place e a)) (e ∷ before a entries) (before a entries)) × (behind a (e ∷ entries) ≡ behind a entries)
goes_on a e entries below =
    let on = not_above (place e a) below in
    (taken_on (λ x. is_lt (place x a)) (λ x. is_le (place x a)) e entries on, left_on (λ x. is_lt (place x a)) (λ x. is_le (place x a)) e entries on)

-- a turn of the loop: the first entry is moved, or dropped
pub moved_one : (a e : Tracked) (joined kept all left : List Tracked) → is_gt (place e a) ≡ false → is_lt (place e a) ≡ true → joined ++ before a (e ∷ kept) ≡ all → behind a (e ∷ kept) ≡ left
    → ((joined ++ e ∷ []) ++ before a kept ≡ all) × (behind a kept ≡ left)
moved_one a e joined kept all left low first all_is left_is =
    let g = goes_on a e kept low in
    let one : before a (e ∷ kept) ≡ e ∷ before a kept = g.0 ∙ rw first refl in
    (append_assoc joined (e ∷ []) (before a kept) ∙ ap (λ (w : List Tracked). joined ++ w) (sym one) ∙ all_is, sym g.1 ∙ left_is)

pub dropped_one : (a e : Tracked) (joined kept all left : List Tracked) → is_gt (place e a) ≡ false → is_lt (place e a) ≡ false → joined ++ before a (e ∷ kept) ≡ all → behind a (e ∷ kept) ≡ left
    → (joined ++ before a kept ≡ all) × (behind a kept ≡ left)
dropped_one a e joined kept all left low same all_is left_is =
    let g = goes_on a e kept low in
    let one : before a (e ∷ kept) ≡ before a kept = g.0 ∙ rw same refl in
    (ap (λ (w : List Tracked). joined ++ w) (sym one) ∙ all_is, sym g.1 ∙ left_is)

-- a turn of the loop over an index's own entries: one with a path is put in, one without is passed over
pub put_one : (a : Tracked) (joined kept own moved left all : List Tracked) → eqb (length a.path) 0 ≡ false → moved ≡ joined ++ before a kept → left ≡ behind a kept → joined ++ put_in kept (named_in (a ∷ own)) ≡ all
    → (moved ++ a ∷ []) ++ put_in left (named_in own) ≡ all
unfolding named_in
put_one a joined kept own moved left all some moved_is left_is so_far =
    let named : named_in (a ∷ own) ≡ a ∷ named_in own = rw some refl in
    let one : joined ++ (before a kept ++ a ∷ put_in (behind a kept) (named_in own)) ≡ all = ap (λ (w : List Tracked). joined ++ put_in kept w) (sym named) ∙ so_far in
    rw (moved_is, left_is) (append_assoc (joined ++ before a kept) (a ∷ []) (put_in (behind a kept) (named_in own)) ∙ append_assoc joined (before a kept) (a ∷ put_in (behind a kept) (named_in own)) ∙ one)

pub passed_one : (a : Tracked) (joined kept own all : List Tracked) → eqb (length a.path) 0 ≡ true → joined ++ put_in kept (named_in (a ∷ own)) ≡ all → joined ++ put_in kept (named_in own) ≡ all
unfolding named_in
passed_one a joined kept own all none so_far = let named : named_in (a ∷ own) ≡ named_in own = rw none refl in ap (λ (w : List Tracked). joined ++ put_in kept w) (sym named) ∙ so_far

pub put_end : (joined kept all : List Tracked) (own : List Entry) → length own ≡ 0 → joined ++ put_in kept (named_in (map tracked own)) ≡ all → joined ++ kept ≡ all
unfolding named_in
put_end joined kept all [] none so_far = so_far
put_end joined kept all (e ∷ own) none so_far = absurd (omega arith)
