use Rattle.std.proofs.Common.{◌≡◌, ◌-◌, ◌<◌, ℕ, true, false, List, None, Some, length, map, sym, ap, subst, ◌∙◌, arith}
use Rattle.std.specs.List.{last_or}
use Rattle.std.specs.Prelude.{slice_get}
use Rattle.std.specs.Ordering.{is_eq, is_ne}
use Rattle.git_index.specs.declared.entry.Entry.{Entry}
use Rattle.git_index.specs.Entries.{tracked}
use Rattle.git_index.specs.Private.Search.{IsFirstFrom, path_at}
use Rattle.git_index.specs.Folding.{alike, folded}
use Rattle.git_index.specs.Private.Folds.{bare}
use Rattle.git_index.proofs.lemmas.Folding.{cmp, folded_zero}
use Rattle.git_index.proofs.lemmas.Sorted.{entry_here, last_before, last_of_none, length_same, none_apart, none_at_all, path_here, same_kind, tell_apart, tell_equal}
use Rattle.git_index.proofs.sorted.last_kind.Goals as goal

pub returns-then-behind-eq0 : goal.returns-then-behind-eq0
returns-then-behind-eq0 c =
    let entries = map tracked c.args.sorted.now in
    let path = c.args.path.now in
    let behind = c.first_from-behind.result in
    let found = subst (λ (w : List ℕ). IsFirstFrom (map bare entries) w behind) (folded_zero path) c.first_from-behind.ensures in
    sym (last_of_none (none_at_all entries path behind found c.if-behind-eq0.true))

pub returns-then-is_ne : goal.returns-then-is_ne
returns-then-is_ne c =
    let entries = map tracked c.args.sorted.now in
    let path = c.args.path.now in
    let behind = c.first_from-behind.result in
    let found = subst (λ (w : List ℕ). IsFirstFrom (map bare entries) w behind) (folded_zero path) c.first_from-behind.ensures in
    let at : path_at (map bare entries) (behind - 1) ≡ folded c.deref.result.now = path_here c.args.sorted.now (behind - 1) c.index-sorted-behind.result (omega (arith, found.within, length_same c.args.sorted.now)) ∙ ap (λ (x : Entry). folded x.path) (sym c.index-sorted-behind.is) ∙ ap folded (sym c.deref.ensures.value) in
    let apart : is_eq (cmp (path_at (map bare entries) (behind - 1)) (folded path)) ≡ false = ap (λ (w : List ℕ). is_eq (cmp w (folded path))) at ∙ tell_apart (cmp (folded c.deref.result.now) (folded path)) (sym (ap is_ne c.compare.ensures) ∙ sym c.is_ne.ensures ∙ c.if-is_ne.true) in
    sym (last_of_none (none_apart entries path behind found c.requires (behind - 1) (omega arith) apart))

pub returns : goal.returns
returns c =
    let entries = map tracked c.args.sorted.now in
    let path = c.args.path.now in
    let behind = c.first_from-behind.result in
    let found = subst (λ (w : List ℕ). IsFirstFrom (map bare entries) w behind) (folded_zero path) c.first_from-behind.ensures in
    let lt : behind - 1 < length c.args.sorted.now = omega (arith, found.within, length_same c.args.sorted.now) in
    let at : path_at (map bare entries) (behind - 1) ≡ folded c.deref.result.now = path_here c.args.sorted.now (behind - 1) c.index-sorted-behind.result lt ∙ ap (λ (x : Entry). folded x.path) (sym c.index-sorted-behind.is) ∙ ap folded (sym c.deref.ensures.value) in
    let same : is_eq (cmp (path_at (map bare entries) (behind - 1)) (folded path)) ≡ true = ap (λ (w : List ℕ). is_eq (cmp w (folded path))) at ∙ tell_equal (cmp (folded c.deref.result.now) (folded path)) (sym (ap is_ne c.compare.ensures) ∙ sym c.is_ne.ensures ∙ c.if-is_ne.false) in
    let last = last_before entries path behind found (behind - 1) (omega arith) same in
    let here : slice_get entries (behind - 1) ≡ Some (tracked c.index-sorted-behind.result) = entry_here c.args.sorted.now (behind - 1) c.index-sorted-behind.result lt ∙ ap (λ (x : Entry). Some (tracked x)) (sym c.index-sorted-behind.is) in
    same_kind entries (behind - 1) last.0 (tracked c.index-sorted-behind.result) (last_or None (alike entries path)) last.1 here last.2
