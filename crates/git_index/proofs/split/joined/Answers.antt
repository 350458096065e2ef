use Rattle.std.proofs.Common.{◌≡◌, ◌∙◌, ◌≤◌, List, Bool, true, false, length, map, take, sym, ap, arith, inr}
use Rattle.std.specs.Prelude.{count_by}
use Rattle.std.proofs.lemmas.List.{length-map, length-take, take-map}
use Rattle.std.proofs.lemmas.Result.{err_from_is_err_and}
use Rattle.git_index.specs.declared.entry.Entry.{Entry}
use Rattle.git_index.specs.Entries.{Tracked, tracked}
use Rattle.git_index.specs.Private.Reading.{are_replacements}
use Rattle.git_index.specs.Split.{replaced_by, unmarked}
use Rattle.git_index.proofs.lemmas.Joined.{bytes_stand_behind, deletions_fail, joined_is, names_differ, replacements_fail}
use Rattle.git_index.proofs.split.joined.Goals as goal

pub returns-in_err-deleted : goal.returns-in_err-deleted
returns-in_err-deleted c =
    let p = err_from_is_err_and c.from_residual.result c.from_residual.ensures.1 in
    rw (p.1, p.2) (deletions_fail (map tracked c.args.shared.items) (map tracked c.args.own.items) c.args.bitmaps.now c.len-places.result c.in_err-deleted.field-0.0 (omega (arith, c.args.shared.ok.0, length-map c.args.shared.items tracked)) c.in_err-deleted.ensures)

pub returns-in_err-replaced : goal.returns-in_err-replaced
returns-in_err-replaced c =
    let p = err_from_is_err_and c.from_residual-in_err-replaced.result c.from_residual-in_err-replaced.ensures.1 in
    rw (p.1, p.2) (replacements_fail (map tracked c.args.shared.items) (map tracked c.args.own.items) c.args.bitmaps.now c.len-places.result (c.in_ok-deleted.deleted.items, c.in_ok-deleted.rest.now) c.in_err-replaced.field-0.0 (omega (arith, c.args.shared.ok.0, length-map c.args.shared.items tracked)) c.in_ok-deleted.ensures c.in_err-replaced.ensures)

pub returns-then-not-is_empty : goal.returns-then-not-is_empty
returns-then-not-is_empty c =
    inr (bytes_stand_behind (map tracked c.args.shared.items) (map tracked c.args.own.items) c.args.bitmaps.now c.len-places.result (c.in_ok-deleted.deleted.items, c.in_ok-deleted.rest.now) (c.in_ok-replaced.replaced.items, c.in_ok-replaced.behind.now) (omega (arith, c.args.shared.ok.0, length-map c.args.shared.items tracked)) c.in_ok-deleted.ensures c.in_ok-replaced.ensures (sym c.is_empty.ensures ∙ c.if-not-is_empty.true))

pub returns-then-not-are_replacements : goal.returns-then-not-are_replacements
returns-then-not-are_replacements c =
    let unlike : are_replacements (map tracked c.args.own.items) c.marked-count.result ≡ false =
    ap (λ (w : List Entry). are_replacements (map tracked w) c.marked-count.result) (sym c.deref-2.ensures.value) ∙ sym c.are_replacements.ensures.are ∙ c.if-not-are_replacements.true in
    inr (names_differ (map tracked c.args.shared.items) (map tracked c.args.own.items) c.args.bitmaps.now c.len-places.result c.marked-count.result (c.in_ok-deleted.deleted.items, c.in_ok-deleted.rest.now) (c.in_ok-replaced.replaced.items, c.in_ok-replaced.behind.now) (omega (arith, c.args.shared.ok.0, length-map c.args.shared.items tracked)) c.in_ok-deleted.ensures c.in_ok-replaced.ensures (sym c.is_empty.ensures ∙ c.if-not-is_empty.false) (c.marked-count.ensures ∙ ap (λ (w : List Bool). count_by (λ mark. mark) w) c.deref.ensures.value) unlike)

pub slice_bounds-kept-end : goal.slice_bounds-kept-end
slice_bounds-kept-end c =
    let fit : c.marked-count.result ≤ length c.deref-2.result.now = c.are_replacements.ensures.fit c.if-not-are_replacements.false in
    let own : length c.deref-3.result.now ≡ length c.deref-2.result.now = ap length (c.deref-3.ensures.value ∙ sym c.deref-2.ensures.value) in
    omega (arith, fit, own, length-take c.marked-count.result c.deref-3.result.now)

pub returns : goal.returns
returns c =
    let k = c.marked-count.result in
    let shared = map tracked c.args.shared.items in
    let replaced = c.in_ok-replaced.replaced.items in
    let told : are_replacements (map tracked c.args.own.items) k ≡ true = ap (λ (w : List Entry). are_replacements (map tracked w) k) (sym c.deref-2.ensures.value) ∙ sym c.are_replacements.ensures.are ∙ c.if-not-are_replacements.false in
    let kept_is = c.in_ok-kept.ensures
    ∙ ap (λ (w : List Bool). unmarked (replaced_by shared w (map tracked (take k c.deref-3.result.now))) c.deref-5.result.now) c.deref-4.ensures.value
    ∙ ap (λ (w : List Entry). unmarked (replaced_by shared replaced (map tracked (take k w))) c.deref-5.result.now) c.deref-3.ensures.value
    ∙ ap (λ (w : List Tracked). unmarked (replaced_by shared replaced w) c.deref-5.result.now) (sym (take-map tracked k c.args.own.items))
    ∙ ap (λ (w : List Bool). unmarked (replaced_by shared replaced (take k (map tracked c.args.own.items))) w) c.deref-5.ensures.value in
    joined_is shared (map tracked c.args.own.items) c.args.bitmaps.now c.len-places.result k (c.in_ok-deleted.deleted.items, c.in_ok-deleted.rest.now) (c.in_ok-replaced.replaced.items, c.in_ok-replaced.behind.now) (map tracked c.in_ok-kept.kept.items) (map tracked c.in_ok-entries.entries.items) (omega (arith, c.args.shared.ok.0, length-map c.args.shared.items tracked)) c.in_ok-deleted.ensures c.in_ok-replaced.ensures
    (sym c.is_empty.ensures ∙ c.if-not-is_empty.false) (c.marked-count.ensures ∙ ap (λ (w : List Bool). count_by (λ mark. mark) w) c.deref.ensures.value) told kept_is c.in_ok-entries.ensures
