use Rattle.std.proofs.Common.{◌≡◌, ◌∙◌, List, ℕ, true, map, sym, subst, arith}
use Rattle.std.proofs.lemmas.Result.{err_from_is_err_and}
use Rattle.git_index.specs.declared.entry.Entry.{Entry}
use Rattle.git_index.specs.Entries.{InOrder, Tracked, tracked}
use Rattle.git_index.specs.Format.{HasNoLink}
use Rattle.git_index.proofs.lemmas.FileLaws.{file_is_found, found_is_file}
use Rattle.git_index.proofs.lemmas.Links.{none_has, some_has}
use Rattle.git_index.proofs.file.whole.Goals as goal

pub returns-in_err-entries-clause-only : goal.returns-in_err-entries-clause-only
returns-in_err-entries-clause-only c = λ es file room.
    let p = err_from_is_err_and c.from_residual.result c.from_residual.ensures.1 in
    rw p.1 (p.2 ∙ c.in_err-entries.ensures.only es file.extensions (file_is_found c.args.format c.args.bytes.now es file.extensions (λ i. omega (arith, c.type_inv.bytes i)) file.spelled room))

pub returns-in_err-link_among-clause-only : goal.returns-in_err-link_among-clause-only
returns-in_err-link_among-clause-only c = λ es file room.
    let p = err_from_is_err_and c.from_residual-in_err-link_among.result c.from_residual-in_err-link_among.ensures.1 in
    let same = c.in_ok-entries.ensures.only es file.extensions (file_is_found c.args.format c.args.bytes.now es file.extensions (λ i. omega (arith, c.type_inv.bytes i)) file.spelled room) in
    rw p.1 (p.2 ∙ c.in_err-link_among.ensures.none (subst (λ (w : List ℕ). HasNoLink c.args.format w) (sym same.1) file.whole))

pub returns-then-is_some-clause-only : goal.returns-then-is_some-clause-only
returns-then-is_some-clause-only c = λ es file room.
    let same = c.in_ok-entries.ensures.only es file.extensions (file_is_found c.args.format c.args.bytes.now es file.extensions (λ i. omega (arith, c.type_inv.bytes i)) file.spelled room) in
    let none = c.in_ok-link_among.ensures.none (subst (λ (w : List ℕ). HasNoLink c.args.format w) (sym same.1) file.whole) in
    absurd (some_has c.in_ok-link_among.field-0 (Unit {0}) none (sym c.is_some.ensures ∙ c.if-is_some.true))

pub returns-then-not-is_ordered-clause-only : goal.returns-then-not-is_ordered-clause-only
returns-then-not-is_ordered-clause-only c = λ es file room.
    let same = c.in_ok-entries.ensures.only es file.extensions (file_is_found c.args.format c.args.bytes.now es file.extensions (λ i. omega (arith, c.type_inv.bytes i)) file.spelled room) in
    let ordered = subst (λ (w : List Entry). InOrder (map tracked w)) (sym c.deref.ensures.value) (subst (λ (w : List Tracked). InOrder w) (sym same.0) file.ordered) in
    let is : c.is_ordered.result ≡ true = c.is_ordered.ensures.1 ordered in
    absurd cc

pub returns-clause-found : goal.returns-clause-found
returns-clause-found c = record {
  extensions = c.in_ok-entries.extensions.now;
  spelled = found_is_file c.args.format c.args.bytes.now (map tracked c.in_ok-entries.entries.items) c.in_ok-entries.extensions.now (λ i. omega (arith, c.type_inv.bytes i)) c.in_ok-entries.ensures.found;
  whole = none_has c.in_ok-link_among.field-0 (HasNoLink c.args.format c.in_ok-entries.extensions.now) _ c.in_ok-link_among.ensures.found (sym c.is_some.ensures ∙ c.if-is_some.false);
  ordered = subst (λ (w : List Entry). InOrder (map tracked w)) c.deref.ensures.value (c.is_ordered.ensures.0 c.if-not-is_ordered.false);
}

pub returns-clause-only : goal.returns-clause-only
returns-clause-only c = λ es file room. (c.in_ok-entries.ensures.only es file.extensions (file_is_found c.args.format c.args.bytes.now es file.extensions (λ i. omega (arith, c.type_inv.bytes i)) file.spelled room)).0
