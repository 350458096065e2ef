use Rattle.std.proofs.Common.{◌≡◌, ◌∙◌, List, ℕ, Option, sym, subst, arith}
use Rattle.std.specs.Prelude.{MatchOption}
use Rattle.std.proofs.lemmas.Result.{err_from_is_err_and}
use Rattle.git_index.specs.declared.link.Link.{Link}
use Rattle.git_index.specs.Format.{HasLink}
use Rattle.git_index.proofs.lemmas.FileLaws.{file_is_found}
use Rattle.git_index.proofs.index.Index.shared_hash.Goals as goal

pub returns-in_err-_entries : goal.returns-in_err-_entries
returns-in_err-_entries c = λ shared es split room.
    let p = err_from_is_err_and c.from_residual.result c.from_residual.ensures.1 in
    rw p.1 (p.2 ∙ c.in_err-_entries.ensures.only split.own split.extensions (file_is_found c.args.format c.args.bytes.now split.own split.extensions (λ i. omega (arith, c.type_inv.bytes i)) split.spelled room))

pub returns-in_err-link : goal.returns-in_err-link
returns-in_err-link c = λ shared es split room.
    let p = err_from_is_err_and c.from_residual-in_err-link.result c.from_residual-in_err-link.ensures.1 in
    let same = c.in_ok-_entries.ensures.only split.own split.extensions (file_is_found c.args.format c.args.bytes.now split.own split.extensions (λ i. omega (arith, c.type_inv.bytes i)) split.spelled room) in
    rw p.1 (p.2 ∙ c.in_err-link.ensures.some split.hash split.bitmaps (subst (λ (w : List ℕ). HasLink c.args.format split.hash split.bitmaps w) (sym same.1) split.link.0) split.link.1)

pub returns-in-Some : goal.returns-in-Some
returns-in-Some c = λ shared es split room.
    let same = c.in_ok-_entries.ensures.only split.own split.extensions (file_is_found c.args.format c.args.bytes.now split.own split.extensions (λ i. omega (arith, c.type_inv.bytes i)) split.spelled room) in
    (subst (λ (o : Option Link). MatchOption o ⊥ (λ x. (x.hash.now ≡ split.hash) × (x.bitmaps.now ≡ split.bitmaps))) c.in-Some.is (c.in_ok-link.ensures.some split.hash split.bitmaps (subst (λ (w : List ℕ). HasLink c.args.format split.hash split.bitmaps w) (sym same.1) split.link.0) split.link.1)).0

pub returns : goal.returns
returns c = λ shared es split room.
    let same = c.in_ok-_entries.ensures.only split.own split.extensions (file_is_found c.args.format c.args.bytes.now split.own split.extensions (λ i. omega (arith, c.type_inv.bytes i)) split.spelled room) in
    subst (λ (o : Option Link). MatchOption o ⊥ (λ x. (x.hash.now ≡ split.hash) × (x.bitmaps.now ≡ split.bitmaps))) c.in-None.is (c.in_ok-link.ensures.some split.hash split.bitmaps (subst (λ (w : List ℕ). HasLink c.args.format split.hash split.bitmaps w) (sym same.1) split.link.0) split.link.1)
