use Rattle.std.proofs.Common.{◌≡◌, ◌∙◌, length, ap, arith, inl}
use Rattle.std.proofs.lemmas.Result.{err_from_is_err_and}
use Rattle.git_index.proofs.lemmas.Links.{is_read, link_refused, link_stands}
use Rattle.git_index.proofs.link.link_at_stop.Goals as goal

pub returns-in_err-hash-clause-only : goal.returns-in_err-hash-clause-only
returns-in_err-hash-clause-only c = λ link holds.
    let p = err_from_is_err_and c.from_residual.result c.from_residual.ensures.1 in
    rw p.1 (p.2 ∙ link_refused c.args.hash_len link c.args.bytes.now c.in_err-hash.field-0.0 c.if-bytes-lt-HEAD_LEN.false c.in_err-hash.ensures holds)

pub returns-in_err-few-clause-only : goal.returns-in_err-few-clause-only
returns-in_err-few-clause-only c = λ link holds.
    let p = err_from_is_err_and c.from_residual-in_err-few.result c.from_residual-in_err-few.ensures.1 in
    let r = is_read c.args.hash_len link c.args.bytes.now ((c.in_ok-hash.hash.now, c.in_ok-hash.bitmaps.now), c.in_ok-hash.behind.now) c.if-bytes-lt-HEAD_LEN.false c.in_ok-hash.ensures holds in
    rw p.1 (p.2 ∙ c.in_err-few.ensures.only r.few r.passed (inl r.short))

pub returns-then-few-ge-HEAD_LEN-clause-only : goal.returns-then-few-ge-HEAD_LEN-clause-only
returns-then-few-ge-HEAD_LEN-clause-only c = λ link holds.
    let r = is_read c.args.hash_len link c.args.bytes.now ((c.in_ok-hash.hash.now, c.in_ok-hash.bitmaps.now), c.in_ok-hash.behind.now) c.if-bytes-lt-HEAD_LEN.false c.in_ok-hash.ensures holds in
    let same : c.in_ok-few.few.now ≡ r.few = c.in_ok-few.ensures.only r.few r.passed (inl r.short) in
    absurd (omega (arith, r.short, ap length same, c.if-few-ge-HEAD_LEN.true))

pub returns-clause-found : goal.returns-clause-found
returns-clause-found c =
    link_stands c.args.hash_len c.args.bytes.now c.in_ok-few.few.now ((c.in_ok-hash.hash.now, c.in_ok-hash.bitmaps.now), c.in_ok-hash.behind.now) (λ i. omega (arith, c.type_inv.bytes i)) c.if-bytes-lt-HEAD_LEN.false c.requires c.in_ok-hash.ensures
    c.in_ok-few.ensures.found.0 c.if-few-ge-HEAD_LEN.false

pub returns-clause-only : goal.returns-clause-only
returns-clause-only c = λ link holds.
    let r = is_read c.args.hash_len link c.args.bytes.now ((c.in_ok-hash.hash.now, c.in_ok-hash.bitmaps.now), c.in_ok-hash.behind.now) c.if-bytes-lt-HEAD_LEN.false c.in_ok-hash.ensures holds in
    r.is
