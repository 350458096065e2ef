use Rattle.std.proofs.Common.{◌≡◌, ◌∙◌, true, arith}
use Rattle.std.proofs.lemmas.Result.{err_from_is_err_and}
use Rattle.git_index.specs.Private.Reading.{Ends}
use Rattle.git_index.proofs.lemmas.Extensions.{is_refused, is_shorter, passes_back, passes_on, rest_fits, stops_here}
use Rattle.git_index.proofs.extensions.skip_extensions.Goals as goal

pub loop-rest-init : goal.loop-rest-init
loop-rest-init c = record { fits = λ i. omega (arith, c.type_inv.bytes i); on = λ end h. h; back = λ end ends h. h }

pub returns-in_err-rest-clause-only : goal.returns-in_err-rest-clause-only
returns-in_err-rest-clause-only c = λ end passed ends.
    let p = err_from_is_err_and c.from_residual.result c.from_residual.ensures.1 in
    let no : ¬ Ends c.loop-rest.rest.now = λ h. let yes : c.is_end.result ≡ true = c.is_end.ensures.1 h in absurd cc in
    rw p.1 (p.2 ∙ is_refused c.loop-rest.rest.now end c.in_err-rest.field-0.0 c.loop-rest.invariant.fits no c.in_err-rest.ensures ends (c.loop-rest.invariant.back end ends passed))

pub loop-rest-smaller : goal.loop-rest-smaller
loop-rest-smaller c = is_shorter c.loop-rest.rest.now c.in_ok-rest.rest.now c.loop-rest.invariant.fits c.in_ok-rest.ensures

pub loop-rest-preserved : goal.loop-rest-preserved
loop-rest-preserved c =
    let no : ¬ Ends c.loop-rest.rest.now = λ h. let yes : c.is_end.result ≡ true = c.is_end.ensures.1 h in absurd cc in
    record {
      fits = rest_fits c.loop-rest.rest.now c.in_ok-rest.rest.now c.loop-rest.invariant.fits c.in_ok-rest.ensures;
      on = λ end h. c.loop-rest.invariant.on end (passes_on c.loop-rest.rest.now c.in_ok-rest.rest.now end c.loop-rest.invariant.fits c.in_ok-rest.ensures h);
      back = λ end ends h. passes_back c.loop-rest.rest.now c.in_ok-rest.rest.now end c.loop-rest.invariant.fits no c.in_ok-rest.ensures ends (c.loop-rest.invariant.back end ends h);
    }

pub returns-clause-only : goal.returns-clause-only
returns-clause-only c = λ end passed ends. stops_here c.loop-rest.rest.now end (c.is_end.ensures.0 c.loop-rest-test.false) (c.loop-rest.invariant.back end ends passed)
