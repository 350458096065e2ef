-- The pairs are gone through from the last one.
use Rattle.std.proofs.Common.{◌≡◌, ⊎_elim, ℕ, ◌-◌, ◌<◌, ◌≤◌, length, Some, sym, ap, subst, ◌∙◌, arith, rules}
use borrow.Author.Tests.{tests}
use Rattle.std.specs.Prelude.{slice_get}
use Rattle.std.proofs.Math.ListN.{get_or}
use Rattle.std.proofs.lemmas.Bool.{cases_lt}
use Rattle.std.proofs.lemmas.Option.{same_Some, slice_get-get_or}
use Rattle.glob_lint.proofs.lemmas.Held.{same_pair}
use Rattle.glob_lint.proofs.trying.last_but.Goals as goal

pub returns-then-by-pair : goal.returns-then-by-pair
returns-then-by-pair c =
    let at = c.found.at - 1 in
    let within : at < length c.args.found.now = omega arith in
    let by = get_or c.args.found.now at (0, 0) in
    record {
      place = at;
      at = slice_get-get_or c.args.found.now at (0, 0) within;
      other = λ same.
          ⊎_elim (λ list. list (ap (λ (q : ℕ × ℕ). q.0) same)) (λ place. place.1 (ap (λ (q : ℕ × ℕ). q.1) same)) c.then-by-pair.either;
      behind = λ x other more there. c.found.invariant x other (omega arith) there;
    }

pub found-preserved : goal.found-preserved
found-preserved c = λ x by low there.
    let at = c.found.at - 1 in
    let within : at < length c.args.found.now = omega arith in
    let here = get_or c.args.found.now at (0, 0) in
    let list : here.0 ≡ c.args.pair.0 = search (rules, tests) in
    let place : here.1 ≡ c.args.pair.1 = search (rules, tests) in
    ⊎_elim
    (λ (up : x < c.found.at).
    let level : at ≡ x = omega arith in
    let is : here ≡ by = same_Some here by (sym (slice_get-get_or c.args.found.now at (0, 0) within) ∙ subst (λ y. slice_get c.args.found.now y ≡ Some by) (sym level) there) in
    sym is ∙ same_pair here c.args.pair list place)
    (λ (more : c.found.at ≤ x). c.found.invariant x by more there)
    (cases_lt x c.found.at)
