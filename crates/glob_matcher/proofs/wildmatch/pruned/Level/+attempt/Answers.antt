use Rattle.std.proofs.Common.{◌≡◌, ◌≢◌, ◌⊎◌, ◌+◌, ◌≤◌, inl, inr, length, refl, arith, rules}
use Rattle.glob_matcher.specs.declared.wildmatch.pruned.Answer.{Answer}
use Rattle.glob_matcher.specs.declared.wildmatch.pruned.Answer.TheVariants.{Match, NoMatch, AbortToStarStar}
use Rattle.glob_matcher.specs.Tokens.{Free, Local, Dirs, TokenAt}
use Rattle.glob_matcher.proofs.lemmas.reading.Starts.{start_next, start_inside, boundary_next}
use Rattle.glob_matcher.proofs.lemmas.reading.TokenKinds.{is_free, is_local, is_dirs, is_nothing, is_one, dirs_boundary}
use Rattle.glob_matcher.proofs.lemmas.pruned.Alignments.{aligned_next}
use Rattle.glob_matcher.proofs.lemmas.pruned.AttemptLemmas.{end_here, value_ends, nothing_here, misses, star_here}
use Rattle.glob_matcher.proofs.lemmas.pruned.StarLemmas.{first_token, tried_next, cross_none, cross_answer, stay_more, stay_none, stay_answer, free_star, local_star, dirs_star, descent_here, descent_later}
use Rattle.glob_matcher.proofs.wildmatch.pruned.Level.+attempt.Goals as goal

-- what sends the search on is no match
not_match : (answer : Answer) → (answer ≡ NoMatch) ⊎ (answer ≡ AbortToStarStar) → answer ≢ Match
not_match answer (inl is) e = cc
not_match answer (inr is) e = cc

pub attempt-returns-in-Free : goal.attempt-returns-in-Free
attempt-returns-in-Free t c =
    let here = is_free c.token_at-token.ensures c.in-Free.is in
    star_here c.tokens.invariant (λ deep. omega arith)
    (free_star here c.tokens.invariant.value_high c.try_everywhere.ensures)

pub attempt-returns-in-Local : goal.attempt-returns-in-Local
attempt-returns-in-Local t c =
    let here = is_local c.token_at-token.ensures c.in-Local.is in
    star_here c.tokens.invariant (λ deep. omega arith)
    (local_star here c.tokens.invariant.value_high c.try_component.ensures)

pub attempt-returns-in-Dirs : goal.attempt-returns-in-Dirs
attempt-returns-in-Dirs t c =
    let here = is_dirs c.token_at-token.ensures c.in-Dirs.is in
    star_here c.tokens.invariant (λ deep. omega arith)
    (dirs_star here c.tokens.invariant.value_high (c.try_directories.ensures c.tokens.place here))

pub attempt-returns-in-Nothing : goal.attempt-returns-in-Nothing
attempt-returns-in-Nothing t c =
    let here = is_nothing c.token_at-token.ensures c.in-Nothing.is in
    nothing_here c.tokens.invariant (λ deep. omega arith)
    c.token_at-token.result.end here

pub attempt-returns-then-at-self : goal.attempt-returns-then-at-self
attempt-returns-then-at-self t c =
    let s = c.token_at-token in
    let one = is_one s.ensures c.in-Byte.is in
    value_ends c.tokens.invariant (λ deep. omega arith)
    s.ensures.token s.result.end one s.ensures.here c.if-at-self.true

pub attempt-returns-then-not-fits_at : goal.attempt-returns-then-not-fits_at
attempt-returns-then-not-fits_at t c =
    let s = c.token_at-token in
    let one = is_one s.ensures c.in-Byte.is in
    let high : c.tokens.at ≤ length c.args.self.now.value.now = c.tokens.invariant.value_high in
    let fits = c.if-not-fits_at.ensures s.ensures.token s.result.end s.ensures.here s.ensures.same_kind in
    misses c.tokens.invariant (λ deep. omega arith)
    s.ensures.token s.result.end one s.ensures.here (omega arith) (λ f. let never = fits.1 f in cc)

pub attempt-tokens-preserved : goal.attempt-tokens-preserved
attempt-tokens-preserved t c =
    let p = c.args.self.now.pattern.now in
    let s = c.token_at-token in
    let one = is_one s.ensures c.in-Byte.is in
    let high : c.tokens.at ≤ length c.args.self.now.value.now = c.tokens.invariant.value_high in
    let fits = c.if-not-fits_at.ensures s.ensures.token s.result.end s.ensures.here s.ensures.same_kind in
    aligned_next s.ensures.token s.result.end c.tokens.invariant one s.ensures.here s.ensures.past (omega arith) (fits.0 refl)

pub attempt-returns : goal.attempt-returns
attempt-returns t c =
    let p = c.args.self.now.pattern.now in
    let inside : c.tokens.place ≤ length p = start_inside c.tokens.invariant.start in
    end_here c.tokens.invariant (λ deep. omega arith) (omega arith) c.end_answer.ensures.ends c.end_answer.ensures.more

pub try_everywhere-returns-in_default-attempt : goal.try_everywhere-returns-in_default-attempt
try_everywhere-returns-in_default-attempt t c =
    let first = first_token c.requires.no_star c.first_wanted-wanted.ensures in
    cross_answer c.attempt.result c.requires.no_star c.value.invariant first c.in-Some.ensures.found c.in-Some.ensures.inside c.attempt.ensures
    c.in_default-attempt.not-NoMatch c.in_default-attempt.not-AbortToStarStar

pub try_everywhere-value-preserved : goal.try_everywhere-value-preserved
try_everywhere-value-preserved t c =
    let first = first_token c.requires.no_star c.first_wanted-wanted.ensures in
    tried_next c.value.invariant first c.in-Some.ensures.found c.in-Some.ensures.inside c.attempt.ensures
    (not_match c.attempt.result c.in-NoMatch.is)

pub try_everywhere-returns : goal.try_everywhere-returns
try_everywhere-returns t c =
    let first = first_token c.requires.no_star c.first_wanted-wanted.ensures in
    cross_none c.value.invariant first c.in_default.ensures.none

pub try_directories-returns-in-Match : goal.try_directories-returns-in-Match
try_directories-returns-in-Match t c = λ i here. descent_here here c.requires.inside (c.attempt.ensures.split c.in-Match.is)

pub try_directories-returns-in_default : goal.try_directories-returns-in_default
try_directories-returns-in_default t c = λ i here.
    let after : c.args.place ≡ here.run_end + 1 = here.after in
    descent_later here (omega arith) c.requires.inside c.attempt.ensures c.in_default.not-Match c.try_everywhere.ensures

pub try_component-returns-then-end-self : goal.try_component-returns-then-end-self
try_component-returns-then-end-self t c =
    stay_more c.if-place-self.true c.requires.inside c.component_end-end.ensures (λ e. let before = c.if-end-self.true in omega arith)

pub try_component-component-preserved : goal.try_component-component-preserved
try_component-component-preserved t c =
    let first = first_token c.requires.no_star c.first_wanted-wanted.ensures in
    tried_next c.component.invariant first c.in-Some.ensures.found c.in-Some.ensures.inside c.attempt.ensures
    (λ e. let same = c.in-NoMatch.is in cc)

pub try_component-returns-in_default-attempt : goal.try_component-returns-in_default-attempt
try_component-returns-in_default-attempt t c =
    let first = first_token c.requires.no_star c.first_wanted-wanted.ensures in
    stay_answer c.attempt.result c.requires.no_star c.component_end-end.ensures c.min-until.ensures c.component.invariant first
    c.in-Some.ensures.found c.in-Some.ensures.inside c.attempt.ensures c.in_default-attempt.not-NoMatch

pub try_component-returns : goal.try_component-returns
try_component-returns t c =
    let first = first_token c.requires.no_star c.first_wanted-wanted.ensures in
    stay_none c.component_end-end.ensures c.min-until.ensures c.component.invariant first c.in_default.ensures.none

pub attempt-try_everywhere-requires : goal.attempt-try_everywhere-requires
attempt-try_everywhere-requires t c =
    let here = is_free c.token_at-token.ensures c.in-Free.is in
    let start = start_next Free c.token_at-token.result.end c.tokens.invariant.start here in
    (search rules, (start, (here.0.whole, (c.tokens.invariant.value_high, omega arith))))

pub attempt-try_component-requires : goal.attempt-try_component-requires
attempt-try_component-requires t c =
    let here = is_local c.token_at-token.ensures c.in-Local.is in
    let start = start_next Local c.token_at-token.result.end c.tokens.invariant.start here in
    (search rules, (start, (here.0.whole, (c.tokens.invariant.value_high, omega arith))))

pub attempt-try_directories-requires : goal.attempt-try_directories-requires
attempt-try_directories-requires t c =
    let p = c.args.self.now.pattern.now in
    let s = c.token_at-token in
    let here : TokenAt c.args.self.now.way p c.tokens.place Dirs s.result.end = is_dirs s.ensures c.in-Dirs.is in (
      search rules,
      (
        (c.tokens.place, dirs_boundary c.tokens.invariant.start here, here),
        (c.tokens.invariant.value_high, omega arith),
      ),
    )

pub try_directories-attempt-requires : goal.try_directories-attempt-requires
try_directories-attempt-requires t c =
    let x = c.requires.token in (
      search rules,
      (
        record { place = inl (boundary_next Dirs c.args.place x.1 x.2) },
        (c.requires.inside, omega arith),
      ),
    )
