use Rattle.std.proofs.Common.{◌≡◌, ◌<◌, length, arith, refl, sym, eq-eqb, eqb-true}
use Rattle.glob_matcher.proofs.lemmas.cutting.CutLemmas.{end_in, end_out}
use Rattle.glob_matcher.proofs.lemmas.cutting.Engines.{star_in, star_out, byte_in, byte_out}
use Rattle.glob_matcher.proofs.wildmatch.plain.+splits_from.Goals as goal

pub returns-then-place-pattern : goal.returns-then-place-pattern
returns-then-place-pattern t c = (
  λ yes.
      let same : c.args.at ≡ length c.args.value.now = eqb-true c.args.at (length c.args.value.now) yes in
      end_in c.args.way c.args.pattern.now c.args.value.now c.args.place c.args.at c.if-place-pattern.true (omega arith),
  λ all.
      let past = end_out c.args.way c.args.pattern.now c.args.value.now c.args.place c.args.at c.if-place-pattern.true all in
      eq-eqb c.args.at (length c.args.value.now) (omega arith),
)

pub returns-then-splits_from : goal.returns-then-splits_from
returns-then-splits_from t c = (
  λ yes.
      star_in c.token_at-token.ensures c.ends.auto.end (omega arith) (c.if-spans.ensures.0 refl)
      (c.if-splits_from.ensures.0 refl),
  λ all. refl,
)

pub returns-then-is_star : goal.returns-then-is_star
returns-then-is_star t c = (
  λ yes. cc,
  λ all.
      let out = star_out c.token_at-token.ensures (sym c.if-is_star.ensures) c.requires.at all in
      absurd (c.ends.invariant out.0 out.1 (omega (arith, out.2)) out.3 out.4),
)

pub returns-then-at-value : goal.returns-then-at-value
returns-then-at-value t c = (
  λ yes. cc,
  λ all.
      let out = byte_out c.args.way c.args.pattern.now c.args.value.now c.args.place c.token_at-token.result.kind
      c.token_at-token.result.end c.args.at c.token_at-token.ensures (sym c.if-is_star.ensures) c.requires.at all in
      absurd (omega (arith, out.0)),
)

pub returns-then-not-fits_at : goal.returns-then-not-fits_at
returns-then-not-fits_at t c = (
  λ yes. cc,
  λ all.
      let x = c.token_at-token.ensures in
      let out = byte_out c.args.way c.args.pattern.now c.args.value.now c.args.place c.token_at-token.result.kind
      c.token_at-token.result.end c.args.at x (sym c.if-is_star.ensures) c.requires.at all in
      (c.if-not-fits_at.ensures x.token c.token_at-token.result.end x.here x.same_kind).1 out.1,
)

pub returns : goal.returns
returns t c =
    let x = c.token_at-token.ensures in
    let inside : c.args.at < length c.args.value.now = omega arith in
    let fits = (c.if-not-fits_at.ensures x.token c.token_at-token.result.end x.here x.same_kind).0 refl in (
      λ yes.
          byte_in c.args.way c.args.pattern.now c.args.value.now c.args.place c.token_at-token.result.kind
          c.token_at-token.result.end c.args.at x inside fits (c.splits_from-2.ensures.0 yes),
      λ all.
          let out = byte_out c.args.way c.args.pattern.now c.args.value.now c.args.place c.token_at-token.result.kind
          c.token_at-token.result.end c.args.at x (sym c.if-is_star.ensures) c.requires.at all in
          c.splits_from-2.ensures.1 out.2,
    )
