-- This URL matches.
use Rattle.std.proofs.Common.{◌≡◌, refl, sym, subst, slice_index_or}
use Rattle.glob_matcher.specs.declared.wildmatch.way.Way.TheVariants.{Path}
use Rattle.glob_matcher.specs.Matching.{SplitsBy}
use Rattle.git_config.proofs.conditions.is_among.Goals as goal

pub returns-then-matches : goal.returns-then-matches
returns-then-matches c =
    let is : slice_index_or c.args.urls.now c.loop-url.url-index c.url-item.result ≡ c.url-item.result = sym c.url-item.is in
    let matches = subst (λ l. SplitsBy l c.args.told.now Path) c.deref.ensures.value (c.matches.ensures.0 c.if-matches.true) in
    (λ _. (c.loop-url.url-index, c.url-item.result, c.loop-url-test.true, is, matches), λ _. refl)
