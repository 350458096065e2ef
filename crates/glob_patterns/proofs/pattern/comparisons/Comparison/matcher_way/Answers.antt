-- Where the text doesn't begin with two stars and the value has no slash, plain mode splits alike.
use Rattle.std.proofs.Common.{◌≡◌, false, sym, ◌∙◌, ap}
use Rattle.std.proofs.lemmas.Bool.{false≢true}
use Rattle.glob_matcher.proofs.lemmas.reading.WayLemmas.{folding_with}
use Rattle.glob_matcher.specs.Bytes.{folding, has_slash}
use Rattle.glob_patterns.proofs.pattern.comparisons.Comparison.matcher_way.Goals as goal

pub returns-clause-same : goal.returns-clause-same
returns-clause-same g c =
    let bare : has_slash g.M.Texts.value ≡ false = c.self.invariant.1 c.if-not-self.false in
    let case : folding c.in_plain_mode.result ≡ folding g.M.Texts.way =
    ap folding c.in_plain_mode.ensures ∙ folding_with false _ ∙ ap folding c.self-3.invariant.0 in
    c.no_slash_is_special_in_ways_that_fold_alike.ensures.one_star c.in_plain_mode.result g.M.Texts.way g.M.Texts.pattern g.M.Texts.value case bare
    (λ both. false≢true (sym c.if-begins_with_two_stars.false ∙ c.begins_with_two_stars.ensures.exact.1 both))
