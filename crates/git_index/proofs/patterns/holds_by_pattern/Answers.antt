use Rattle.std.proofs.Common.{◌≡◌, [], ap, length, map, sym, ◌∙◌}
use Rattle.std.proofs.lemmas.Bool.{eqb-false}
use Rattle.git_index.specs.Entries.{tracked}
use Rattle.git_index.proofs.lemmas.Holding.{fits_held, held_fits}
use Rattle.git_index.proofs.patterns.holds_by_pattern.Goals as goal

pub returns-then-not-is_empty : goal.returns-then-not-is_empty
returns-then-not-is_empty c =
    let front = c.split.result.0.now in
    let pattern = c.split.result.1.now in
    let some : pattern ≡ [] → ⊥ = λ none. eqb-false _ _ (sym c.is_empty.ensures ∙ c.if-not-is_empty.true) (ap length none) in (
      λ yes. held_fits (map tracked c.args.entries.now) c.args.asked.now front pattern c.args.literal c.split.ensures.front c.split.ensures.joined some (c.is_fitted.ensures.0 yes),
      λ held. c.is_fitted.ensures.1 (fits_held (map tracked c.args.entries.now) c.args.asked.now front pattern c.args.literal c.split.ensures.front c.split.ensures.joined held),
    )
