-- It has the key, and none behind it.
use Rattle.std.proofs.Common.{◌≡◌, sym, ◌∙◌}
use Rattle.git_config.specs.Configuration.{seen_setting}
use Rattle.git_config.proofs.lemmas.LastLemmas.{last_at}
use Rattle.git_config.proofs.config.Config.last_place.Goals as goal

pub returns-then-is_key : goal.returns-then-is_key
returns-then-is_key c =
    last_at c.args.key.now c.args.self.now c.places.left (seen_setting c.at-setting.result) c.places-test.true c.places.invariant.within c.at-setting.ensures c.places.invariant.none (sym c.is_key.ensures ∙ c.if-is_key.true)
