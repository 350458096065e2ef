-- The URLs are known.
use Rattle.std.proofs.Common.{sym, subst, List, ℕ, Vec, Global, Option}
use Rattle.std.specs.Prelude.{◌↔◌, Any, IsTrue, MatchOption}
use Rattle.glob_matcher.specs.declared.wildmatch.way.Way.TheVariants.{Path}
use Rattle.glob_matcher.specs.Matching.{SplitsBy}
use Rattle.git_config.proofs.conditions.has_url.Goals as goal

pub returns-in-Some : goal.returns-in-Some
returns-in-Some c =
    let among = subst (λ (urls : List (Vec ℕ Global)). IsTrue c.is_among.result ↔ Any (λ url. SplitsBy url.items c.args.told.now Path) urls) c.deref.ensures.value c.is_among.ensures in
    subst
    (λ (known : Option (Vec (Vec ℕ Global) Global)). IsTrue c.is_among.result ↔ MatchOption known (Unit {0}) (λ urls. Any (λ url. SplitsBy url.items c.args.told.now Path) urls.items))
    (sym c.in-Some.is) among
