use Rattle.std.proofs.Common.{ap, ◌∙◌}
use Rattle.std.proofs.lemmas.Option.{get_or_from_slice_get}
use Rattle.gix_glob.specs.Patterns.{is_negative}
use Rattle.gix_glob_c.specs.declared.parsed.GlobPattern.{GlobPattern}
use Rattle.gix_glob_c.specs.Parsed.{mode_of}
use Rattle.gix_glob_c.proofs.lemmas.DecidingLemmas.{blank}
use Rattle.gix_glob_c.proofs.tree.is_negative_at.Goals as goal

pub returns : goal.returns
returns c = λ pattern here.
    c.is_negative.ensures ∙ ap (λ (p : GlobPattern). is_negative (mode_of p)) (get_or_from_slice_get c.args.patterns.now c.args.place pattern blank here)
