-- Each piece between slashes is asked.
use Rattle.std.proofs.Common.{rules, ◌==◌}
use Rattle.std.proofs.lemmas.Iterator.Search.{all_from_yields_List}
use Rattle.std.proofs.lemmas.Iterator.Splits.{YieldsList-from_slice_split}
use borrow.Author.Tests.{tests}
use Rattle.glob_matcher.specs.Bytes.{slash}
use Rattle.glob_lint.specs.Lines.{is_part}
use Rattle.glob_lint.proofs.real.has_real_parts.Goals as goal

pub returns : goal.returns
returns c =
    all_from_yields_List is_part _ _ _ c.all.ensures.ran
    (YieldsList-from_slice_split _ (λ b. b == slash) c.args.path.now c.split.ensures.rest c.split.ensures.done c.split.ensures.closure (λ x b q k. search (rules, tests)))
    (λ x b q k. search (rules, tests))
