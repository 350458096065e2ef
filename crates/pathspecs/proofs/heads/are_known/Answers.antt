use Rattle.std.proofs.Common.{rules, ◌==◌}
use Rattle.std.proofs.lemmas.Iterator.Search.{all_from_yields_List}
use Rattle.std.proofs.lemmas.Iterator.Splits.{YieldsList-from_slice_split}
use Rattle.std.specs.Str.{byte}
use borrow.Author.Tests.{tests}
use Rattle.pathspecs.specs.Spelling.{is_known}
use Rattle.pathspecs.proofs.heads.are_known.Goals as goal

pub returns : goal.returns
returns c =
    all_from_yields_List is_known _ _ _ c.all.ensures.ran
    (YieldsList-from_slice_split _ (λ b. b == byte ",") c.args.words.now c.split.ensures.rest c.split.ensures.done c.split.ensures.closure (λ x b q k. search (rules, tests)))
    (λ x b q k. search (rules, tests))
