-- The first list that has patterns is that of the first pattern.
use Rattle.std.proofs.Common.{◌∙◌, ap, slice_index_or, sym, arith}
use Rattle.gix_glob_c.specs.Parsed.{reading_of_all}
use Rattle.gix_glob_c.specs.declared.lists.GlobList.{GlobList}
use Rattle.gix_glob_c.proofs.lemmas.DecidingLemmas.{blank}
use Rattle.gix_glob_c.proofs.lemmas.FirstLemmas.{begins_so, first_given}
use Rattle.gix_glob_c.proofs.lemmas.ListsLemmas.{blank_list}
use Rattle.gix_glob_c.proofs.tree.reading_of_lists.Goals as goal

pub returns-in-len1-up : goal.returns-in-len1-up
returns-in-len1-up c =
    let list = slice_index_or c.args.lists.now c.loop-i.i blank_list in
    let first = begins_so list.patterns.now blank c.in-len1-up.len_at_least in
    let all = first_given (λ (list : GlobList). list.patterns.now) c.args.lists.now c.loop-i.i c.loop-i.invariant blank_list (omega (arith, c.loop-i-test.true)) _ first.0 first.1 in
    c.reading.ensures ∙ ap reading_of_all (sym all.1)
