-- The first list that has lines is that of the first line.
use Rattle.std.proofs.Common.{◌∙◌, ap, map, slice_index_or, sym, arith}
use Rattle.gix_glob_c.specs.Parsed.{reading_of_all}
use Rattle.gix_glob_c.specs.declared.attribute_file.GlobAttributeLine.{GlobAttributeLine}
use Rattle.gix_glob_c.specs.declared.attributes.GlobAttributeList.{GlobAttributeList}
use Rattle.gix_glob_c.proofs.lemmas.FindingLemmas.{blank_attributes, blank_line}
use Rattle.gix_glob_c.proofs.lemmas.FirstLemmas.{begins_so, first_given}
use Rattle.gix_glob_c.proofs.attributes.reading_of_lines.Goals as goal

pub returns-in-len1-up : goal.returns-in-len1-up
returns-in-len1-up c =
    let list = slice_index_or c.args.lists.now c.loop-i.i blank_attributes in
    let first = begins_so list.lines.now blank_line c.in-len1-up.len_at_least in
    let all = first_given (λ (list : GlobAttributeList). map (λ (line : GlobAttributeLine). line.pattern) list.lines.now) c.args.lists.now c.loop-i.i c.loop-i.invariant blank_attributes (omega (arith, c.loop-i-test.true))
    _ _ (ap (map (λ (line : GlobAttributeLine). line.pattern)) first.1) in
    c.reading.ensures ∙ ap reading_of_all (sym all.1)
