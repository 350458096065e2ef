-- The lists are gone through from the first one on.
use Rattle.std.proofs.Common.{◌≡◌, ◌+◌, ◌<◌, ◌≤◌, ◌∙◌, length, slice_index_or, take, arith}
use Rattle.std.proofs.lemmas.Bool.{false≢true}
use Rattle.std.proofs.lemmas.List.{length-map}
use Rattle.std.proofs.lemmas.List.Sums.{sum_by_more, sum_by_more_le}
use Rattle.glob_attributes.specs.Borrowed.{row_of}
use Rattle.gix_glob_c.specs.Attributes.{attribute_list, line_count}
use Rattle.gix_glob_c.specs.declared.attributes.GlobAttributeList.{GlobAttributeList}
use Rattle.gix_glob_c.proofs.lemmas.FindingLemmas.{blank_attributes, found-all, lines_at-is}
use Rattle.gix_glob_c.proofs.attributes.push_matches.Goals as goal

pub returns-in_err-count-clause-room : goal.returns-in_err-count-clause-room
returns-in_err-count-clause-room c = λ fits.
    let lists = c.args.lists.now in
    let i = c.lists.i in
    let within : i < length lists = omega (arith, c.lists-test.true) in
    let next : line_count (take i lists) + length (slice_index_or lists i blank_attributes).lines.now ≤ line_count lists =
    sum_by_more_le (λ (list : GlobAttributeList). length list.lines.now) lists i blank_attributes within in
    absurd (false≢true (c.in_err-count.ensures.room (omega (arith, fits, next, lines_at-is lists i within, c.lists.invariant.fewer, c.lists.invariant.long))))

pub lists-preserved : goal.lists-preserved
lists-preserved c =
    let lists = c.args.lists.now in
    let i = c.lists.i in
    let within : i < length lists = omega (arith, c.lists-test.true) in
    let more : line_count (take (i + 1) lists) ≡ line_count (take i lists) + length (slice_index_or lists i blank_attributes).lines.now =
    sum_by_more (λ (list : GlobAttributeList). length list.lines.now) lists i blank_attributes within in
    record {
      row = λ lawful. c.in_ok-count.ensures.row lawful (c.lists.invariant.row lawful);
      inside = c.in_ok-count.ensures.inside;
      fewer = omega (arith, more, lines_at-is lists i within, c.in_ok-count.ensures.fewer, c.lists.invariant.fewer);
      long = c.in_ok-count.ensures.count ∙ c.lists.invariant.long;
    }

pub returns-clause-row : goal.returns-clause-row
returns-clause-row c = λ lawful.
    let lists = c.args.lists.now in
    found-all lists c.args.path.now c.args.rules c.lists.i (row_of c.lists.texts c.lists.count)
    (omega (arith, length-map lists attribute_list, c.lists-test.false)) (c.lists.invariant.row lawful)
