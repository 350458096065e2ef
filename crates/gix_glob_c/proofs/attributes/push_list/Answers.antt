-- The lines of the list are gone through from the first one on.
use Rattle.std.proofs.Common.{◌≡◌, ◌+◌, ◌<◌, ◌≤◌, ◌∙◌, All, length, map, slice_index_or, sym, subst, arith}
use Rattle.std.proofs.lemmas.Bool.{false≢true, iff_false}
use Rattle.std.proofs.lemmas.List.Elements.{All-get_or}
use Rattle.gix_glob.specs.Stripping.{Rest}
use Rattle.glob_attributes.specs.Borrowed.{row_of}
use Rattle.glob_lists.proofs.lemmas.Deciding.Answering.{PairAnswers-nothing_left}
use Rattle.gix_glob_c.specs.Attributes.{IsLawfulAttributes, attribute_list}
use Rattle.gix_glob_c.specs.Private.Finding.{IsFoundUpTo}
use Rattle.gix_glob_c.specs.Parsed.{IsLawful}
use Rattle.gix_glob_c.specs.declared.attribute_file.GlobAttributeLine.{GlobAttributeLine}
use Rattle.gix_glob_c.proofs.lemmas.FindingLemmas.{answers-none, answers-only, answers-within, answers-yes, blank_attributes, blank_line, found-list, found-more, found-skip, line_there, lines_at-is, list_there}
use Rattle.gix_glob_c.proofs.attributes.push_list.Goals.{then-is_matched+in_ok-count, else-is_matched}
use Rattle.gix_glob_c.proofs.attributes.push_list.Goals as goal

pub returns-then-not-is_folder-clause-row : goal.returns-then-not-is_folder-clause-row
returns-then-not-is_folder-clause-row c = λ lawful found.
    let lists = c.args.lists.now in
    let path = c.args.path.now in
    let list = slice_index_or lists c.args.i blank_attributes in
    let there = list_there lists c.args.i c.requires.list in
    found-list lists path c.args.rules c.args.i list there 0 (row_of c.args.texts.now c.args.before)
    (λ m answered. absurd (answers-none lists path c.args.rules c.args.i list there (sym c.if-not-is_folder.ensures.value) m answered))
    found

pub returns-in_default-clause-row : goal.returns-in_default-clause-row
returns-in_default-clause-row c = λ lawful found.
    let lists = c.args.lists.now in
    let path = c.args.path.now in
    let list = slice_index_or lists c.args.i blank_attributes in
    let there = list_there lists c.args.i c.requires.list in
    let nothing = rw c.in_default.is at c.below.ensures in
    found-list lists path c.args.rules c.args.i list there 0 (row_of c.args.texts.now c.args.before)
    (λ m answered. absurd (PairAnswers-nothing_left (map attribute_list lists) path.bytes path.is_dir c.args.rules c.args.i m (attribute_list list) there nothing answered))
    found

pub returns-in_err-count-clause-room : goal.returns-in_err-count-clause-room
returns-in_err-count-clause-room c = λ fits.
    let list = slice_index_or c.args.lists.now c.args.i blank_attributes in
    let within : c.lines.m < length list.lines.now = omega (arith, c.lines-test.true) in
    let less : c.lines.count < length c.lines.texts =
    omega (arith, fits, within, lines_at-is c.args.lists.now c.args.i c.requires.list, c.lines.invariant.fewer, c.lines.invariant.long) in
    absurd (false≢true (c.in_err-count.ensures.room less))

pub lines-preserved : goal.lines-preserved
lines-preserved c =
    let lists = c.args.lists.now in
    let path = c.args.path.now in
    let rules = c.args.rules in
    let i = c.args.i in
    let m = c.lines.m in
    let list = slice_index_or lists i blank_attributes in
    let line = slice_index_or list.lines.now m blank_line in
    let rest = c.in-Some.rest in
    let row = row_of c.lines.texts c.lines.count in
    let there = list_there lists i c.requires.list in
    let within : m < length list.lines.now = omega (arith, c.lines-test.true) in
    let folder = sym c.if-not-is_folder.ensures.value in
    let here = line_there list m folder within in
    let left : Rest rules.case list.base.now path.bytes rest.bytes = c.in-Some.ensures.0 in
    let each : All IsLawfulAttributes lists → IsLawful line.pattern = λ lawful.
    All-get_or (λ (l : GlobAttributeLine). IsLawful l.pattern) list.lines.now m blank_line within (All-get_or IsLawfulAttributes lists i blank_attributes c.requires.list lawful) in
    elim c.if-is_matched.branch [
      | then-is_matched+in_ok-count w ↦ record {
        row = λ lawful found. rw (w.texts-is, w.count-is)
            (subst (IsFoundUpTo lists path rules i (m + 1)) (sym w.in_ok-count.ensures.row)
            (found-more lists path rules i list there m line here row
            (answers-yes lists path rules i list there m line here rest.bytes left ((rw c.in-Some.ensures.1 at (c.is_matched.ensures (each lawful))).0 w.if-is_matched.true))
            (c.lines.invariant.row lawful found)));
        inside = rw (w.texts-is, w.count-is) w.in_ok-count.ensures.inside;
        fewer = rw w.count-is (omega (arith, w.in_ok-count.ensures.more, c.lines.invariant.fewer));
        long = rw w.texts-is (w.in_ok-count.ensures.count ∙ c.lines.invariant.long);
      }
      | else-is_matched w ↦ record {
        row = λ lawful found. rw (w.texts-is, w.count-is)
            (found-skip lists path rules i list there m line here row
            (λ answered. iff_false (rw c.in-Some.ensures.1 at (c.is_matched.ensures (each lawful))) w.if-is_matched.false
            (answers-only lists path rules i list there m line here rest.bytes left answered))
            (c.lines.invariant.row lawful found));
        inside = rw (w.texts-is, w.count-is) c.lines.invariant.inside;
        fewer = rw w.count-is (omega (arith, c.lines.invariant.fewer));
        long = rw w.texts-is c.lines.invariant.long;
      }
    ]

pub returns-clause-row : goal.returns-clause-row
returns-clause-row c = λ lawful found.
    let lists = c.args.lists.now in
    let list = slice_index_or lists c.args.i blank_attributes in
    let there = list_there lists c.args.i c.requires.list in
    let all : length list.lines.now ≤ c.lines.m = omega (arith, c.lines-test.false) in
    found-list lists c.args.path.now c.args.rules c.args.i list there c.lines.m (row_of c.lines.texts c.lines.count)
    (λ m answered. (let inside = answers-within lists c.args.path.now c.args.rules c.args.i list there (sym c.if-not-is_folder.ensures.value) m answered in omega (arith, inside, all)))
    (c.lines.invariant.row lawful found)

pub returns-clause-fewer : goal.returns-clause-fewer
returns-clause-fewer c =
    let list = slice_index_or c.args.lists.now c.args.i blank_attributes in
    let all : c.lines.m ≡ length list.lines.now = omega arith in
    omega (arith, all, lines_at-is c.args.lists.now c.args.i c.requires.list, c.lines.invariant.fewer)
