-- What decides about a folder, and isn't for folders alone, decides whatever stands there.
use Rattle.std.proofs.Common.{◌≡◌, false, true, map, ap, sym, ◌∙◌}
use Rattle.gix_glob.specs.EntryLists.{entry_list_of}
use Rattle.gix_glob.specs.Patterns.{is_for_directories, is_negative}
use Rattle.tree_commands.proofs.lemmas.IgnoringLemmas.{negative_keeps_whatever, none_ignores_whatever, positive_ignores_whatever}
use Rattle.tree_commands.proofs.files.ignoring.ignoring_by.Goals as goal

pub returns-in_default : goal.returns-in_default
returns-in_default g c =
    let none = rw c.from_plain-folder.ensures at c.in_default.ensures in
    none_ignores_whatever (map (entry_list_of g.T.Pattern.seen) c.args.lists.now) c.args.case c.args.path.now none

pub returns-then-is_for_folders : goal.returns-then-is_for_folders
returns-then-is_for_folders g c =
    let has = rw c.from_plain-folder.ensures at c.in-Some.ensures in
    (has.0, has.1, ap is_for_directories has.2 ∙ sym c.is_for_folders.ensures ∙ c.if-is_for_folders.true)

pub returns-then-is_negative : goal.returns-then-is_negative
returns-then-is_negative g c =
    let has = rw c.from_plain-folder.ensures at c.in-Some.ensures in
    let all : is_for_directories has.0.mode ≡ false = ap is_for_directories has.2 ∙ sym c.is_for_folders.ensures ∙ c.if-is_for_folders.false in
    let negative : is_negative has.0.mode ≡ true = ap is_negative has.2 ∙ sym c.is_negative.ensures ∙ c.if-is_negative.true in
    negative_keeps_whatever (map (entry_list_of g.T.Pattern.seen) c.args.lists.now) c.args.case c.args.path.now has.0 has.1 all negative

pub returns : goal.returns
returns g c =
    let has = rw c.from_plain-folder.ensures at c.in-Some.ensures in
    let all : is_for_directories has.0.mode ≡ false = ap is_for_directories has.2 ∙ sym c.is_for_folders.ensures ∙ c.if-is_for_folders.false in
    let positive : is_negative has.0.mode ≡ false = ap is_negative has.2 ∙ sym c.is_negative.ensures ∙ c.if-is_negative.false in
    positive_ignores_whatever (map (entry_list_of g.T.Pattern.seen) c.args.lists.now) c.args.case c.args.path.now has.0 has.1 all positive
