-- What the base leaves is what the patterns are asked about.
use Rattle.std.proofs.Common.{◌∙◌, length, sym}
use Rattle.std.proofs.lemmas.Bool.{eqb-true}
use Rattle.std.proofs.lemmas.List.{nil_from_length}
use Rattle.gix_glob_c.proofs.lemmas.ListsLemmas.{last_of_whole, last_under, no_folder_answers, nothing_under}
use Rattle.gix_glob_c.proofs.lists.last_match_under.Goals as goal

pub returns-then-is_empty-clause-exact : goal.returns-then-is_empty-clause-exact
returns-then-is_empty-clause-exact c = λ lawful.
    let base = c.args.list.now.base.now in
    let empty = nil_from_length base (eqb-true (length base) 0 (sym c.is_empty.ensures ∙ c.if-is_empty.true)) in
    last_of_whole c.args.list.now c.args.path.now.bytes c.args.path.now.is_dir c.args.rules c.last_of_all.result empty (c.last_of_all.ensures.exact lawful)

pub returns-then-not-is_folder-clause-exact : goal.returns-then-not-is_folder-clause-exact
returns-then-not-is_folder-clause-exact c = λ lawful.
    no_folder_answers c.args.list.now c.args.path.now.bytes c.args.path.now.is_dir c.args.rules (sym c.if-not-is_folder.ensures.value)

pub returns-in_default-clause-exact : goal.returns-in_default-clause-exact
returns-in_default-clause-exact c = λ lawful.
    let none = rw c.in_default.is at c.below.ensures in
    nothing_under c.args.list.now c.args.path.now.bytes c.args.path.now.is_dir c.args.rules none

pub returns-clause-exact : goal.returns-clause-exact
returns-clause-exact c = λ lawful.
    let decides = rw c.in-Some.ensures.1 at (c.last_of_all-2.ensures.exact lawful) in
    last_under c.args.list.now c.args.path.now.bytes c.in-Some.rest.bytes c.args.path.now.is_dir c.args.rules (sym c.if-not-is_folder.ensures.value) c.in-Some.ensures.0 c.last_of_all-2.result decides
