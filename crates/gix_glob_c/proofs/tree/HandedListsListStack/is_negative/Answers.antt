-- The entry is that of the pattern at the places.
use Rattle.std.proofs.Common.{sym, ap, ◌∙◌, slice_index_or}
use Rattle.std.proofs.lemmas.Option.{slice_get-get_or}
use Rattle.gix_glob.specs.Entries.{Entry}
use Rattle.gix_glob.specs.Patterns.{is_negative}
use Rattle.gix_glob_c.proofs.lemmas.DecidingLemmas.{blank}
use Rattle.gix_glob_c.proofs.lemmas.ListsLemmas.{blank_list, entry_is, list_within, pattern_within}
use Rattle.gix_glob_c.proofs.tree.HandedListsListStack.is_negative.Goals as goal

pub bounds-self-pair : goal.bounds-self-pair
bounds-self-pair c = list_within c.args.self.now.lists.now c.args.pair c.requires.0 c.requires.1

pub is_negative_at-requires : goal.is_negative_at-requires
is_negative_at-requires c = pattern_within c.args.self.now.lists.now c.args.pair c.requires.0 c.requires.1

pub returns : goal.returns
returns c = λ entry there.
    let patterns = (slice_index_or c.args.self.now.lists.now c.args.pair.0 blank_list).patterns.now in
    let pattern = slice_index_or patterns c.args.pair.1 blank in
    c.is_negative_at.ensures pattern (slice_get-get_or patterns c.args.pair.1 blank (pattern_within c.args.self.now.lists.now c.args.pair entry there))
    ∙ sym (ap (λ (e : Entry (Unit {0})). is_negative e.mode) (entry_is c.args.self.now.lists.now c.args.pair entry there))
