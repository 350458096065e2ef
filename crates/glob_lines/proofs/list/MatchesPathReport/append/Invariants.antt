use Rattle.std.proofs.Common.{map, option_map}
use Rattle.std.specs.Vec.{vec_items}
use Rattle.glob_lists.specs.Deciding.{AnswersUnder}
use Rattle.gix_glob.specs.Entries.{entry_of}
use Rattle.glob_lines.proofs.lemmas.FoundLemmas.{IsListedBehind}
use Rattle.glob_lines.proofs.list.MatchesPathReport.append.Given as goal

-- the text has the numbers of the first mapping and of those up to the last place so far
abbrev pub invariant-loop-pair : goal.invariant-loop-pair
invariant-loop-pair l =
    IsListedBehind (λ entry. AnswersUnder (option_map vec_items l.fn.self.list.now.base) entry l.path.bytes l.path.is_dir l.fn.self.stack.rules) (map (entry_of (λ _. tt)) l.fn.self.list.now.patterns.items)
    l.others l.pair-index l.fn.text.items l.text.items
