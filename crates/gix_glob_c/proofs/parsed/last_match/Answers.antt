-- The patterns are gone through from the last one on.
use Rattle.std.proofs.Common.{◌≡◌, ◌+◌, ◌-◌, ◌<◌, true, length, slice_index_or, arith}
use Rattle.std.proofs.lemmas.List.Elements.{All-get_or}
use Rattle.glob_lists.specs.Deciding.{AnswersAt}
use Rattle.glob_lists.proofs.lemmas.Deciding.Answering.{AnswersAt-only, AnswersAt-yes}
use Rattle.glob_lists.proofs.lemmas.Deciding.LastNumbers.{NoneFrom-all, NoneFrom-last, NoneFrom-less}
use Rattle.gix_glob_c.specs.Parsed.{IsLawful, entry_of_parts, list_of}
use Rattle.gix_glob_c.proofs.lemmas.DecidingLemmas.{Decides-no_list, Decides-one_list, blank, entry_at}
use Rattle.gix_glob_c.proofs.parsed.last_match.Goals as goal

pub returns-then-is_matched-clause-exact : goal.returns-then-is_matched-clause-exact
returns-then-is_matched-clause-exact c = λ lawful.
    let patterns = c.args.patterns.now in
    let list = list_of patterns in
    let rules = c.args.rules in
    let at = c.loop-i.i - 1 in
    let within : at < length patterns = omega arith in
    let next : c.loop-i.i ≡ at + 1 = omega arith in
    let told = c.is_matched.ensures (All-get_or IsLawful patterns at blank within lawful) in
    Decides-one_list list c.args.path.now.bytes c.args.path.now.is_dir rules at
    (AnswersAt-yes list c.args.path.now.bytes c.args.path.now.is_dir rules at (entry_of_parts (slice_index_or patterns at blank)) (entry_at patterns at within) (told.0 c.if-is_matched.true))
    (NoneFrom-last (AnswersAt list c.args.path.now.bytes c.args.path.now.is_dir rules) c.loop-i.i at next (c.loop-i.invariant lawful))

pub loop-i-preserved : goal.loop-i-preserved
loop-i-preserved c = λ lawful.
    let patterns = c.args.patterns.now in
    let list = list_of patterns in
    let rules = c.args.rules in
    let at = c.loop-i.i - 1 in
    let within : at < length patterns = omega arith in
    let next : c.loop-i.i ≡ at + 1 = omega arith in
    let told = c.is_matched.ensures (All-get_or IsLawful patterns at blank within lawful) in
    let refused = λ (h : AnswersAt list c.args.path.now.bytes c.args.path.now.is_dir rules at).
    let answered : c.is_matched.result ≡ true = told.1 (AnswersAt-only list c.args.path.now.bytes c.args.path.now.is_dir rules at (entry_of_parts (slice_index_or patterns at blank)) (entry_at patterns at within) h) in
    absurd (cc) in
    NoneFrom-less (AnswersAt list c.args.path.now.bytes c.args.path.now.is_dir rules) c.loop-i.i at next (c.loop-i.invariant lawful) refused

pub returns-clause-exact : goal.returns-clause-exact
returns-clause-exact c = λ lawful.
    let list = list_of c.args.patterns.now in
    let rules = c.args.rules in
    Decides-no_list list c.args.path.now.bytes c.args.path.now.is_dir rules
    (NoneFrom-all (AnswersAt list c.args.path.now.bytes c.args.path.now.is_dir rules) c.loop-i.i (omega arith) (c.loop-i.invariant lawful))
