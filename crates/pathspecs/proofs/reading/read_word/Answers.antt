use Rattle.std.proofs.Common.{◌≡◌, true, ap, rules, sym, ◌∙◌}
use Rattle.std.specs.Option.{option_map}
use Rattle.std.specs.Result.{result_ok}
use Rattle.pathspecs.specs.Reading.{agree}
use Rattle.pathspecs.specs.Spelling.{head_seen, seen}
use Rattle.pathspecs.proofs.lemmas.KeptLemmas.{kept_under}
use Rattle.pathspecs.proofs.lemmas.WordLemmas.{read_by}
use Rattle.pathspecs.proofs.reading.read_word.Goals as goal

pub new-requires : goal.new-requires
new-requires c =
    kept_under c.args.standpoint.now (seen c.pathspec-spelt.result) c.in-Some.text.items c.literal_front-kept.result
    (sym (ap (option_map (λ bytes. bytes.items)) c.in-Some.is) ∙ c.in_ok-text.ensures) c.literal_front-kept.ensures

pub returns : goal.returns
returns c =
    let fits : agree c.args.settings ≡ true = search rules in
    read_by c.args.standpoint.now c.args.settings c.args.word.now (head_seen c.in-Ok.head) (seen c.pathspec-spelt.result) c.in-Some.text.items c.literal_front-kept.result c.marked.result c.new.result
    (ap (λ r. option_map head_seen (result_ok r)) (sym c.in-Ok.is) ∙ c.of_word.ensures) fits c.pathspec-spelt.ensures (sym (ap (option_map (λ bytes. bytes.items)) c.in-Some.is) ∙ c.in_ok-text.ensures) c.literal_front-kept.ensures c.marked.ensures c.new.ensures
