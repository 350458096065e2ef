use Rattle.std.proofs.Common.{◌≡◌, ap, length, rules, sym, ◌∙◌}
use Rattle.std.specs.Result.{result_ok}
use Rattle.pathspecs.specs.Reading.{item_of}
use Rattle.pathspecs.proofs.lemmas.ReadLemmas.{words_fail}
use Rattle.pathspecs.proofs.reading.read_words.Goals as goal

pub returns-in-Err-clause-fault : goal.returns-in-Err-clause-fault
returns-in-Err-clause-fault c =
    let as_many : c.len-place.result ≡ length c.words.elements.items = search rules in
    words_fail (item_of c.args.standpoint.now c.args.settings) (λ word. word.now) c.args.words.now c.words.word-index c.len-place.result c.words.elements.items
    c.words-test.true as_many c.words.invariant _ _ (sym (ap result_ok c.in-Err.is) ∙ c.in_ok-element.ensures)
