-- By the three laws of matched values.
use Rattle.glob_lists.proofs.lemmas.Asks.PrefilterLemmas.{answering_passes}
use Rattle.glob_lists.proofs.laws.answering_patterns_pass.Goals as goal

pub returns : goal.returns
returns c = answering_passes
    (record { ends = c.matched_values_end_as_the_text.ensures.whole; bytes = c.matched_values_have_the_literal_bytes.ensures.whole; pairs = c.matched_values_have_the_literal_pairs.ensures.whole })
    (record { ends = c.matched_values_end_as_the_text.ensures.parted; bytes = c.matched_values_have_the_literal_bytes.ensures.parted; pairs = c.matched_values_have_the_literal_pairs.ensures.parted })
