use Rattle.std.proofs.Common.{rules}
use Rattle.git_paths.proofs.lemmas.UsualLemmas.{lead_if_usual}
use Rattle.git_paths.proofs.usual.are_usual_names.Goals as goal

pub returns-then-told-gt-BLOCK_SIZE-clause-lead : goal.returns-then-told-gt-BLOCK_SIZE-clause-lead
returns-then-told-gt-BLOCK_SIZE-clause-lead c even =
    lead_if_usual c.args.told.now (search rules) (search rules) (c.is_even_by_blocks.ensures even) c.if-told-eq47.false

pub returns-clause-lead : goal.returns-clause-lead
returns-clause-lead c even = lead_if_usual c.args.told.now (search rules) (search rules) (c.is_even.ensures even) c.if-told-eq47.false
