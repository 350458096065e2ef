use Rattle.std.proofs.lemmas.List.Splits.{join_with_byte-slice_split}
use Rattle.glob_matcher.specs.Bytes.{slash}
use Rattle.gix_glob.proofs.laws.pieces_join_to_the_text.Goals as goal

pub returns : goal.returns
returns c text = join_with_byte-slice_split slash text
