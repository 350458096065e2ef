use Rattle.std.proofs.Common.{◌∙◌}
use Rattle.std.specs.String.{string_bytes}
use Rattle.globline.proofs.lemmas.IgnoreFilesLemmas.{are_files_is}
use Rattle.globline.proofs.command.are_files.Goals as goal

pub returns-then-not-is_empty : goal.returns-then-not-is_empty
returns-then-not-is_empty c =
    c.each_has_a_file_part.ensures ∙ are_files_is string_bytes c.args.files.now c.is_empty.result c.is_empty.ensures c.if-not-is_empty.true
