-- A value of which a part is read.
use Rattle.git_config.specs.declared.value.Part as code
use Rattle.git_config.specs.Grammar.{Part}

-- what is seen of it
abbrev pub part_of : code.Part → Part
part_of part = record { quoted = part.quoted; blanks = part.blanks; bytes = part.bytes.items }
