use Rattle.std.proofs.Common.{◌≡◌, [], map, take}
use Rattle.std.specs.List.{flat_map}
use Rattle.gix_glob_c.specs.declared.attribute_file.GlobAttributeLine.{GlobAttributeLine}
use Rattle.gix_glob_c.specs.declared.attributes.GlobAttributeList.{GlobAttributeList}
use Rattle.gix_glob_c.proofs.attributes.reading_of_lines.Given as goal

-- the lists so far have no lines
abbrev pub invariant-loop-i : goal.invariant-loop-i
invariant-loop-i l = flat_map (λ (list : GlobAttributeList). map (λ (line : GlobAttributeLine). line.pattern) list.lines.now) (take l.i l.lists) ≡ []
