use Rattle.std.proofs.Common.{◌≡◌, ◌++◌, Some, length}
use Rattle.git_config.specs.Alone.{alone_from}
use Rattle.git_config.specs.Grammar.{between, items_of, read, text_of}
use Rattle.git_config.specs.Private.Sections.{file_seen}
use Rattle.git_config.proofs.alone.add_items.Given as goal

-- the entries so far and those of what is left are all of the file's, and so is the fault
abbrev pub invariant-items : goal.invariant-items
invariant-items l =
    let rest = read (text_of l.text.rest.now) l.text.line between in let path = l.path.value.items in
    record {
      file : file_seen l.section.value ≡ Some path;
      fault : (items_of l.bytes).1 ≡ rest.1;
      entries : l.initial.out ++ alone_from path l.fn.first.value.keys.items (items_of l.bytes).0 ≡ l.out ++ alone_from path l.section.value.keys.items rest.0;
    }

abbrev pub decreases-items : goal.decreases-items
decreases-items l = length l.text.rest.now
