use Rattle.std.proofs.Common.{◌≡◌, ◌+◌, ◌*◌, Some, length}
use Rattle.std.specs.Vec.{vec_items}
use Rattle.git_config.specs.Configuration.{FromFile, FromItems, Within}
use Rattle.git_config.specs.Grammar.{between, read, text_of}
use Rattle.git_config.specs.Items.{found_with}
use Rattle.git_config.specs.Private.Scopes.{IsScope}
use Rattle.git_config.specs.Private.Sections.{file_seen}
use Rattle.git_config.specs.Private.Settings.{Continues}
use Rattle.git_config.proofs.includes.Reader.+include.Given as goal

abbrev pub decreases-add_file : goal.decreases-add_file
decreases-add_file g l = 3 * l.left + 2

abbrev pub decreases-add_entry : goal.decreases-add_entry
decreases-add_entry g l = 3 * l.left + 1

abbrev pub decreases-add_included : goal.decreases-add_included
decreases-add_included g l = 3 * l.left

-- the entries so far, and those of what is left, are the file's
abbrev pub invariant-add_file-items : goal.invariant-add_file-items
invariant-add_file-items g l =
    let Shows = g.F.ConfigFiles.shows l.self.files.now in let around = l.self.around.now in let path = l.fn.path.value.items in
    let rest = read (text_of l.text.rest.now) l.text.line between in
    record {
      scope : IsScope around (Some l.real) l.scope;
      file : file_seen l.scope.section.value ≡ Some path;
      rest : Continues (FromFile Shows around (Within Shows around l.left) path (found_with vec_items l.fn.found))
          (λ out. FromItems Shows around (Within Shows around l.left) path l.real l.scope.section.value.keys.items rest.0 rest.1 out)
          l.initial.out l.out;
    }

abbrev pub decreases-add_file-items : goal.decreases-add_file-items
decreases-add_file-items g l = length l.text.rest.now
