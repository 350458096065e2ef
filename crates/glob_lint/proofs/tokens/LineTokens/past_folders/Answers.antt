-- Folders of any name are next, or a slash is.
use Rattle.glob_lint.specs.Private.Rows.{row_of}
use Rattle.glob_lint.proofs.lemmas.Running.{folders_taken}
use Rattle.glob_lint.proofs.tokens.LineTokens.past_folders.Goals as goal

pub returns-in-Dirs : goal.returns-in-Dirs
returns-in-Dirs c = folders_taken c.args.way (row_of c.args.self.now) (row_of c.in_ok-next.next.after) c.in_ok-next.next.kind c.in_ok-next.ensures c.in-Dirs.is
