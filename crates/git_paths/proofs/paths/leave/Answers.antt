use Rattle.std.proofs.Common.{◌≡◌, ◌++◌, ◌∷◌, [], ap, sym, ◌∙◌}
use Rattle.git_paths.specs.Paths.{folder_of}
use Rattle.git_paths.proofs.lemmas.PathLemmas.{folder_of_at, folder_of_other}
use Rattle.git_paths.proofs.paths.leave.Goals as goal

pub returns-then-byte-eq47 : goal.returns-then-byte-eq47
returns-then-byte-eq47 c =
    let joined : c.bytes.path.items ≡ c.pop.new.self.items ++ c.in-Some.byte ∷ [] = c.in-Some.ensures.items in
    sym (folder_of_at c.pop.new.self.items c.in-Some.byte c.if-byte-eq47.true) ∙ ap folder_of (sym joined) ∙ c.bytes.invariant

pub bytes-preserved : goal.bytes-preserved
bytes-preserved c =
    let joined : c.bytes.path.items ≡ c.pop.new.self.items ++ c.in-Some.byte ∷ [] = c.in-Some.ensures.items in
    sym (folder_of_other c.pop.new.self.items c.in-Some.byte c.if-byte-eq47.false) ∙ ap folder_of (sym joined) ∙ c.bytes.invariant
