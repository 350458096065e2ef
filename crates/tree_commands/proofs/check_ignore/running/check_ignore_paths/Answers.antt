use Rattle.std.proofs.Common.{List, ℕ, IfOk, OnErr, map, subst}
use Rattle.std.specs.Io.KnownBytes.{Appends}
use Rattle.byte_streams.specs.Transfers.{AppendsFront}
use Rattle.byte_streams.specs.Watched.{inner}
use Rattle.tree_commands.specs.Answering.{IsTextOfFirst, Writes}
use Rattle.tree_commands.specs.CheckIgnore.{IsIgnoreAnswer, IsIgnoreText, Question}
use Rattle.tree_commands.proofs.check_ignore.running.check_ignore_paths.Goals as goal

pub returns-clause-ok : goal.returns-clause-ok
returns-clause-ok g c =
    let shows = g.S.FolderLists.shows (Unit {0}) c.answer_words-outcome.new.self.finder.tree.source in
    let paths : List (List ℕ) = map (λ path. path.now) c.args.paths.now in
    rw c.into_sources.ensures
    (subst (λ (q : Question). IfOk c.answer_words-outcome.result (λ is_any. Writes (IsIgnoreText q shows is_any paths)
    (Appends (g.W.Write.contents (inner c.args.writer.now)) (g.W.Write.contents (inner c.answer_words-outcome.new.writer))))) c.new-asker.ensures.asks c.answer_words-outcome.ensures.ok)

pub returns-clause-cut : goal.returns-clause-cut
returns-clause-cut g c =
    let shows = g.S.FolderLists.shows (Unit {0}) c.answer_words-outcome.new.self.finder.tree.source in
    let paths : List (List ℕ) = map (λ path. path.now) c.args.paths.now in
    rw c.into_sources.ensures
    (subst (λ (q : Question). OnErr c.answer_words-outcome.result (Writes (IsTextOfFirst (IsIgnoreAnswer q shows) paths)
    (AppendsFront (g.W.Write.contents (inner c.args.writer.now)) (g.W.Write.contents (inner c.answer_words-outcome.new.writer))))) c.new-asker.ensures.asks c.answer_words-outcome.ensures.cut)
