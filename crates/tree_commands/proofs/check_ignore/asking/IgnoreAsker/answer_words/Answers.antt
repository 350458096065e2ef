-- The first paths were answered, and the next one was, or wasn't.
use Rattle.std.proofs.Common.{◌∙◌, ◌<◌, ◌++◌, ◌∷◌, [], Bor, List, ℕ, ap, arith, drop, length, map, refl, suc, sym, subst, take}
use Rattle.std.proofs.KnownBytes.{Appends-nil}
use Rattle.byte_streams.specs.Transfers.{AppendsFront}
use Rattle.byte_streams.specs.Watched.{inner}
use Rattle.byte_streams.proofs.lemmas.StreamLemmas.{on_any_err}
use Rattle.tree_commands.specs.Answering.{IsTextOfFirst, Writes}
use Rattle.tree_commands.specs.CheckIgnore.{IsIgnoreAnswer, IsIgnoreText, Question, Refuses}
use Rattle.tree_commands.specs.Private.Asking.{TellsLine, asked_by}
use Rattle.tree_commands.proofs.lemmas.AnswerLemmas.{map_parts, map_split, map_take_more}
use Rattle.tree_commands.proofs.lemmas.IgnoreLemmas.{no_word_told, word_told, words_stay}
use Rattle.tree_commands.proofs.check_ignore.asking.IgnoreAsker.answer_words.Goals as goal

pub paths-init : goal.paths-init
paths-init g c =
    let question = asked_by g.K.PathKinds.known c.args.self.now in
    let shows = g.S.FolderLists.shows (Unit {0}) c.args.self.now.finder.tree.source in
    record {
      asks = refl;
      told = subst (IsIgnoreText question shows c.args.self.now.is_any []) (sym c.new-text.ensures.items) (no_word_told question shows c.args.self.now.is_any c.requires.none);
    }

pub returns-in-Err-clause-refused : goal.returns-in-Err-clause-refused
returns-in-Err-clause-refused g c =
    let see : Bor (List ℕ) → List ℕ = λ path. path.now in
    let low : c.paths.path-index < length c.args.paths.now = omega arith in
    let question = asked_by g.K.PathKinds.known c.args.self.now in
    let before = g.S.FolderLists.shows (Unit {0}) c.paths.self.finder.tree.source in
    let after = g.S.FolderLists.shows (Unit {0}) c.answer.new.self.finder.tree.source in
    let first = map see (take c.paths.path-index c.args.paths.now) in
    let behind = map see (drop (suc c.paths.path-index) c.args.paths.now) in (
      record {
        first = first;
        told = c.of_word.result.bytes.now;
        behind = behind;
        joined = map_split see c.args.paths.now c.paths.path-index _ low ∙ ap (λ t. first ++ t ∷ behind) (sym c.of_word.ensures);
        refused = subst (λ (q : Question). Refuses q c.of_word.result.bytes.now c.in-Err.fault) c.paths.invariant.asks c.in-Err.ensures.faults;
        text = c.paths.text.items;
        allowed = words_stay before after c.answer.ensures.goes_on question c.paths.self.is_any first c.paths.text.items c.paths.invariant.told;
        written = Appends-nil _;
      },
      tt,
    )

pub paths-preserved : goal.paths-preserved
paths-preserved g c =
    let see : Bor (List ℕ) → List ℕ = λ path. path.now in
    let low : c.paths.path-index < length c.args.paths.now = omega arith in
    let question = asked_by g.K.PathKinds.known c.args.self.now in
    let before = g.S.FolderLists.shows (Unit {0}) c.paths.self.finder.tree.source in
    let after = g.S.FolderLists.shows (Unit {0}) c.answer.new.self.finder.tree.source in
    let first = map see (take c.paths.path-index c.args.paths.now) in
    let told = c.of_word.result.bytes.now in
    let tells = subst (λ (q : Question). TellsLine q after told c.paths.self.is_any c.answer.new.self.is_any c.paths.text.items c.answer.new.text.items) c.paths.invariant.asks c.in_default.ensures.answered in
    let Told : List (List ℕ) → List ℕ → Type 0 = IsIgnoreText question after c.answer.new.self.is_any in
    record {
      asks = c.answer.ensures.asks ∙ c.paths.invariant.asks;
      told = subst (λ paths. Told paths c.answer.new.text.items) (ap (λ t. first ++ t ∷ []) c.of_word.ensures ∙ map_take_more see c.args.paths.now c.paths.path-index _ low)
          (subst (Told (first ++ told ∷ [])) (sym tells.written)
          (word_told before after c.answer.ensures.goes_on question c.paths.self.is_any c.answer.new.self.is_any tells.is_counted told tells.added tells.any tells.allowed first c.paths.text.items c.paths.invariant.told));
    }

pub returns-in_err-write_text-clause-cut : goal.returns-in_err-write_text-clause-cut
returns-in_err-write_text-clause-cut g c =
    let see : Bor (List ℕ) → List ℕ = λ path. path.now in
    let front = subst (AppendsFront (g.W.Write.contents (inner c.args.writer.now)) (g.W.Write.contents (inner c.write_text.new.writer))) c.deref.ensures.value c.in_err-write_text.ensures.cut in
    let question = asked_by g.K.PathKinds.known c.args.self.now in
    let shows = g.S.FolderLists.shows (Unit {0}) c.paths.self.finder.tree.source in
    let told : Writes (IsTextOfFirst (IsIgnoreAnswer question shows) (map see c.args.paths.now)) (AppendsFront (g.W.Write.contents (inner c.args.writer.now)) (g.W.Write.contents (inner c.write_text.new.writer))) = (
      c.paths.text.items,
      (map see (take c.paths.path-index c.args.paths.now), map see (drop c.paths.path-index c.args.paths.now), map_parts see c.args.paths.now c.paths.path-index, words_stay shows shows (λ _ _ same. same) question c.paths.self.is_any (map see (take c.paths.path-index c.args.paths.now)) c.paths.text.items c.paths.invariant.told),
      front,
    ) in
    on_any_err c.from_residual.result told
