-- The first paths were answered, and the next one was, or wasn't.
use Rattle.std.proofs.Common.{◌≡◌, ◌∙◌, ◌<◌, ◌++◌, ◌∷◌, [], Bor, List, ℕ, ap, arith, drop, length, map, suc, sym, subst, take}
use Rattle.std.proofs.lemmas.Grind.{common_steps}
use Rattle.std.proofs.lemmas.List.{take_all}
use Rattle.std.proofs.lemmas.Result.{on_err_weaker, on_ok_weaker}
use Rattle.std.specs.Io.KnownBytes.{Appends}
use Rattle.byte_streams.specs.Records.{TextOf}
use Rattle.byte_streams.specs.Transfers.{AppendsFront}
use Rattle.byte_streams.specs.Watched.{has_failed, inner}
use Rattle.byte_streams.proofs.lemmas.StreamLemmas.{AppendsFront-whole, on_any_err}
use Rattle.tree_commands.specs.Answering.{IsTextOfFirst, Writes}
use Rattle.tree_commands.proofs.lemmas.AnswerLemmas.{map_parts, map_split, map_take_more, text_more}
use Rattle.tree_commands.proofs.check_attr.answering.AttributeAsker.answer_words.Goals as goal

pub write_text-requires : goal.write_text-requires
write_text-requires g c = ap has_failed c.paths.invariant.writer ∙ c.requires.writable

pub write_text-requires-2 : goal.write_text-requires-2
write_text-requires-2 g c = ap has_failed c.paths.invariant.writer ∙ c.requires.writable

pub returns-in_err-write_text-clause-cut : goal.returns-in_err-write_text-clause-cut
returns-in_err-write_text-clause-cut g c =
    let see : Bor (List ℕ) → List ℕ = λ path. path.now in
    let old = ap (λ w. g.W.Write.contents (inner w)) c.paths.invariant.writer in
    let new = g.W.Write.contents (inner c.write_text.new.writer) in
    let same : c.deref.result.now ≡ c.paths.text.items = grind (arith, common_steps) in
    let front = subst (λ o. AppendsFront o new c.paths.text.items) old (subst (AppendsFront (g.W.Write.contents (inner c.paths.writer)) new) same c.in_err-write_text.ensures.cut) in
    let told : Writes (IsTextOfFirst g.Q.Question.allows (map see c.args.paths.now)) (AppendsFront (g.W.Write.contents (inner c.args.writer.now)) new) = (
      c.paths.text.items,
      (map see (take c.paths.path-index c.args.paths.now), map see (drop c.paths.path-index c.args.paths.now), map_parts see c.args.paths.now c.paths.path-index, c.paths.invariant.told),
      front,
    ) in
    on_any_err c.from_residual.result told

pub returns-in-Err-clause-refused : goal.returns-in-Err-clause-refused
returns-in-Err-clause-refused g c =
    let see : Bor (List ℕ) → List ℕ = λ path. path.now in
    let low : c.paths.path-index < length c.args.paths.now = omega arith in
    let old = ap (λ w. g.W.Write.contents (inner w)) c.paths.invariant.writer in
    let new = g.W.Write.contents (inner c.write_text.new.writer) in
    let same : c.deref.result.now ≡ c.paths.text.items = grind (arith, common_steps) in
    let first = map see (take c.paths.path-index c.args.paths.now) in
    let behind = map see (drop (suc c.paths.path-index) c.args.paths.now) in (
      record {
        first = first;
        told = c.of_word.result.bytes.now;
        behind = behind;
        joined = map_split see c.args.paths.now c.paths.path-index _ low ∙ ap (λ t. first ++ t ∷ behind) (sym c.of_word.ensures);
        refused = tt;
        text = c.paths.text.items;
        allowed = c.paths.invariant.told;
        written = subst (λ o. Appends o new c.paths.text.items) old (subst (Appends (g.W.Write.contents (inner c.paths.writer)) new) same c.in_ok-write_text.ensures.ok);
      },
      tt,
    )

pub returns-in-Err-clause-cut : goal.returns-in-Err-clause-cut
returns-in-Err-clause-cut g c =
    let see : Bor (List ℕ) → List ℕ = λ path. path.now in
    let old = ap (λ w. g.W.Write.contents (inner w)) c.paths.invariant.writer in
    let new = g.W.Write.contents (inner c.write_text.new.writer) in
    let same : c.deref.result.now ≡ c.paths.text.items = grind (arith, common_steps) in (
      c.paths.text.items,
      (map see (take c.paths.path-index c.args.paths.now), map see (drop c.paths.path-index c.args.paths.now), map_parts see c.args.paths.now c.paths.path-index, c.paths.invariant.told),
      AppendsFront-whole _ _ _ (subst (λ o. Appends o new c.paths.text.items) old (subst (Appends (g.W.Write.contents (inner c.paths.writer)) new) same c.in_ok-write_text.ensures.ok)),
    )

pub paths-preserved : goal.paths-preserved
paths-preserved g c =
    let see : Bor (List ℕ) → List ℕ = λ path. path.now in
    let low : c.paths.path-index < length c.args.paths.now = omega arith in
    let first = map see (take c.paths.path-index c.args.paths.now) in
    let told = c.of_word.result.bytes.now in
    let allows = g.Q.Question.allows in
    let adds = c.in_default.ensures.written in
    record {
      ready = c.answer.ensures.ready;
      writer = c.paths.invariant.writer;
      told = subst (λ paths. TextOf allows paths c.answer.new.text.items) (ap (λ t. first ++ t ∷ []) c.of_word.ensures ∙ map_take_more see c.args.paths.now c.paths.path-index _ low)
          (subst (TextOf allows (first ++ told ∷ [])) (sym adds.grown) (text_more allows allows (λ _ _ same. same) first c.paths.text.items c.paths.invariant.told told adds.added adds.allowed));
    }

pub returns-clause-ok : goal.returns-clause-ok
returns-clause-ok g c =
    let see : Bor (List ℕ) → List ℕ = λ path. path.now in
    let old = ap (λ w. g.W.Write.contents (inner w)) c.paths.invariant.writer in
    let new = g.W.Write.contents (inner c.write_text-2.new.writer) in
    let all = take_all c.paths.path-index c.args.paths.now (omega arith) in
    let texts = subst (λ paths. TextOf g.Q.Question.allows (map see paths) c.paths.text.items) all c.paths.invariant.told in
    on_ok_weaker c.write_text-2.result
    (λ written. (c.paths.text.items, texts, subst (λ o. Appends o new c.paths.text.items) old (subst (Appends (g.W.Write.contents (inner c.paths.writer)) new) c.deref-2.ensures.value written)))
    c.write_text-2.ensures.ok

pub returns-clause-cut : goal.returns-clause-cut
returns-clause-cut g c =
    let see : Bor (List ℕ) → List ℕ = λ path. path.now in
    let old = ap (λ w. g.W.Write.contents (inner w)) c.paths.invariant.writer in
    let new = g.W.Write.contents (inner c.write_text-2.new.writer) in
    on_err_weaker c.write_text-2.result
    (λ cut. (
      c.paths.text.items,
      (map see (take c.paths.path-index c.args.paths.now), map see (drop c.paths.path-index c.args.paths.now), map_parts see c.args.paths.now c.paths.path-index, c.paths.invariant.told),
      subst (λ o. AppendsFront o new c.paths.text.items) old (subst (AppendsFront (g.W.Write.contents (inner c.paths.writer)) new) c.deref-2.ensures.value cut),
    ))
    c.write_text-2.ensures.cut
