-- A part more is written.
use Rattle.std.proofs.Common.{rules, ◌≡◌, ◌++◌, ◌∙◌, Option, None, Some, ℕ, List, sym, ap, subst, append_assoc}
use Rattle.std.specs.Io.KnownBytes.{Appends}
use Rattle.byte_streams.specs.Watched.{inner}
use Rattle.globtree.proofs.show_config.write_parts.Goals as goal

appends_more : (old middle new : Option (List ℕ)) (one more : List ℕ) → Appends old middle one → Appends middle new more → Appends old new (one ++ more)
appends_more None middle new one more first next = tt
appends_more (Some xs) None new one more first next = absurd first
appends_more (Some xs) (Some ys) None one more first next = absurd next
appends_more (Some xs) (Some ys) (Some zs) one more first next = next ∙ ap (λ l. l ++ more) first ∙ append_assoc xs one more

pub parts-preserved : goal.parts-preserved
parts-preserved g c =
    let before = g.O.Write.contents (inner c.parts.output) in let after = g.O.Write.contents (inner c.write_all.new.self) in
    let bytes : Appends before after c.deref.result.now = search rules in
    let written = c.parts.invariant.written in let p = c.in_ok-more.ensures.part in
    let part = c.deref.ensures.value ∙ p.text ∙ ap (λ l. l ++ p.part) c.parts.invariant.empty in
    record {
      written = (
        written.0 ++ p.part,
        appends_more _ before after written.0 p.part written.1 (subst (λ l. Appends before after l) part bytes),
        written.2 ∙ ap (λ l. written.0 ++ l) p.answer ∙ sym (append_assoc written.0 p.part c.append_part.new.self),
      );
      empty = c.clear.ensures.items;
      whole = c.in_ok-more.ensures.whole;
    }
