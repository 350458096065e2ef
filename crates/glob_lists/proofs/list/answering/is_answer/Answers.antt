-- A pattern that is told by its end matches; a literal between two stars is looked for, and takes no more looks than a test.
use Rattle.std.proofs.Common.{◌≡◌, ◌↔◌, ◌∙◌, ℕ, IsTrue, List, ap, length, refl, subst, arith}
use Rattle.glob_patterns.specs.Private.Insides.{HasInside}
use Rattle.gix_glob.specs.Ways.{way_of}
use Rattle.glob_lists.specs.Rules.{path_mode}
use Rattle.glob_lists.specs.Private.Asks.Showing.{last_part}
use Rattle.glob_lists.proofs.lemmas.Asks.InsideLemmas.{inside_answers, inside_looks, last_part_is_short}
use Rattle.glob_lists.proofs.lemmas.Asks.ToldLemmas.{told_answers}
use Rattle.glob_lists.proofs.list.answering.is_answer.Given.{Over}
use Rattle.glob_lists.proofs.list.answering.is_answer.Goals as goal
use Rattle.glob_lists.proofs.list.answering.is_answer.Goals.{After-has_inside}

pub returns-then-is_told_by-clause-exact : goal.returns-then-is_told_by-clause-exact
returns-then-is_told_by-clause-exact g c passes asks base path folder shows left lawful = (
  λ yes. told_answers c.args.pattern.text.now c.args.pattern.mode base path c.args.rest.now.bytes c.args.rest.now.is_dir c.args.rules c.args.row.now c.args.probe.now
      folder shows asks passes (c.is_told_by.ensures.0 c.if-is_told_by.true) left,
  λ answers. refl,
)

-- what is searched is the last part of the path
name_is : (g : Over) (c : After-has_inside g) → c.last_part-name.result.now ≡ last_part c.basename_start.result c.args.rest.now.bytes
name_is g c = c.last_part-name.ensures ∙ ap (last_part c.basename_start.result) c.bytes.ensures

pub returns-then-is_looked_for-clause-exact : goal.returns-then-is_looked_for-clause-exact
returns-then-is_looked_for-clause-exact g c passes asks base path folder shows left lawful =
    let after = (goal.at.returns-then-is_looked_for-clause-exact g c).After-has_inside in
    let looked_for = c.is_looked_for.ensures.part c.if-is_looked_for.true in
    let exact = subst (λ (v : List ℕ). IsTrue c.has_inside.result ↔ HasInside (way_of path_mode) v c.args.pattern.text.now) (name_is g after) c.has_inside.ensures.exact in
    inside_answers c.has_inside.result c.args.pattern.text.now c.args.rest.now.bytes c.args.pattern.mode c.args.rest.now.is_dir c.args.rules c.basename_start.result
    looked_for.1 (asks.inside looked_for.0) c.basename_start.ensures exact

pub returns-then-is_looked_for-clause-looks : goal.returns-then-is_looked_for-clause-looks
returns-then-is_looked_for-clause-looks g c =
    let after = (goal.at.returns-then-is_looked_for-clause-looks g c).After-has_inside in
    let short = last_part_is_short c.args.rest.now.bytes c.basename_start.result in
    let name : length c.last_part-name.result.now ≡ length (last_part c.basename_start.result c.args.rest.now.bytes) = ap (λ (v : List ℕ). length v) (name_is g after) in
    let most = inside_looks (length c.args.pattern.text.now) (length c.last_part-name.result.now) (length c.args.rest.now.bytes) (omega arith) in
    let taken = c.has_inside.ensures.looks.to in omega arith
