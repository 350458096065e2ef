-- What is written for a path line, and its line feed, is the next line of the text.
use Rattle.std.proofs.Common.{◌≡◌, ◌++◌, ◌∷◌, [], ap, refl, ◌∙◌, append_assoc}
use Rattle.glob_lines.specs.Equations.Lines.{lines_of}
use Rattle.glob_lines.proofs.lemmas.LinesLemmas.{IsWrittenUpTo-all, IsWrittenUpTo-more, IsWrittenUpTo-none}
use Rattle.glob_lines.proofs.path_lines.report_on.Goals as goal

pub loop-line-init : goal.loop-line-init
loop-line-init g c =
    let same : lines_of c.into_iter-line-iterator.result.rest.now ≡ lines_of c.args.paths.now = cc in
    record { same = refl; written = rw same (IsWrittenUpTo-none _ _ _ c.new-text.ensures.items) }

pub loop-line-preserved : goal.loop-line-preserved
loop-line-preserved g c =
    let adds = rw c.loop-line.invariant.same at c.in_ok-append_line.ensures.written in
    record {
      same = c.append_line.ensures.same ∙ c.loop-line.invariant.same;
      written = IsWrittenUpTo-more _ _ _ _ _ _ _ adds.added c.loop-line.invariant.written c.in-Some.ensures.steps adds.allowed
          (c.in_ok-push.ensures.items ∙ ap (λ l. l ++ 10 ∷ []) adds.grown ∙ append_assoc c.loop-line.text.items adds.added (10 ∷ []));
    }

pub returns : goal.returns
returns g c = IsWrittenUpTo-all _ _ _ _ c.loop-line.invariant.written c.in-None.ensures.steps.0
