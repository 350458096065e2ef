use Rattle.std.proofs.Common.{take, sym, subst, arith}
use Rattle.gix_glob.specs.Bytes.{HasByte, slash}
use Rattle.glob_trees.proofs.lemmas.Folders.{above_is_shorter, above_slash}
use Rattle.tree_commands.specs.Files.{LetsPass}
use Rattle.tree_commands.specs.Private.Listing.{terms_of}
use Rattle.tree_commands.proofs.lemmas.SourceLemmas.{at_false, at_true, gives_none, stays_further}
use Rattle.tree_commands.proofs.lemmas.StartLemmas.{above_or_here, clear_by}
use Rattle.tree_commands.proofs.files.start.is_of_repository.Goals as goal

pub returns-then-branch-clause-clear : goal.returns-then-branch-clause-clear
returns-then-branch-clause-clear g c =
    let here : HasByte c.args.path.now c.bytes.place slash = record { inside = c.bytes-test.true; is = c.if-path-place-ne47.false } in
    λ tree known clear.
    at_true (¬ LetsPass (terms_of c.args.terms.now) tree (take c.bytes.place c.args.path.now)) (LetsPass (terms_of c.args.terms.now) tree (take c.bytes.place c.args.path.now)) c.in_ok-is_repository.field-0 c.if-branch.true (c.in_ok-is_repository.ensures.own tree (c.bytes.invariant.stays tree known)) (clear.above (take c.bytes.place c.args.path.now) (above_slash c.args.path.now c.bytes.place here))

pub bytes-preserved-then-path-place-ne47 : goal.bytes-preserved-then-path-place-ne47
bytes-preserved-then-path-place-ne47 g c = record {
  passed = λ tree known folder above less. above_or_here folder c.args.path.now c.bytes.place above less (c.bytes.invariant.passed tree known folder above) (λ here is. absurd (c.if-path-place-ne47.true here.is));
  stays = c.bytes.invariant.stays;
  asks = c.bytes.invariant.asks;
}

pub bytes-preserved : goal.bytes-preserved
bytes-preserved g c = record {
  passed = λ tree known folder above less. above_or_here folder c.args.path.now c.bytes.place above less (c.bytes.invariant.passed tree known folder above)
      (λ here is. subst (LetsPass (terms_of c.args.terms.now) tree) (sym is) (at_false (¬ LetsPass (terms_of c.args.terms.now) tree (take c.bytes.place c.args.path.now)) (LetsPass (terms_of c.args.terms.now) tree (take c.bytes.place c.args.path.now)) c.in_ok-is_repository.field-0 c.if-branch.false (c.in_ok-is_repository.ensures.own tree (c.bytes.invariant.stays tree known))));
  stays = stays_further g.S.FileSource.shows c.args.source.now c.bytes.source c.is_repository.new.source c.bytes.invariant.stays c.is_repository.ensures.stays;
  asks = gives_none (λ _. ⊥) (g.S.FileSource.asked c.args.source.now) (g.S.FileSource.asked c.bytes.source) (g.S.FileSource.asked c.is_repository.new.source) c.bytes.invariant.asks c.is_repository.ensures.asks;
}

pub returns-clause-clear : goal.returns-clause-clear
returns-clause-clear g c =
    λ tree known. clear_by (terms_of c.args.terms.now) tree c.args.path.now c.last_name.result.now c.last_name.ensures
    (λ folder above. c.bytes.invariant.passed tree known folder above (let shorter = above_is_shorter folder c.args.path.now above in let past = c.bytes-test.false in omega arith)) c.is_git.result c.is_git.ensures
