-- Where the last part of a path begins lies within the path, and no slash comes after it.
use Rattle.std.proofs.Common.{arith}
use Rattle.glob_patterns.proofs.lemmas.BareNames.{after_last_slash}
use Rattle.glob_patterns.proofs.pattern.paths.Asked.subject_start.Goals as goal

pub returns-in-Some-clause-inside : goal.returns-in-Some-clause-inside
returns-in-Some-clause-inside c =
    let basename = c.requires c.in-Some.start c.in-Some.is in
    let inside = basename.after.inside in
    omega (arith, basename.some)

pub returns-in-Some-clause-bare : goal.returns-in-Some-clause-bare
returns-in-Some-clause-bare c = λ past.
    after_last_slash c.args.self.path.now c.in-Some.start (c.requires c.in-Some.start c.in-Some.is)
