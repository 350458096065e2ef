use Rattle.std.proofs.Common.{◌-◌, length, arith}
use Rattle.glob_matcher.proofs.lemmas.cutting.PlaceLemmas.{component_found, component_last}
use Rattle.glob_matcher.proofs.wildmatch.pruned.Level.component_end.Goals as goal

pub returns-in-Some : goal.returns-in-Some
returns-in-Some c =
    let v = c.args.self.now.value.now in
    component_found v c.args.at (length v - c.args.at) c.in-Some.offset (omega arith) c.in-Some.ensures.0 c.in-Some.ensures.1

pub returns-in-None : goal.returns-in-None
returns-in-None c =
    let v = c.args.self.now.value.now in component_last v c.args.at (length v - c.args.at) (omega arith) c.in-None.ensures
