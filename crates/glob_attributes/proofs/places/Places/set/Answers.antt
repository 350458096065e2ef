-- The map has the number at the name, and what it had at each other name.
use Rattle.std.proofs.Common.{Some, nat_cmp, ap, ◌∙◌}
use Rattle.std.specs.Prelude.{if◌then◌else◌}
use Rattle.std.specs.Map.{lookup}
use Rattle.std.specs.BTreeMap.{is_at}
use Rattle.std.specs.Cmp.Lexicographic.{slice_cmp}
use Rattle.std.specs.Str.{bytes_eq}
use Rattle.std.specs.Vec.{vec_items}
use Rattle.glob_attributes.specs.Private.Places.{place_in}
use Rattle.glob_attributes.proofs.lemmas.TreeLemmas.{lookup-inserted}
use Rattle.glob_attributes.proofs.places.Places.set.Goals as goal

pub returns-clause-set : goal.returns-clause-set
returns-clause-set c = λ other.
    ap (lookup (is_at (λ key. slice_cmp nat_cmp other (vec_items key)))) c.in_ok-insert.ensures.entries
    ∙ lookup-inserted c.in_ok-key.key c.args.place other c.args.self.now.places.entries
    ∙ ap (λ n. if bytes_eq n other then Some c.args.place else place_in c.args.self.now other) c.in_ok-key.ensures.items
