-- Each of the lists has the base of a folder.
use Rattle.gix_glob.proofs.lemmas.Elements.{All-map_at}
use Rattle.glob_lists.specs.Deciding.{HasFolder}
use Rattle.glob_explain.proofs.lemmas.Putting.{as_seen}
use Rattle.glob_explain.proofs.near.Search.candidates.Goals as goal

pub add_of_list-requires : goal.add_of_list-requires
add_of_list-requires c = All-map_at as_seen HasFolder c.args.lists.now c.places.at c.index-lists-at.result c.requires c.places-test.true c.index-lists-at.is
