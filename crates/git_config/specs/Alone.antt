-- What a file says by itself, without what it includes.
use Rattle.std.specs.Prelude.{ℕ, List, [], ◌∷◌, Some}
use Rattle.git_config.specs.declared.item.Item.{Item}
use Rattle.git_config.specs.declared.item.Item.TheVariants.{Section, Sets}
use Rattle.git_config.specs.Configuration.{Seen}

-- the entries among items of a file of this path, from this section on
abbrev pub alone_from : List ℕ → List ℕ → List (Item (List ℕ)) → List Seen
alone_from path section [] = []
alone_from path section (Section next ∷ items) = alone_from path next items
alone_from path section (Sets entry ∷ items) = record { file = Some path; section = section; entry = entry } ∷ alone_from path section items
