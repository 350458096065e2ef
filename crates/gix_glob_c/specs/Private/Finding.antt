-- The lines that match a path, as they are found from the first one on.
use Rattle.std.specs.Prelude.{◌≡◌, ℕ, List, length, map, slice_get}
use Rattle.std.specs.List.{flat_map}
use Rattle.std.specs.Option.{option_map_or}
use Rattle.glob_lists.specs.declared.rules.Rules.{Rules}
use Rattle.glob_lists.specs.Paths.{Path}
use Rattle.glob_lists.specs.Private.Matching.{AreMatchesUpTo}
use Rattle.glob_attributes.specs.States.{Assigned, assigned_at}
use Rattle.gix_glob_c.specs.declared.attributes.GlobAttributeList.{GlobAttributeList}
use Rattle.gix_glob_c.specs.Attributes.{attribute_list}

-- the row is what the lines before (j, n) assign that match the path
pub record IsFoundUpTo (lists : List GlobAttributeList) (path : Path) (rules : Rules) (j n : ℕ) (row : List Assigned) : Type 0 where
  pub pairs : List (ℕ × ℕ)
  pub found : AreMatchesUpTo (map attribute_list lists) path.bytes path.is_dir rules j n pairs
  pub same : row ≡ flat_map (assigned_at (map attribute_list lists)) pairs

-- how many lines the list at a place has
abbrev pub lines_at : List GlobAttributeList → ℕ → ℕ
lines_at lists i = option_map_or (λ list. length list.lines.now) (slice_get lists i) 0
