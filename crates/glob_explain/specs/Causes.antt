-- Why a path is ignored, or isn't.
use Rattle.std.specs.Prelude.{◌≡◌, Bool, true, false, List, None, Some, map, take}
use Rattle.glob_lists.specs.declared.rules.Rules.{Rules}
use Rattle.gix_glob.specs.EntryLists.{EntryList, entry_list_of}
use Rattle.gix_glob.specs.declared.search.pattern.list.List as patterns
use Rattle.glob_lists.specs.Deciding.{Decides}
use Rattle.glob_lists.specs.Paths.{Path}
use Rattle.glob_trees.specs.Trees.{HasNoneIgnored, IsBelowIgnored, IsPositiveAt}
use Rattle.glob_explain.specs.declared.cause.Cause.{Cause}
use Rattle.glob_explain.specs.declared.cause.Cause.TheVariants.{Ignored, InFolder, TakenBack, Unmatched}

-- lists as plain data: no value stands beside their lines
abbrev pub seen : {T X : Type 0} → List (patterns.List T X) → List (EntryList (Unit {0}))
seen lists = map (entry_list_of (λ _. tt)) lists

-- whether the path is ignored
abbrev pub ignores : Cause → Bool
ignores (InFolder folder) = true
ignores (Ignored pair) = true
ignores cause = false

-- The topmost ignored folder above the path; where there is none, the line that decides about the path by itself, by its sign.
abbrev pub IsCause : {V : Type 0} → List (EntryList V) → Rules → Path → Cause → Type 0
IsCause lists rules path (InFolder folder) = (below : IsBelowIgnored lists rules path.bytes folder.pair) × (below.folder ≡ take folder.length path.bytes)
IsCause lists rules path (Ignored pair) = HasNoneIgnored lists rules path.bytes × Decides lists path.bytes path.is_dir rules (Some pair) × IsPositiveAt lists pair
IsCause lists rules path (TakenBack pair) = HasNoneIgnored lists rules path.bytes × Decides lists path.bytes path.is_dir rules (Some pair) × (¬ IsPositiveAt lists pair)
IsCause lists rules path Unmatched = HasNoneIgnored lists rules path.bytes × Decides lists path.bytes path.is_dir rules None
