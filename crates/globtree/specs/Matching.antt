-- What `match-pathspec` writes of the paths that are read.
use Rattle.std.specs.Prelude.{◌≡◌, ◌⊎◌, ℕ, ◌==◌, Bool, false, true, not, List, [], ◌∷◌, ◌++◌, length, Option, None, Some, slice_get}
use Rattle.std.specs.Borrow.{Bor}
use Rattle.std.specs.Option.{option_map_or}
use Rattle.byte_streams.specs.Records.{TextOf}
use Rattle.git_paths.specs.declared.standpoint.Standpoint.{Standpoint}
use Rattle.pathspecs.specs.Lists.{IsWhich, Matches}
use Rattle.pathspecs.specs.Reading.{text_of}
use Rattle.tree_answers.specs.Lines.{behind, line_text}
use Rattle.tree_answers.specs.Records.{IsTextOf}
use Rattle.globtree.specs.declared.matching.PathMatcher.{PathMatcher}

-- the path that a told one names, from the top; a folder's has a slash at its end
abbrev pub named_path : Standpoint → List ℕ → Option (List ℕ)
named_path standpoint told = text_of standpoint (record { is_from_top = false; path = told })

-- the word at a place, and behind the last word no bytes
abbrev pub word_at : List (Bor (List ℕ)) → ℕ → List ℕ
word_at words place = option_map_or (λ word. word.now) (slice_get words place) []

-- what stands before a path that is matched: where it is asked for, the word that decides, and a tab or a NUL
abbrev pub IsHead : Bool → PathMatcher → List ℕ → List ℕ → Type 0
IsHead false matcher path head = head ≡ []
IsHead true matcher path head = (place : ℕ) × IsWhich matcher.list path place × (head ≡ word_at matcher.words.now place ++ behind matcher.form 9 ∷ [])

-- what is written about a told path: nothing where the list doesn't match it, else it is told as it was
abbrev pub IsMatchText : PathMatcher → List ℕ → List ℕ → Type 0
IsMatchText matcher told text = (path : List ℕ) × (named_path matcher.standpoint.now told ≡ Some path)
    × ((¬ Matches matcher.list path × (text ≡ []))
    ⊎ (Matches matcher.list path × ((head : List ℕ) × IsHead matcher.verbose matcher path head × (text ≡ head ++ line_text false matcher.form None told))))

-- the text is that of all records, and whether a path is matched is said
abbrev pub IsWholeText : PathMatcher → Bool → List (List ℕ) → List ℕ → Type 0
IsWholeText matcher is_any records text = TextOf (IsTextOf (IsMatchText matcher) matcher.form) records text × (is_any ≡ not (length text == 0))
