-- Which path a record names, and what may be written for it.
use Rattle.std.specs.Prelude.{◌≡◌, ◌⊎◌, ℕ, Bool, false, true, ◌==◌, nat_eq, List, Some, codes}
use Rattle.std.specs.List.{before_first, starts_with}
use Rattle.glob_attributes.specs.Heads.{IsQuotedHead}
use Rattle.git_paths.specs.Paths.{below, names_folder, parts_of, walk}
use Rattle.tree_answers.specs.declared.form.Form.{Form}
use Rattle.tree_answers.specs.declared.form.Form.TheVariants.{Lines, Records}

-- names that lead where they say, wherever they are told
abbrev pub LeadsAsTold : List ℕ → Type 0
LeadsAsTold told = (path : List ℕ) → (walk path (parts_of told) ≡ Some (below path told)) × (names_folder false (parts_of told) ≡ false)

-- the byte that ends a name wherever it comes from
abbrev pub is_zero : ℕ → Bool
is_zero b = b == 0

-- whether a name stands in quotes: in lines alone, however names are quoted in answers
abbrev pub begins_with_quote : Form → List ℕ → Bool
begins_with_quote (Lines quoting) name = starts_with nat_eq name (codes "\"")
begins_with_quote Records name = false

-- the told path that a text spells between quotes, up to the first byte 0
abbrev pub SpellsPath : List ℕ → List ℕ → Type 0
SpellsPath quoted told = (name rest : List ℕ) × IsQuotedHead quoted name rest × (told ≡ before_first is_zero name)

-- The told path that a record names: what stands before the first byte 0, or what that spells between quotes, again up to the first
-- byte 0.
abbrev pub NamesPath : Form → List ℕ → List ℕ → Type 0
NamesPath form bytes told =
    ((begins_with_quote form (before_first is_zero bytes) ≡ false) × (told ≡ before_first is_zero bytes))
    ⊎ ((begins_with_quote form (before_first is_zero bytes) ≡ true) × SpellsPath (before_first is_zero bytes) told)

-- the text of the path that a record names: `Answers told text` says what may be written for a told path
abbrev pub IsTextOf : (List ℕ → List ℕ → Type 0) → Form → List ℕ → List ℕ → Type 0
IsTextOf Answers form bytes text = (told : List ℕ) × NamesPath form bytes told × Answers told text
