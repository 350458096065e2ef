-- Lists, one of which has other patterns.
use Rattle.std.proofs.Common.{◌≡◌, ℕ, zero, suc, ◌<◌, List, [], ◌∷◌, Some, get_or, length, map, refl, ap, sym, subst, ◌∙◌}
use Rattle.std.specs.Prelude.{Vec, slice_get, slice_set}
use Rattle.std.specs.declared.alloc.Global.{Global}
use Rattle.std.proofs.lemmas.List.{get_or-set_same, map-set, set-get_or}
use Rattle.std.proofs.lemmas.List.Elements.{All-set}
use Rattle.std.proofs.Math.Seq.{map-set_same}
use Rattle.gix_glob.specs.Entries.{Entry, entry_of}
use Rattle.gix_glob.specs.EntryLists.{EntryList, entry_list_of}
use Rattle.gix_glob.specs.declared.search.pattern.list.List as patterns
use Rattle.gix_glob.specs.declared.search.pattern.mapping.Mapping.{Mapping}
use Rattle.gix_glob.proofs.lemmas.Elements.{All-map_at, slice_get-map_at}
use Rattle.glob_lists.specs.Deciding.{BasesAreFolders, HasFolder}
use Rattle.glob_explain.specs.Causes.{seen}
use Rattle.glob_explain.specs.Trying.{with_entries}

-- of two writes to one place the second counts
pub set_over : {X : Type 0} (xs : List X) (i : ℕ) (x y : X) → slice_set (slice_set xs i x) i y ≡ slice_set xs i y
set_over [] i x y = refl
set_over (z ∷ zs) zero x y = refl
set_over (z ∷ zs) (suc i) x y = ap (λ rest. z ∷ rest) (set_over zs i x y)

-- what was at a place is put back
pub set_back : {X : Type 0} (xs : List X) (i : ℕ) (x y : X) → y ≡ get_or xs i y → slice_set (slice_set xs i x) i y ≡ xs
set_back xs i x y was = set_over xs i x y ∙ (ap (λ z. slice_set xs i z) was ∙ set-get_or xs i y)

module _ {T X : Type 0} where
  -- a list as plain data
  abbrev pub as_seen : patterns.List T X → EntryList (Unit {0})
  as_seen list = entry_list_of (λ _. tt) list

  -- a list with other patterns
  abbrev pub with_patterns : patterns.List T X → Vec (Mapping X) Global → patterns.List T X
  with_patterns list v = record { patterns = v; source = list.source; base = list.base }

  module _ (lists : List (patterns.List T X)) (i : ℕ) (held : patterns.List T X) (is : held ≡ get_or lists i held) (within : i < length lists) where
    pub there_seen : slice_get (seen lists) i ≡ Some (as_seen held)
    there_seen = slice_get-map_at as_seen lists i held within is

    module _ (v : Vec (Mapping X) Global) (entries : List (Entry (Unit {0}))) (holds : map (entry_of (λ _. tt)) v.items ≡ entries) where
      abbrev pub changed : List (patterns.List T X)
      changed = slice_set lists i (with_patterns (get_or lists i held) v)

      pub seen_changed : seen changed ≡ slice_set (seen lists) i (with_entries (as_seen held) entries)
      seen_changed =
          let like : as_seen (with_patterns (get_or lists i held) v) ≡ with_entries (as_seen held) entries =
          ap (λ (list : patterns.List T X). as_seen (with_patterns list v)) (sym is) ∙ ap (λ es. with_entries (as_seen held) es) holds in
          map-set as_seen lists i (with_patterns (get_or lists i held) v) ∙ ap (λ list. slice_set (seen lists) i list) like

      pub folders_changed : BasesAreFolders (seen lists) → BasesAreFolders (seen changed)
      folders_changed all =
          let folder : HasFolder (as_seen held) = All-map_at as_seen HasFolder lists i held all within is in
          subst BasesAreFolders (sym seen_changed) (All-set HasFolder (seen lists) i (with_entries (as_seen held) entries) folder all)

      pub held_changed : (other : patterns.List T X) → get_or changed i other ≡ with_patterns (get_or lists i held) v
      held_changed other = get_or-set_same lists i (with_patterns (get_or lists i held) v) other within

      pub changed_back : (other : patterns.List T X) (w : Vec (Mapping X) Global) → map (entry_of (λ _. tt)) w.items ≡ (as_seen held).entries
          → seen (slice_set changed i (with_patterns (get_or changed i other) w)) ≡ seen lists
      changed_back other w was =
          let back : patterns.List T X = with_patterns (get_or changed i other) w in
          let same : as_seen back ≡ as_seen (get_or lists i held) =
          ap (λ (list : patterns.List T X). as_seen (with_patterns list w)) (held_changed other)
          ∙ ap (λ es. with_entries (as_seen (get_or lists i held)) es) (was ∙ ap (λ (list : patterns.List T X). (as_seen list).entries) is) in
          ap seen (set_over lists i (with_patterns (get_or lists i held) v) back) ∙ map-set_same as_seen lists i back held same
