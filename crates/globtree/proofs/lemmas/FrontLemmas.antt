-- The lists that stand before those of all folders.
use Rattle.std.proofs.Common.{◌≡◌, ℕ, List, [], ◌∷◌, refl, ap, subst, sym, ◌∙◌, inl, inr, length, map, take}
use Rattle.gix_glob.specs.EntryLists.{EntryList, entry_list_of}
use Rattle.gix_glob.specs.declared.search.pattern.list.List as patterns
use Rattle.glob_lines.specs.Equations.GitLines.{git_entries_of}
use Rattle.glob_lines.specs.Plain.{PlainEntry}
use Rattle.tree_files.specs.FileLists.{IsOfFile, plain}
use Rattle.globtree.specs.Answers.{AreFronts, IsOfSomeFile}

take_all : {A B : Type 0} (f : A → B) (items : List A) → take (length items) (map f items) ≡ map f items
take_all f [] = refl
take_all f (x ∷ items) = ap (λ more. f x ∷ more) (take_all f items)

-- what holds of the lists that a tree is made of holds of those that it begins with
pub fronts_of_tree : {T X : Type 0} (count : ℕ) (all items : List (patterns.List T X)) → count ≡ length items → all ≡ items
    → AreFronts (length items) (map (entry_list_of (λ _. tt)) items) → AreFronts count (take count (map (entry_list_of (λ _. tt)) all))
fronts_of_tree {T} {X} count all items counted same are =
    let see : patterns.List T X → EntryList (Unit {0}) = entry_list_of (λ _. tt) in
    subst (λ n. AreFronts n (take n (map see all))) (sym counted)
    (subst (λ lists. AreFronts (length items) (take (length items) (map see lists))) (sym same)
    (subst (AreFronts (length items)) (sym (take_all see items)) are))

-- entries that have no value are plain ones
plain_same : (entries : List PlainEntry) → map plain entries ≡ entries
plain_same [] = refl
plain_same (entry ∷ entries) = ap (λ more. entry ∷ more) (plain_same entries)

-- the list of a file has what some bytes spell
pub file_spells : (name : List ℕ) (list : EntryList (Unit {0})) → IsOfFile (λ bytes _. git_entries_of bytes) name list → IsOfSomeFile list
file_spells name list (inl none) = (name, record { bytes = []; spelled = ap (map plain) none; named = inl none })
file_spells name list (inr (bytes, loaded)) = (name, record { bytes = bytes; spelled = plain_same list.entries ∙ loaded.means; named = inr loaded.named })
