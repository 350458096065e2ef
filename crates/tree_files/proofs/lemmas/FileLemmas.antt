-- What files of patterns spell, as Git reads them.
use Rattle.std.specs.Prelude.{◌≡◌, ℕ, List, [], ◌∷◌, map}
use Rattle.std.proofs.Common.{refl, ap, ◌∙◌, inl, inr}
use Rattle.gix_glob.specs.EntryLists.{EntryList}
use Rattle.glob_lines.specs.Equations.GitLines.{git_entries_of}
use Rattle.glob_lines.specs.Plain.{PlainEntry}
use Rattle.tree_files.specs.FileLists.{IsOfFile, IsSpelled, plain}

-- entries that have no value are plain ones
plain_same : (entries : List PlainEntry) → map plain entries ≡ entries
plain_same [] = refl
plain_same (entry ∷ entries) = ap (λ more. entry ∷ more) (plain_same entries)

-- the patterns of a file's list are spelled by some bytes
pub file_is_spelled : (name : List ℕ) (list : EntryList (Unit {0})) → IsOfFile (λ bytes _. git_entries_of bytes) name list → IsSpelled name list
file_is_spelled name list (inl none) = record { bytes = []; spelled = ap (map plain) none; named = inl none }
file_is_spelled name list (inr (bytes, loaded)) = record { bytes = bytes; spelled = plain_same list.entries ∙ loaded.means; named = inr loaded.named }
