-- The numbers of the mappings that answer, one mapping after the other, and what is made of them.
use Rattle.std.proofs.Common.{◌≡◌, ℕ, List, [], ◌∷◌, ◌++◌, map, Option, refl, sym, ap, subst, ◌∙◌, append_assoc, append-nil}
use Rattle.std.specs.Prelude.{◌↔◌, decimal}
use Rattle.std.proofs.lemmas.List.{map_push}
use Rattle.gix_glob.specs.declared.pattern.Case.{Case}
use Rattle.gix_glob.specs.Paths.{Base}
use Rattle.glob_lists.specs.Rules.{by_crate}
use Rattle.glob_lines.specs.Mappings.{MappingsText}
use Rattle.glob_lines.specs.Numbers.{Picks, text_of_numbers}
use Rattle.glob_lines.specs.Plain.{Plain, PlainEntry}
use Rattle.glob_lines.specs.Equations.Plain.{plain_of}
use Rattle.glob_lines.specs.Private.Answering.{MatchesText}
use Rattle.glob_lines.proofs.lemmas.NumbersLemmas.{Picks-more, Picks-skip, separator_after, text_of_numbers-more}

abbrev pub numbers_of : List PlainEntry → List ℕ
numbers_of entries = map (λ entry. entry.number) entries

-- The text grew by the numbers of those of the entries that answer, and the separator is what stands before a next one.
pub record IsListedUpTo (P : PlainEntry → Type 0) (entries : List PlainEntry) (old text separator : List ℕ) : Type 0 where
  pub chosen : List PlainEntry
  pub picks : Picks P entries chosen
  pub grown : text ≡ old ++ text_of_numbers (numbers_of chosen)
  pub separates : separator ≡ separator_after (numbers_of chosen)

module _ (P : PlainEntry → Type 0) where
  pub IsListedUpTo-none : (entries : List PlainEntry) (old text separator : List ℕ) → entries ≡ [] → text ≡ old → separator ≡ [] → IsListedUpTo P entries old text separator
  IsListedUpTo-none entries old text separator none same empty = record {
    chosen = [];
    picks = rw none refl;
    grown = same ∙ sym (append-nil old);
    separates = empty;
  }

  pub IsListedUpTo-skip : (entries more : List PlainEntry) (entry : PlainEntry) (old text separator : List ℕ) → IsListedUpTo P entries old text separator → more ≡ entries ++ entry ∷ [] → ¬ P entry
      → IsListedUpTo P more old text separator
  IsListedUpTo-skip entries more entry old text separator h is p = record {
    chosen = h.chosen;
    picks = rw is (Picks-skip P entries h.chosen entry h.picks p);
    grown = h.grown;
    separates = h.separates;
  }

  separator_after-push : (numbers : List ℕ) (n : ℕ) → separator_after (numbers ++ n ∷ []) ≡ 32 ∷ []
  separator_after-push [] n = refl
  separator_after-push (m ∷ numbers) n = refl

  pub IsListedUpTo-more : (entries more : List PlainEntry) (entry : PlainEntry) (old text separator new next : List ℕ) → IsListedUpTo P entries old text separator → more ≡ entries ++ entry ∷ [] → P entry
      → new ≡ (text ++ separator) ++ decimal entry.number → next ≡ 32 ∷ [] → IsListedUpTo P more old new next
  IsListedUpTo-more entries more entry old text separator new next h is p e s =
      let numbers : numbers_of (h.chosen ++ entry ∷ []) ≡ numbers_of h.chosen ++ entry.number ∷ [] = map_push (λ x. x.number) h.chosen entry in
      record {
        chosen = h.chosen ++ entry ∷ [];
        picks = rw is (Picks-more P entries h.chosen entry h.picks p);
        grown = e
            ∙ append_assoc text separator (decimal entry.number)
            ∙ ap (λ l. l ++ (separator ++ decimal entry.number)) h.grown
            ∙ append_assoc old (text_of_numbers (numbers_of h.chosen)) (separator ++ decimal entry.number)
            ∙ ap (λ l. old ++ (text_of_numbers (numbers_of h.chosen) ++ (l ++ decimal entry.number))) h.separates
            ∙ ap (λ l. old ++ l) (sym (ap text_of_numbers numbers ∙ text_of_numbers-more (numbers_of h.chosen) entry.number));
        separates = s ∙ sym (ap separator_after numbers ∙ separator_after-push (numbers_of h.chosen) entry.number);
      }

-- ---- a path line

-- ---- all path lines

-- what was given to the calls is what was read
pub mappings_text : (patterns paths source given_patterns given_paths given_source : List ℕ) (root : Option (List ℕ)) (case : Case) (entries : List PlainEntry) (base : Option (List ℕ)) (text : List ℕ)
    → ((bytes : List ℕ) (plain : List PlainEntry) → Plain bytes plain ↔ (plain ≡ plain_of bytes))
    → given_patterns ≡ patterns → given_paths ≡ paths → given_source ≡ source → entries ≡ plain_of given_patterns → Base given_source root base → MatchesText entries base (by_crate case) given_paths text
    → MappingsText source root case (record { patterns = patterns; paths = paths }) text
mappings_text patterns paths source given_patterns given_paths given_source root case entries base text law p q s means based matches = record {
  entries = entries;
  meant = (law patterns entries).1 (means ∙ ap plain_of p);
  base = base;
  based = subst (λ l. Base l root base) s based;
  matches = subst (λ l. MatchesText entries base (by_crate case) l text) q matches;
}
