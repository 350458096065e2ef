-- Words that are read one after the other.
use Rattle.std.proofs.Common.{◌≡◌, ◌<◌, get_or, ℕ, zero, suc, Bool, true, List, [], ◌∷◌, ◌++◌, length, map, take, Option, None, Some, subst, sym, ap, ◌∙◌, arith}
use Rattle.std.specs.Prelude.{slice_get, if◌then◌else◌}
use Rattle.std.specs.List.{list_all}
use Rattle.std.specs.Option.{option_map}
use Rattle.std.proofs.lemmas.List.{length-map, length-take-le, map-append, take-map, take_at}
use Rattle.std.proofs.lemmas.Option.{slice_get-get_or, slice_get-map}

module _ {X Y : Type 0} (f : X → Option Y) where
  as_many : (words : List X) (items : List Y) → map f words ≡ map Some items → length items ≡ length words
  as_many words items read = sym (length-map items Some) ∙ sym (ap length read) ∙ length-map words f

  -- a word that is none
  none_at : (words more : List X) (place : ℕ) (word : X) → slice_get words place ≡ Some word → None ≡ f word → slice_get (map f (words ++ more)) place ≡ Some None
  none_at [] more place word there none = absurd (cc)
  none_at (w ∷ words) more zero word there none = ap (option_map f) there ∙ ap Some (sym none)
  none_at (w ∷ words) more (suc place) word there none = none_at words more place word there none

-- the first word that is none, where those before it are read: the words before it, and that it is none
module _ {X W Y : Type 0} (f : W → Option Y) (see : X → W) (words : List X) (i place : ℕ) (items : List Y) (low : i < length words) (is : place ≡ length items) (read : map f (map see (take i words)) ≡ map Some items) where
  as_far : place ≡ i
  as_far = is ∙ as_many f (map see (take i words)) items read ∙ length-map (take i words) see ∙ length-take-le i words (omega (arith, low))

  pub words_fail : (more : List W) (d : X) → None ≡ f (see (get_or words i d))
      → ((before : List Y) × (map f (take place (map see words)) ≡ map Some before)) × (slice_get (map f (map see words ++ more)) place ≡ Some None)
  words_fail more d none =
      let there : slice_get (map see words) i ≡ Some (see (get_or words i d)) = slice_get-map see words i ∙ ap (option_map see) (slice_get-get_or words i d low) in
      let before : map f (take place (map see words)) ≡ map Some items = ap (map f) (ap (λ n. take n (map see words)) as_far ∙ take-map see i words) ∙ read in
      ((items, before), subst (λ n. slice_get (map f (map see words ++ more)) n ≡ Some None) (sym as_far) (none_at f (map see words) more i (see (get_or words i d)) there none))

-- what all excludes are followed by
pub reads_here : {X Y : Type 0} (f : X → Option Y) (p : Y → Bool) (words : List X) (items whole : List Y) (word : X) (here : Y) → map f words ≡ map Some items → list_all p items ≡ true → Some here ≡ f word → whole ≡ items ++ here ∷ []
    → map Some whole ≡ map f (words ++ (if list_all p (take (length words) whole) then word ∷ [] else []))
reads_here {Y = Y} f p words items whole word here read tested is joined =
    let own : take (length words) whole ≡ items = ap (take (length words)) joined ∙ take_at items (here ∷ []) (length words) (as_many f words items read) in
    ap (map Some) joined ∙ map-append Some items (here ∷ []) ∙ ap (λ (os : List (Option Y)). os ++ Some here ∷ []) (sym read) ∙ ap (λ (o : Option Y). map f words ++ o ∷ []) is ∙ sym (map-append f words (word ∷ []))
    ∙ ap (λ (b : Bool). map f (words ++ (if b then word ∷ [] else []))) (sym tested ∙ ap (list_all p) (sym own))
