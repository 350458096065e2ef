-- What is answered of paths in turn.
use Rattle.std.proofs.Common.{◌≡◌, ℕ, suc, ◌+◌, ◌<◌, List, [], ◌∷◌, ◌++◌, map, take, drop, length, get_or, refl, sym, ap, ◌∙◌}
use Rattle.std.proofs.Math.Seq.{drop-cons}
use Rattle.std.specs.List.{AllZip, zip}
use Rattle.std.proofs.lemmas.List.{map-append, take-append-drop, take_more}
use Rattle.byte_streams.specs.Records.{TextOf}
use Rattle.byte_streams.proofs.lemmas.RecordLemmas.{TextOf-more, TextOf-one, TextOf-weaker}
use Rattle.tree_answers.specs.declared.form.Form.{Form}
use Rattle.tree_answers.specs.Records.{IsTextOf, NamesPath}
use Rattle.tree_commands.specs.Answering.{TextOfNamed}

-- the elements up to a place, and the next one
module _ {X Y : Type 0} (f : X → Y) (xs : List X) (i : ℕ) (d : X) (low : i < length xs) where
  pub map_take_more : map f (take i xs) ++ f (get_or xs i d) ∷ [] ≡ map f (take (i + 1) xs)
  map_take_more = sym (ap (map f) (take_more xs i d low) ∙ map-append f (take i xs) (get_or xs i d ∷ []))

  pub map_split : map f xs ≡ map f (take i xs) ++ f (get_or xs i d) ∷ map f (drop (suc i) xs)
  map_split =
      sym (ap (map f) (take-append-drop i xs))
      ∙ (map-append f (take i xs) (drop i xs)
      ∙ ap (λ rest. map f (take i xs) ++ map f rest) (drop-cons xs i d low))

pub map_parts : {X Y : Type 0} (f : X → Y) (xs : List X) (i : ℕ) → map f xs ≡ map f (take i xs) ++ map f (drop i xs)
map_parts f xs i = sym (ap (map f) (take-append-drop i xs)) ∙ map-append f (take i xs) (drop i xs)

module _ (Before After : List ℕ → List ℕ → Type 0) (stays : (told text : List ℕ) → Before told text → After told text) where
  -- one more was answered
  pub text_more : (first : List (List ℕ)) (text : List ℕ) → TextOf Before first text → (told added : List ℕ) → After told added → TextOf After (first ++ told ∷ []) (text ++ added)
  text_more first text texts told added answer = TextOf-more After first (told ∷ []) text added (TextOf-weaker Before After stays first text texts) (TextOf-one After told added answer)

-- what is written of the paths that records name is written of the records
module _ (Answers : List ℕ → List ℕ → Type 0) (form : Form) where
  each_named : (records paths written : List (List ℕ)) → AllZip (NamesPath form) records paths → AllZip Answers paths written → AllZip (IsTextOf Answers form) records written
  each_named [] [] [] names answers = tt
  each_named [] [] (text ∷ written) names answers = absurd answers
  each_named [] (told ∷ paths) written names answers = absurd names
  each_named (bytes ∷ records) [] written names answers = absurd names
  each_named (bytes ∷ records) (told ∷ paths) [] names answers = absurd answers
  each_named (bytes ∷ records) (told ∷ paths) (text ∷ written) names answers = ((told, names.0, answers.0), each_named records paths written names.1 answers.1)

  pub texts_named : (records : List (List ℕ)) (text : List ℕ) → TextOfNamed (TextOf Answers) form records text → TextOf (IsTextOf Answers form) records text
  texts_named records text (paths, names, texts) = record { written = texts.written; each = each_named records paths texts.written names texts.each; joined = texts.joined }

-- the elements of two lists beside those of two others
pub zip_joined : {X Y : Type 0} (R : X → Y → Type 0) (xs zs : List X) (ys ws : List Y) → AllZip R xs ys → zip (xs ++ zs) (ys ++ ws) ≡ zip xs ys ++ zip zs ws
zip_joined R [] zs [] ws each = refl
zip_joined R [] zs (y ∷ ys) ws each = absurd each
zip_joined R (x ∷ xs) zs [] ws each = absurd each
zip_joined R (x ∷ xs) zs (y ∷ ys) ws each = ap (λ pairs. (x, y) ∷ pairs) (zip_joined R xs zs ys ws each.1)
