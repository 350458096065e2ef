-- Values that are the same after folding are matched by the same patterns.
use Rattle.std.proofs.Common.{◌≡◌, inl, inr, ℕ, IsTrue, List, [], ◌∷◌, ◌++◌, length, get_or, refl, sym, ap, subst, ◌∙◌, arith}
use Rattle.std.specs.Prelude.{◌==◌}
use Rattle.std.specs.List.{list_any}
use Rattle.gix_glob.specs.declared.wildmatch.Way.{Way}
use Rattle.glob_matcher.specs.declared.wildmatch.items.Item.{Item}
use Rattle.glob_matcher.specs.declared.wildmatch.items.Item.TheVariants as item
use Rattle.gix_glob.specs.Bytes.{EndsInSlash, fold, is_path, slash}
use Rattle.gix_glob.specs.Folding.{folding_of}
use Rattle.gix_glob.specs.Sets.{Set, item_holds, set_holds}
use Rattle.gix_glob.specs.Tokens.{Token, Byte, Any, OneOf, Free, Local, Dirs, Nothing}
use Rattle.gix_glob.specs.Matching.{IsCut, Lang, OneByte, SplitsBy}
use Rattle.glob_trees.proofs.lemmas.FoldedTexts.{as_long, byte_as, made_as, made_of_none, slash_as, slash_first}

module _ (way : Way) where
  -- ---- one byte

  item_as : (a b : ℕ) → fold way a ≡ fold way b → (x : Item) → item_holds way a x ≡ item_holds way b x
  item_as a b same (item.Member m) = rw same refl
  item_as a b same (item.Range low high) = rw same refl
  item_as a b same (item.Class class) = rw same refl

  items_as : (a b : ℕ) → fold way a ≡ fold way b → (xs : List Item) → list_any (item_holds way a) xs ≡ list_any (item_holds way b) xs
  items_as a b same [] = refl
  items_as a b same (x ∷ xs) = rw (item_as a b same x, items_as a b same xs) refl

  is_slash_as : (a b : ℕ) → fold way a ≡ fold way b → (a == slash) ≡ (b == slash)
  is_slash_as a b same = grind (arith, slash_as way a b same, slash_as way b a (sym same))

  set_as : (a b : ℕ) → fold way a ≡ fold way b → (set : Set) → set_holds way set a ≡ set_holds way set b
  set_as a b same set = rw (is_slash_as a b same, items_as a b same set.items) refl

  one_byte_as : (P : ℕ → Type 0) → ((a b : ℕ) → fold way a ≡ fold way b → P a → P b) → (piece other : List ℕ) → folding_of way piece ≡ folding_of way other → OneByte P piece → OneByte P other
  one_byte_as P holds_as piece [] same one = let is = one.1 in absurd (cc)
  one_byte_as P holds_as piece (b ∷ other) same one =
      let folded : folding_of way (one.0 ∷ []) ≡ folding_of way (b ∷ other) = ap (folding_of way) (sym one.1) ∙ same in
      let tails : folding_of way [] ≡ folding_of way other = cc in
      let heads : fold way one.0 ≡ fold way b = cc in
      (b, ap (λ l. b ∷ l) (made_of_none (fold way) other tails), holds_as one.0 b heads one.2)

  -- ---- one token

  ends_as : (piece other : List ℕ) → folding_of way piece ≡ folding_of way other → EndsInSlash piece → EndsInSlash other
  ends_as piece other same ends =
      let made = made_as (fold way) ends.front (slash ∷ []) other (ap (folding_of way) (sym ends.joined) ∙ same) in
      let last = slash_first way [] made.second made.rests in
      let only : made.second ≡ slash ∷ [] = last.1 ∙ ap (λ l. slash ∷ l) (made_of_none (fold way) last.0 last.2) in
      record { front = made.first; joined = made.joined ∙ ap (λ l. made.first ++ l) only }

  stands_for_as : (t : Token) (piece other : List ℕ) → folding_of way piece ≡ folding_of way other → Lang way t piece → Lang way t other
  stands_for_as (Byte c) piece other same one = one_byte_as (λ a. fold way a ≡ fold way c) (λ a b alike is. sym alike ∙ is) piece other same one
  stands_for_as Any piece other same one =
      one_byte_as (λ a. IsTrue (is_path way) → ¬ (a ≡ slash)) (λ a b alike none path is. none path (slash_as way b a (sym alike) is)) piece other same one
  stands_for_as (OneOf set) piece other same one =
      one_byte_as (λ a. IsTrue (set_holds way set a)) (λ a b alike holds. subst IsTrue (set_as a b alike set) holds) piece other same one
  stands_for_as Free piece other same all = tt
  stands_for_as Local piece other same none = record {
    at = λ m low high is.
        let long : length piece ≡ length other = as_long (fold way) piece other same in
        none.at m low (omega arith) (slash_as way (get_or other m 0) (get_or piece m 0) (sym (byte_as (fold way) piece other same m)) is);
  }
  stands_for_as Dirs piece other same (inl empty) = inl (made_of_none (fold way) other (ap (folding_of way) (sym empty) ∙ same))
  stands_for_as Dirs piece other same (inr ends) = inr (ends_as piece other same ends)
  stands_for_as Nothing piece other same none = none

  -- ---- the whole value

  cut_as : (ts : List Token) (value other : List ℕ) → folding_of way value ≡ folding_of way other → IsCut way ts value → IsCut way ts other
  cut_as [] value other same empty = made_of_none (fold way) other (ap (folding_of way) (sym empty) ∙ same)
  cut_as (t ∷ ts) value other same cut =
      let made = made_as (fold way) cut.0 cut.1 other (ap (folding_of way) (sym cut.2) ∙ same) in
      (made.first, made.second, made.joined, stands_for_as t cut.0 made.first made.fronts cut.3, cut_as ts cut.1 made.second made.rests cut.4)

  pub splits_as : (pattern value other : List ℕ) → folding_of way value ≡ folding_of way other → SplitsBy value pattern way → SplitsBy other pattern way
  splits_as pattern value other same splits = record { tokens = splits.tokens; read = splits.read; cut = cut_as splits.tokens value other same splits.cut }
