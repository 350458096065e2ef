-- Parts that no path of a work tree has, and how a row of tokens comes to them.
use Rattle.std.proofs.Common.{◌≡◌, ◌⊎◌, inl, inr, ℕ, ◌≤◌, Bool, true, false, ◌&&◌, ◌==◌, cond, if◌then◌else◌, List, [], ◌∷◌, ◌++◌, length, refl, sym, ap, subst, ◌∙◌, append_assoc, append-nil, arith, ◌<◌, ◌+◌, get_or, length-append}
use Rattle.std.specs.Prelude.{codes}
use Rattle.std.proofs.Math.ListN.{get_or-append}
use Rattle.std.specs.Char.{to_ascii_lowercase}
use Rattle.std.specs.List.{list_all, onto_first}
use Rattle.std.proofs.lemmas.List.Splits.{length-slice_split}
use Rattle.std.proofs.lemmas.List.Folds.{list_all-append}
use Rattle.std.proofs.lemmas.Bool.{false≢true}
use Rattle.glob_matcher.specs.declared.wildmatch.tokens.TokenKind.{TokenKind}
use Rattle.glob_matcher.specs.declared.wildmatch.tokens.TokenKind.TheVariants as kind
use Rattle.glob_matcher.specs.declared.wildmatch.way.Way.{Way}
use Rattle.glob_matcher.specs.Bytes.{EndsInSlash, fold, folds, slash}
use Rattle.glob_matcher.specs.Matching.{Lang}
use Rattle.glob_matcher.specs.Tokens.{Token}
use Rattle.glob_matcher.proofs.lemmas.cutting.SlashLemmas.{fold_slash}
use Rattle.glob_matcher.proofs.lemmas.reading.TokenKinds.{token_is}
use Rattle.gix_glob.specs.Paths.{pieces}
use Rattle.glob_lint.specs.declared.nothing.Part.{Part}
use Rattle.glob_lint.specs.declared.nothing.Part.TheVariants.{Dot, Empty, Other, TwoDots}
use Rattle.glob_lint.specs.Lines.{IsReal, is_part}
use Rattle.glob_lint.specs.Private.Parts.{MatchesNoPath, StandsAt, StandsBehind}
use Rattle.glob_lint.specs.Private.Rows.{IsEnd, IsNext, Row}
use Rattle.glob_lint.specs.Private.Running.{Reaches}
use Rattle.glob_lint.proofs.lemmas.Running.{folders_append, reaches_next, slash_reached}

-- ---- the parts of a text in two

abbrev is_slash : ℕ → Bool
is_slash b = b == slash

onto_first_append : (b : ℕ) (ps qs : List (List ℕ)) → 1 ≤ length ps → onto_first b (ps ++ qs) ≡ onto_first b ps ++ qs
onto_first_append b [] qs some = absurd (omega arith)
onto_first_append b (p ∷ ps) qs some = refl

some_pieces : (xs : List ℕ) → 1 ≤ length (pieces xs)
some_pieces xs = omega (arith, length-slice_split is_slash xs)

pieces_append : (xs ys : List ℕ) → pieces (xs ++ slash ∷ ys) ≡ pieces xs ++ pieces ys
pieces_append [] ys = refl
pieces_append (x ∷ xs) ys = by (x == slash) (pieces_append xs ys) where
  by : (b : Bool) → pieces (xs ++ slash ∷ ys) ≡ pieces xs ++ pieces ys
      → cond b ([] ∷ pieces (xs ++ slash ∷ ys)) (onto_first x (pieces (xs ++ slash ∷ ys))) ≡ cond b ([] ∷ pieces xs) (onto_first x (pieces xs)) ++ pieces ys
  by true same = ap (λ (ps : List (List ℕ)). [] ∷ ps) same
  by false same = ap (onto_first x) same ∙ onto_first_append x (pieces xs) (pieces ys) (some_pieces xs)

-- each part is one that a path can have
abbrev AreParts : List ℕ → Type 0
AreParts text = list_all is_part (pieces text) ≡ true

both_true : (a b : Bool) → (a && b) ≡ true → (a ≡ true) × (b ≡ true)
both_true true true is = (refl, refl)
both_true true false is = absurd (false≢true is)
both_true false b is = absurd (false≢true is)

both_parts : (xs ys : List ℕ) → AreParts (xs ++ slash ∷ ys) → AreParts xs × AreParts ys
both_parts xs ys all = both_true (list_all is_part (pieces xs)) (list_all is_part (pieces ys))
    (sym (list_all-append is_part (pieces xs) (pieces ys)) ∙ ap (list_all is_part) (sym (pieces_append xs ys)) ∙ all)

rest_parts : (front rest : List ℕ) → (front ≡ []) ⊎ EndsInSlash front → AreParts (front ++ rest) → AreParts rest
rest_parts front rest (inl none) all = subst AreParts (ap (λ (xs : List ℕ). xs ++ rest) none) all
rest_parts front rest (inr ends) all =
    (both_parts ends.front rest (subst AreParts (ap (λ (xs : List ℕ). xs ++ rest) ends.joined ∙ append_assoc ends.front (slash ∷ []) rest) all)).1

-- a folder above a path that a work tree can have is one
pub folder_is_real : (folder below path : List ℕ) → path ≡ folder ++ slash ∷ below → IsReal path → IsReal folder
folder_is_real folder below path joined real =
    let long : length path ≡ length folder + length (slash ∷ below) = ap (λ (xs : List ℕ). length xs) joined ∙ length-append folder (slash ∷ below) in
    record {
      bytes = λ k d inside. subst (λ (b : ℕ). b < 256) (ap (λ (xs : List ℕ). get_or xs k d) joined ∙ get_or-append folder (slash ∷ below) d k inside)
          (real.bytes k d (omega arith));
      parts = (both_parts folder below (subst AreParts joined real.parts)).0;
    }

-- a byte whose lowercase form is a dot is one
dot_of_lowercase : (b : ℕ) → to_ascii_lowercase b ≡ 46 → b ≡ 46
dot_of_lowercase b is = grind arith

-- ---- what a row stands at

module _ (way : Way) (row later : Row) where
  behind_reaches : (text : List ℕ) → StandsBehind way row later text → Reaches way row later
  behind_reaches text stands = record {
    at = λ value cut.
        let x = stands.at value cut in
        record { piece = x.front ++ text; rest = x.rest; joined = x.joined ∙ sym (append_assoc x.front text x.rest); takes = tt; later = x.behind };
  }

  pub stands_reaches : (part : Part) → StandsAt way row later part → Reaches way row later
  stands_reaches Empty stands = behind_reaches [] stands
  stands_reaches Dot stands = behind_reaches (codes ".") stands
  stands_reaches TwoDots stands = behind_reaches (codes "..") stands
  stands_reaches Other stands = stands

  -- a part that is no part of a path ends
  ended_badly : (text : List ℕ) → list_all is_part (pieces text) ≡ false → IsEnd way later → StandsBehind way row later text → MatchesNoPath way row
  ended_badly text bad end stands = record {
    at = λ value real cut.
        let x = stands.at value cut in
        let same : value ≡ x.front ++ text = x.joined ∙ ap (λ (xs : List ℕ). x.front ++ (text ++ xs)) (end.out x.rest x.behind) ∙ ap (λ (xs : List ℕ). x.front ++ xs) (append-nil text) in
        false≢true (sym bad ∙ rest_parts x.front text x.whole (subst AreParts same real.parts));
  }

  pub part_ends_badly : (part : Part) → (part ≡ Other → ⊥) → IsEnd way later → StandsAt way row later part → MatchesNoPath way row
  part_ends_badly Empty other end stands = ended_badly [] refl end stands
  part_ends_badly Dot other end stands = ended_badly (codes ".") refl end stands
  part_ends_badly TwoDots other end stands = ended_badly (codes "..") refl end stands
  part_ends_badly Other other end stands = absurd (other refl)

  module _ (after : Row) where
    -- a token that matches nothing
    pub nothing_next : (part : Part) → StandsAt way row later part → IsNext way later kind.Nothing after → MatchesNoPath way row
    nothing_next part stands x = record {
      at = λ value real cut.
          let reached = (stands_reaches part stands).at value cut in
          let more = x.out reached.rest reached.later in
          subst (λ (t : Token). Lang way t more.piece) (token_is x.token (sym x.same_kind)) more.takes;
    }

    -- a slash ends a part
    slash_behind : (text : List ℕ) → list_all is_part (pieces text) ≡ false → IsNext way later (kind.Byte slash) after → StandsBehind way row later text → MatchesNoPath way row
    slash_behind text bad x stands = record {
      at = λ value real cut.
          let y = stands.at value cut in
          let more = x.out y.rest y.behind in
          let one = subst (λ (t : Token). Lang way t more.piece) (token_is x.token (sym x.same_kind)) more.takes in
          let byte : more.piece ≡ slash ∷ [] = one.1 ∙ ap (λ (b : ℕ). b ∷ []) (fold_slash way one.0 one.2) in
          let rest : y.rest ≡ slash ∷ more.rest = more.joined ∙ ap (λ (xs : List ℕ). xs ++ more.rest) byte in
          let same : value ≡ y.front ++ (text ++ slash ∷ more.rest) = y.joined ∙ ap (λ (xs : List ℕ). y.front ++ (text ++ xs)) rest in
          false≢true (sym bad ∙ (both_parts text more.rest (rest_parts y.front (text ++ slash ∷ more.rest) y.whole (subst AreParts same real.parts))).0);
    }

    pub slash_ends_badly : (part : Part) → (part ≡ Other → ⊥) → StandsAt way row later part → IsNext way later (kind.Byte slash) after → MatchesNoPath way row
    slash_ends_badly Empty other stands x = slash_behind [] refl x stands
    slash_ends_badly Dot other stands x = slash_behind (codes ".") refl x stands
    slash_ends_badly TwoDots other stands x = slash_behind (codes "..") refl x stands
    slash_ends_badly Other other stands x = absurd (other refl)

    pub slash_ends_well : Reaches way row later → IsNext way later (kind.Byte slash) after → StandsAt way row after Empty
    slash_ends_well reached x =
        let folders = slash_reached way row later after (kind.Byte slash) reached x refl in record {
          at = λ value cut.
              let y = folders.at value cut in
              record { front = y.piece; rest = y.rest; joined = y.joined; whole = y.takes; behind = y.later };
        }

    -- a dot
    dot_byte : (b : ℕ) → fold way b ≡ fold way 46 → b ≡ 46
    dot_byte b same = by (folds way) same where
      by : (f : Bool) → (if f then to_ascii_lowercase b else b) ≡ (if f then to_ascii_lowercase 46 else 46) → b ≡ 46
      by true e = dot_of_lowercase b e
      by false e = e

    dot_more : (text : List ℕ) → IsNext way later (kind.Byte 46) after → StandsBehind way row later text → StandsBehind way row after (text ++ 46 ∷ [])
    dot_more text x stands = record {
      at = λ value cut.
          let y = stands.at value cut in
          let more = x.out y.rest y.behind in
          let one = subst (λ (t : Token). Lang way t more.piece) (token_is x.token (sym x.same_kind)) more.takes in
          let byte : more.piece ≡ 46 ∷ [] = one.1 ∙ ap (λ (b : ℕ). b ∷ []) (dot_byte one.0 one.2) in
          let rest : y.rest ≡ 46 ∷ more.rest = more.joined ∙ ap (λ (xs : List ℕ). xs ++ more.rest) byte in
          record {
            front = y.front;
            rest = more.rest;
            joined = y.joined ∙ ap (λ (xs : List ℕ). y.front ++ (text ++ xs)) rest ∙ ap (λ (xs : List ℕ). y.front ++ xs) (sym (append_assoc text (46 ∷ []) more.rest));
            whole = y.whole;
            behind = more.later;
          };
    }

    pub first_dot : StandsAt way row later Empty → IsNext way later (kind.Byte 46) after → StandsAt way row after Dot
    first_dot stands x = dot_more [] x stands

    pub second_dot : StandsAt way row later Dot → IsNext way later (kind.Byte 46) after → StandsAt way row after TwoDots
    second_dot stands x = dot_more (codes ".") x stands

    -- folders of any name
    pub folders_behind : StandsAt way row later Empty → IsNext way later kind.Dirs after → StandsAt way row after Empty
    folders_behind stands x = record {
      at = λ value cut.
          let y = stands.at value cut in
          let more = x.out y.rest y.behind in
          let folders = subst (λ (t : Token). Lang way t more.piece) (token_is x.token (sym x.same_kind)) more.takes in
          record {
            front = y.front ++ more.piece;
            rest = more.rest;
            joined = y.joined ∙ ap (λ (xs : List ℕ). y.front ++ xs) more.joined ∙ sym (append_assoc y.front more.piece more.rest);
            whole = folders_append y.front more.piece y.whole folders;
            behind = more.later;
          };
    }

    -- any token
    pub other_behind : (part : Part) (next_kind : TokenKind) → StandsAt way row later part → IsNext way later next_kind after → StandsAt way row after Other
    other_behind part next_kind stands x = reaches_next way row later after next_kind (stands_reaches part stands) x

  -- nothing is read
  pub stands_first : StandsAt way row row Empty
  stands_first = record { at = λ value cut. record { front = []; rest = value; joined = refl; whole = inl refl; behind = cut } }
