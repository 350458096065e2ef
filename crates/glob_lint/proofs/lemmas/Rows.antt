-- The next token of a row, and what it takes of a value.
use Rattle.std.proofs.Common.{◌≡◌, inl, inr, ℕ, ◌+◌, ◌-◌, ◌<◌, ◌≤◌, Bool, true, false, List, [], ◌∷◌, ◌++◌, length, get_or, take, drop, take_all, refl, sym, subst, ◌∙◌, arith}
use Rattle.glob_matcher.specs.declared.wildmatch.tokens.TokenKind.{TokenKind}
use Rattle.glob_matcher.specs.declared.wildmatch.tokens.TokenKind.TheVariants as kind
use Rattle.glob_matcher.specs.declared.wildmatch.way.Way.{Way}
use Rattle.glob_matcher.specs.Bytes.{HasByte}
use Rattle.glob_matcher.specs.Matching.{IsCut, Lang}
use Rattle.glob_matcher.specs.Tokens.{Byte, Dirs, From, IsToken, Token, TokenAt, kind_of}
use Rattle.glob_matcher.proofs.lemmas.reading.TokenKinds.{token_is}
use Rattle.glob_matcher.proofs.lemmas.reading.TokenLemmas.{TokenAt-inside, TokenAt-unique}
use Rattle.glob_lint.specs.Private.Rows.{IsEnd, IsNext, IsPartedBy, Row}

module _ (way : Way) where
  -- a byte that stands for itself
  pub byte_next : (b : ℕ) (bytes : List ℕ) (any_folder : Bool) (text : List ℕ) (place : ℕ)
      → IsNext way (record { bytes = b ∷ bytes; any_folder = any_folder; text = text; place = place }) (kind.Byte b)
      (record { bytes = bytes; any_folder = any_folder; text = text; place = place })
  byte_next b bytes any_folder text place = record {
    token = Byte b;
    same_kind = refl;
    out = λ value x. record { piece = x.cut.0; rest = x.cut.1; joined = x.cut.2; takes = x.cut.3; later = record { tokens = x.tokens; read = x.read; cut = x.cut.4 } };
    back = λ value x. record { tokens = x.later.tokens; read = x.later.read; cut = (x.piece, x.rest, x.joined, x.takes, x.later.cut) };
    set = λ is. absurd (cc);
    less = omega arith;
    same_text = refl;
    inside = λ h. h;
    low = omega arith;
    bare = λ b is one. absurd (omega arith);
  }

  -- folders of any name
  pub folders_next : (text : List ℕ) (place : ℕ)
      → IsNext way (record { bytes = []; any_folder = true; text = text; place = place }) kind.Dirs
      (record { bytes = []; any_folder = false; text = text; place = place })
  folders_next text place = record {
    token = Dirs;
    same_kind = refl;
    out = λ value x. record { piece = x.cut.0; rest = x.cut.1; joined = x.cut.2; takes = x.cut.3; later = record { tokens = x.tokens; read = x.read; cut = x.cut.4 } };
    back = λ value x. record { tokens = x.later.tokens; read = x.later.read; cut = (x.piece, x.rest, x.joined, x.takes, x.later.cut) };
    set = λ is. absurd (cc);
    less = omega arith;
    same_text = refl;
    inside = λ h. h;
    low = omega arith;
    bare = λ b is one. absurd (omega arith);
  }

  -- a token of the text
  pub text_next : (text : List ℕ) (place : ℕ) (kind : TokenKind) (end : ℕ) → IsToken way text place kind end
      → IsNext way (record { bytes = []; any_folder = false; text = text; place = place }) kind
      (record { bytes = []; any_folder = false; text = text; place = end })
  text_next text place kind end x = record {
    token = x.token;
    same_kind = x.same_kind;
    out = λ value y. parted value y.tokens y.read y.cut;
    back = λ value y. record { tokens = x.token ∷ y.later.tokens; read = (end, x.here, y.later.read); cut = (y.piece, y.rest, y.joined, y.takes, y.later.cut) };
    set = λ is. (TokenAt-inside way text place x.token end x.here, end, x.here);
    less = omega (arith, x.past, x.inside);
    same_text = refl;
    inside = λ h. x.inside;
    low = omega (arith, x.past);
    bare = λ b is one. bare_byte b one (subst (λ (t : Token). TokenAt way text place t end) (token_is x.token (sym x.same_kind ∙ is)) x.here);
  } where
    bare_byte : (b : ℕ) → end ≡ place + 1 → TokenAt way text place (Byte b) end → HasByte text place b
    bare_byte b one (inl escaped) = let two : end ≡ place + 2 = escaped.1 in absurd (omega arith)
    bare_byte b one (inr bare) = bare.0

    parted : (value : List ℕ) (ts : List Token) → From way text place ts → IsCut way ts value
        → IsPartedBy way x.token (record { bytes = []; any_folder = false; text = text; place = end }) value
    parted value [] read cut = let inside = TokenAt-inside way text place x.token end x.here in absurd (omega arith)
    parted value (t ∷ ts) read cut =
        let same = TokenAt-unique way text place t x.token read.0 end read.1 x.here in
        record {
          piece = cut.0;
          rest = cut.1;
          joined = cut.2;
          takes = subst (λ (u : Token). Lang way u cut.0) same.0 cut.3;
          later = record { tokens = ts; read = subst (λ (n : ℕ). From way text n ts) same.1 read.2; cut = cut.4 };
        }

  -- the end
  pub row_ends : (text : List ℕ) (place : ℕ) → place ≡ length text → IsEnd way (record { bytes = []; any_folder = false; text = text; place = place })
  row_ends text place at_end = record { out = λ value x. none value x.tokens x.read x.cut; back = record { tokens = []; read = at_end; cut = refl }; at_end = at_end } where
    none : (value : List ℕ) (ts : List Token) → From way text place ts → IsCut way ts value → value ≡ []
    none value [] read cut = cut
    none value (t ∷ ts) read cut = let inside = TokenAt-inside way text place t read.0 read.1 in absurd (omega arith)

  -- ---- the same of a row in two parts, as the code has it

  -- all but the first byte
  behind_first : (b : ℕ) (bytes : List ℕ) → bytes ≡ take (length (b ∷ bytes) - 1) (drop 1 (b ∷ bytes))
  behind_first b bytes = sym (take_all (length (b ∷ bytes) - 1) bytes (omega arith))

  -- a row in two parts
  abbrev pub parted_row : List ℕ → List ℕ → Bool → List ℕ → ℕ → Row
  parted_row base front any_folder text place = record { bytes = base ++ front; any_folder = any_folder; text = text; place = place }

  pub next_of_base : (base front : List ℕ) (any_folder : Bool) (text : List ℕ) (place : ℕ) → 1 ≤ length base
      → IsNext way (parted_row base front any_folder text place) (kind_of (Byte (get_or base 0 0)))
      (parted_row (take (length base - 1) (drop 1 base)) front any_folder text place)
  next_of_base [] front any_folder text place some = absurd (omega arith)
  next_of_base (b ∷ bytes) front any_folder text place some =
      subst (λ (xs : List ℕ). IsNext way (parted_row (b ∷ bytes) front any_folder text place) (kind_of (Byte b)) (parted_row xs front any_folder text place))
      (behind_first b bytes) (byte_next b (bytes ++ front) any_folder text place)

  pub next_of_front : (base front : List ℕ) (any_folder : Bool) (text : List ℕ) (place : ℕ) → length base < 1 → 1 ≤ length front
      → IsNext way (parted_row base front any_folder text place) (kind_of (Byte (get_or front 0 0)))
      (parted_row base (take (length front - 1) (drop 1 front)) any_folder text place)
  next_of_front (b ∷ base) front any_folder text place none some = absurd (omega arith)
  next_of_front [] [] any_folder text place none some = absurd (omega arith)
  next_of_front [] (b ∷ bytes) any_folder text place none some =
      subst (λ (xs : List ℕ). IsNext way (parted_row [] (b ∷ bytes) any_folder text place) (kind_of (Byte b)) (parted_row [] xs any_folder text place))
      (behind_first b bytes) (byte_next b bytes any_folder text place)

  -- behind the bytes
  module _ (text : List ℕ) (place : ℕ) where
    pub next_of_folders : (base front : List ℕ) (any_folder : Bool) → length base < 1 → length front < 1 → any_folder ≡ true
        → IsNext way (parted_row base front any_folder text place) (kind_of Dirs) (parted_row base front false text place)
    next_of_folders (b ∷ base) front any_folder none none_too is = absurd (omega arith)
    next_of_folders [] (b ∷ front) any_folder none none_too is = absurd (omega arith)
    next_of_folders [] [] true none none_too is = folders_next text place
    next_of_folders [] [] false none none_too is = absurd (cc)

    pub next_of_text : (base front : List ℕ) (any_folder : Bool) (end : ℕ) (read : TokenKind) → length base < 1 → length front < 1 → any_folder ≡ false
        → IsToken way text place read end → IsNext way (parted_row base front any_folder text place) read (parted_row base front any_folder text end)
    next_of_text (b ∷ base) front any_folder end read none none_too is token = absurd (omega arith)
    next_of_text [] (b ∷ front) any_folder end read none none_too is token = absurd (omega arith)
    next_of_text [] [] true end read none none_too is token = absurd (cc)
    next_of_text [] [] false end read none none_too is token = text_next text place read end token

    pub ends_in_parts : (base front : List ℕ) (any_folder : Bool) → length base < 1 → length front < 1 → any_folder ≡ false → place ≡ length text
        → IsEnd way (parted_row base front any_folder text place)
    ends_in_parts (b ∷ base) front any_folder none none_too is at_end = absurd (omega arith)
    ends_in_parts [] (b ∷ front) any_folder none none_too is at_end = absurd (omega arith)
    ends_in_parts [] [] true none none_too is at_end = absurd (cc)
    ends_in_parts [] [] false none none_too is at_end = row_ends text place at_end
