-- A line's row of tokens matches what the line does.
use Rattle.std.proofs.Common.{◌≡◌, ◌⊎◌, inl, inr, ℕ, zero, suc, ◌+◌, ◌-◌, ◌<◌, ◌≤◌, Bool, true, false, not, ◌==◌, IsTrue, List, [], ◌∷◌, ◌++◌, length, get_or, take, drop, take_at, drop_at, map, Option, None, Some, refl, sym, ap, subst, ◌∙◌, take-append-drop, append_assoc, append-nil, arith, eq-eqb}
use Rattle.std.proofs.Math.Seq.{drop-append_seam, get_or-append_right, get_or-append_seam, take-suc}
use Rattle.std.proofs.lemmas.Bool.{false≢true}
use Rattle.std.proofs.lemmas.Bool.Decides.{eqb_tells}
use Rattle.std.proofs.lemmas.List.{length-take-le, length-append}
use Rattle.std.proofs.lemmas.List.Folds.{list_any_at}
use Rattle.std.specs.Option.{unwrap_or}
use Rattle.glob_matcher.specs.declared.wildmatch.way.Way.{Way}
use Rattle.glob_matcher.specs.Bytes.{EndsInSlash, HasByte, NoSlash, fold, has_slash, is_path, slash}
use Rattle.glob_matcher.specs.Matching.{Fits, IsCut, Lang, SplitsBy}
use Rattle.glob_matcher.specs.Tokens.{Any, Byte, Dirs, Free, From, Local, Nothing, OneOf, Token, TokenAt}
use Rattle.glob_matcher.proofs.lemmas.cutting.SlashLemmas.{fold_slash, no_slash_in_set}
use Rattle.glob_patterns.specs.declared.mode.Mode.{Mode}
use Rattle.glob_patterns.specs.declared.pattern.case.Case.{Case}
use Rattle.glob_patterns.specs.declared.pattern.case.Case.TheVariants.{Sensitive, Fold}
use Rattle.glob_patterns.specs.Folding.{folding_of}
use Rattle.glob_patterns.specs.GitPaths.{FrontAndRest, git_way}
use Rattle.glob_patterns.specs.Patterns.{first_special, is_for_directories, looks_at_name}
use Rattle.glob_patterns.specs.RepositoryPaths.{IsBasenameStart, subject}
use Rattle.glob_patterns.proofs.lemmas.FrontLemmas.{front_all, front_cut, front_inside, front_joined}
use Rattle.glob_patterns.proofs.lemmas.LiteralLemmas.{AreAlike-length}
use Rattle.glob_lists.specs.Rules.{by_git}
use Rattle.gix_glob.specs.Stripping.{RestOf}
use Rattle.glob_lists.specs.Deciding.{AnswersFor}
use Rattle.glob_lint.specs.Lines.{LineParts}
use Rattle.glob_lint.specs.Private.LineRows.{IsBytesOf, IsNameText, IsRowOf}
use Rattle.glob_lint.specs.Private.Rows.{in_front}
use Rattle.glob_lint.proofs.lemmas.Literals.{base_back, base_out, literal_back, literal_out}
use Rattle.glob_lint.proofs.lemmas.Running.{no_slash_append}

-- ---- names have no slash

way_is_path : (case : Case) → IsTrue (is_path (git_way case))
way_is_path Sensitive = refl
way_is_path Fold = refl

pub no_slash_at : (text : List ℕ) → has_slash text ≡ false → (i : ℕ) → HasByte text i slash → ⊥
no_slash_at text bare i h = false≢true (sym bare ∙ list_any_at (λ b. b == slash) text i 0 h.inside (eq-eqb _ _ h.is))

one_no_slash : (b : ℕ) → (b ≡ slash → ⊥) → NoSlash (b ∷ []) 0 1
one_no_slash b other = record { at = λ m low below is. (let first : m ≡ 0 = omega arith in other (subst (λ (n : ℕ). get_or (b ∷ []) n 0 ≡ slash) first is)) }

module _ (way : Way) (path : IsTrue (is_path way)) (text : List ℕ) (name : IsNameText text) where
  piece_no_slash : (t : Token) (i j : ℕ) (piece : List ℕ) → TokenAt way text i t j → Lang way t piece → NoSlash piece 0 (length piece)
  piece_no_slash (Byte b) i j piece here takes =
      let other : b ≡ slash → ⊥ = λ same. elim here [
        | inl escaped ↦ no_slash_at text name.bare (i + 1) (subst (λ (c : ℕ). HasByte text (i + 1) c) same escaped.0.byte)
        | inr bare ↦ no_slash_at text name.bare i (subst (λ (c : ℕ). HasByte text i c) same bare.0)
      ] in
      subst (λ (xs : List ℕ). NoSlash xs 0 (length xs)) (sym takes.1)
      (one_no_slash takes.0 (λ same. other (fold_slash way b (sym takes.2 ∙ ap (fold way) same))))
  piece_no_slash Any i j piece here takes =
      subst (λ (xs : List ℕ). NoSlash xs 0 (length xs)) (sym takes.1) (one_no_slash takes.0 (takes.2 path))
  piece_no_slash (OneOf set) i j piece here takes =
      subst (λ (xs : List ℕ). NoSlash xs 0 (length xs)) (sym takes.1)
      (one_no_slash takes.0 (λ same. no_slash_in_set way set path (subst (Fits way (OneOf set)) same takes.2)))
  piece_no_slash Free i j piece here takes =
      let bounded = (here.1 path).0 in
      absurd (elim bounded.before [
        | inr h ↦ no_slash_at text name.bare (i - 1) h
        | inl first ↦ elim bounded.after [
          | inr slashes ↦ elim slashes [ inl h ↦ no_slash_at text name.bare j h | inr h ↦ no_slash_at text name.bare (j + 1) h.byte ]
          | inl last ↦ name.few (omega (arith, bounded.many), λ m inside. (here.0.stars m (omega arith) (omega arith)).is)
        ]
      ])
  piece_no_slash Local i j piece here takes = takes
  piece_no_slash Dirs i j piece here takes = absurd (no_slash_at text name.bare here.run_end here.slash)
  piece_no_slash Nothing i j piece here takes = absurd takes

  name_no_slash : (ts : List Token) (i : ℕ) (value : List ℕ) → From way text i ts → IsCut way ts value → NoSlash value 0 (length value)
  name_no_slash [] i value read cut = record { at = λ m low below is. (let none : length value ≡ 0 = ap (λ (xs : List ℕ). length xs) cut in omega arith) }
  name_no_slash (t ∷ ts) i value read cut =
      subst (λ (xs : List ℕ). NoSlash xs 0 (length xs)) (sym cut.2)
      (no_slash_append cut.0 cut.1 (piece_no_slash t i read.0 cut.0 read.1 cut.3) (name_no_slash ts read.0 cut.1 read.2 cut.4))

-- ---- what the base leaves

-- the path is bytes that are alike to the base, and the rest
pub record BaseCut (case : Case) (bytes path rest : List ℕ) : Type 0 where
  pub front : List ℕ
  pub joined : path ≡ front ++ rest
  pub alike : folding_of (git_way case) front ≡ folding_of (git_way case) bytes

module _ (case : Case) where
  pub base_cut : (base : Option (List ℕ)) (bytes path rest : List ℕ) → IsBytesOf base bytes → RestOf case base path rest → BaseCut case bytes path rest
  base_cut None bytes path rest is left = record { front = []; joined = sym left; alike = ap (folding_of (git_way case)) (sym is) }
  base_cut (Some base) bytes path rest is left = record {
    front = left.front;
    joined = left.joined;
    alike = base_out case left.front base left.same ∙ ap (folding_of (git_way case)) (sym is);
  }

  none_alike : (front : List ℕ) → folding_of (git_way case) front ≡ [] → front ≡ []
  none_alike [] same = refl
  none_alike (c ∷ front) same = absurd (cc)

  base_joined : (base : Option (List ℕ)) (bytes path rest : List ℕ) → IsBytesOf base bytes → BaseCut case bytes path rest → RestOf case base path rest
  base_joined None bytes path rest is cut =
      sym (cut.joined ∙ ap (λ (xs : List ℕ). xs ++ rest) (none_alike cut.front (cut.alike ∙ ap (folding_of (git_way case)) is)))
  base_joined (Some base) bytes path rest is cut = record {
    front = cut.front;
    joined = cut.joined;
    same = base_back case cut.front base (cut.alike ∙ ap (folding_of (git_way case)) is);
  }

-- ---- a line that looks at names

-- behind the last slash, and before it
last_part : (way : Way) (ts : List Token) (mode : Mode) → looks_at_name mode ≡ true → (rest : List ℕ) (start : Option ℕ)
    → IsBasenameStart rest start → IsCut way ts (subject mode rest start) → IsCut way (Dirs ∷ ts) rest
last_part way ts mode looks rest None basename cut = ([], rest, refl, inl refl, cut)
last_part way ts mode looks rest (Some k) basename cut =
    let past : 0 < k = basename.some in
    let one : k ≡ suc (k - 1) = omega arith in
    let here : k - 1 < length rest = basename.after.inside in
    let byte : get_or rest (k - 1) 0 ≡ slash = basename.after.is in
    let front : take k rest ≡ take (k - 1) rest ++ slash ∷ [] =
    ap (λ n. take n rest) one ∙ take-suc rest (k - 1) 0 here ∙ ap (λ b. take (k - 1) rest ++ b ∷ []) byte in
    (take k rest, drop k rest, sym (take-append-drop k rest), inr (record { front = take (k - 1) rest; joined = front }), rw looks at cut)

no_slash_from : (rest front name : List ℕ) → rest ≡ front ++ name → NoSlash name 0 (length name) → (j : ℕ) → length front ≤ j → ¬ HasByte rest j slash
no_slash_from rest front name joined none j low h =
    let long : length rest ≡ length front + length name = ap (λ (xs : List ℕ). length xs) joined ∙ length-append front name in
    let inside : j < length rest = h.inside in
    none.at (j - length front) (omega arith) (omega arith)
    (sym (get_or-append_right front name j 0 low) ∙ ap (λ (xs : List ℕ). get_or xs j 0) (sym joined) ∙ h.is)

module _ (case : Case) (text : List ℕ) (mode : Mode) (is_dir : Bool) (looks : looks_at_name mode ≡ true) (dirs : IsTrue (is_for_directories mode) → is_dir ≡ true)
    (ts : List Token) (read : From (git_way case) text 0 ts) where
  name_answers : (rest front name : List ℕ) → rest ≡ front ++ name → (front ≡ []) ⊎ EndsInSlash front → NoSlash name 0 (length name)
      → IsCut (git_way case) ts name → AnswersFor text mode rest is_dir (by_git case)
  name_answers rest front name joined (inl none) bare cut =
      let same : name ≡ rest = sym (joined ∙ ap (λ (xs : List ℕ). xs ++ name) none) in
      let empty : length front ≡ 0 = ap (λ (xs : List ℕ). length xs) none in
      record {
        basename_start = None;
        basename = λ j. no_slash_from rest front name joined bare j (omega arith);
        answers = record {
          directory = λ t. ap (λ (b : Bool). Some b) (dirs t);
          by_name = λ t. record { tokens = ts; read = read; cut = subst (λ (xs : List ℕ). IsCut (git_way case) ts xs) same cut };
          by_path = λ t. absurd (false≢true (subst (λ (b : Bool). not b ≡ true) looks t));
        };
      }
  name_answers rest front name joined (inr ends) bare cut =
      let long : length front ≡ length ends.front + 1 = ap (λ (xs : List ℕ). length xs) ends.joined ∙ length-append ends.front (slash ∷ []) in
      let whole : length rest ≡ length front + length name = ap (λ (xs : List ℕ). length xs) joined ∙ length-append front name in
      let place : length front - 1 ≡ length ends.front = omega arith in
      let as_three : rest ≡ ends.front ++ slash ∷ name = joined ∙ ap (λ (xs : List ℕ). xs ++ name) ends.joined ∙ append_assoc ends.front (slash ∷ []) name in
      let byte : get_or rest (length front - 1) 0 ≡ slash =
      ap (λ (n : ℕ). get_or rest n 0) place ∙ ap (λ (xs : List ℕ). get_or xs (length ends.front) 0) as_three ∙ get_or-append_seam ends.front slash name 0 in
      let behind : drop (length front) rest ≡ name = ap (drop (length front)) joined ∙ drop-append_seam front name in
      record {
        basename_start = Some (length front);
        basename = record {
          some = omega arith;
          after = record { inside = omega arith; is = byte };
          last = no_slash_from rest front name joined bare;
        };
        answers = record {
          directory = λ t. ap (λ (b : Bool). Some b) (dirs t);
          by_name = λ t. rw looks (record { tokens = ts; read = read; cut = subst (λ (xs : List ℕ). IsCut (git_way case) ts xs) (sym behind) cut });
          by_path = λ t. absurd (false≢true (subst (λ (b : Bool). not b ≡ true) looks t));
        };
      }

module _ (case : Case) (line : LineParts) (bytes : List ℕ) (base : IsBytesOf line.base bytes) where
  same_bytes : folding_of (git_way case) bytes ≡ folding_of (git_way case) (bytes ++ [])
  same_bytes = ap (folding_of (git_way case)) (sym (append-nil bytes))

  pub name_row : looks_at_name line.mode ≡ true → IsNameText line.text
      → IsRowOf case line (record { bytes = bytes ++ []; any_folder = true; text = line.text; place = 0 })
  name_row looks name = record {
    out = λ path is_dir m.
        let left = base_cut case line.base bytes path m.rest base m.left in
        let s = m.answers.answers.by_name looks in
        let later = last_part (git_way case) s.tokens line.mode looks m.rest m.answers.basename_start m.answers.basename s.cut in
        record {
          tokens = s.tokens;
          read = s.read;
          cut = subst (IsCut (git_way case) (in_front (bytes ++ []) true s.tokens)) (sym left.joined)
              (literal_back (git_way case) (Dirs ∷ s.tokens) (bytes ++ []) left.front m.rest (left.alike ∙ same_bytes) later);
        };
    back = λ path is_dir dirs x.
        let l = literal_out (git_way case) (Dirs ∷ x.tokens) (bytes ++ []) path x.cut in
        let bare = name_no_slash (git_way case) (way_is_path case) line.text name x.tokens 0 l.later.1 x.read l.later.4 in
        record {
          rest = l.rest;
          left = base_joined case line.base bytes path l.rest base (record { front = l.front; joined = l.joined; alike = l.alike ∙ sym same_bytes });
          answers = name_answers case line.text line.mode is_dir looks dirs x.tokens x.read l.rest l.later.0 l.later.1 l.later.2 l.later.3 bare l.later.4;
        };
  }

-- ---- a line that looks at the whole path

-- the value is bytes that are alike to the front of the text up to a place, and what the text from there on matches
record IsCutAt (way : Way) (text : List ℕ) (n : ℕ) (value : List ℕ) : Type 0 where
  front : List ℕ
  rest : List ℕ
  joined : value ≡ front ++ rest
  alike : folding_of way front ≡ folding_of way (take n text)
  splits : SplitsBy rest (drop n text) way

-- where the literal front of the text ends
abbrev pub EndsFront : List ℕ → ℕ → Type 0
EndsFront text n = ((first_special text ≡ None) × (n ≡ 0)) ⊎ (first_special text ≡ Some n)

pub ends_front : (text : List ℕ) (place : Option ℕ) (n : ℕ) → place ≡ first_special text → n ≡ unwrap_or place 0 → EndsFront text n
ends_front text None n placed is = inl (sym placed, is)
ends_front text (Some m) n placed is = inr (sym placed ∙ ap (λ (k : ℕ). Some k) (sym is))

module _ (way : Way) (text value : List ℕ) where
  cut_out : (n : ℕ) → EndsFront text n → FrontAndRest value text way → IsCutAt way text n value
  cut_out n (inl (none, at_start)) x =
      subst (λ (m : ℕ). IsCutAt way text m value) (sym at_start)
      (record { front = []; rest = value; joined = refl; alike = refl; splits = (front_all value text way none).0 x })
  cut_out n (inr first) x =
      let cut = front_cut value text way n first x in
      let long : length (take n text) ≡ n = length-take-le n text (front_inside text n first) in
      record {
        front = take n value;
        rest = drop n value;
        joined = sym (take-append-drop n value);
        alike = ap (λ m. folding_of way (take m value)) (sym long) ∙ sym cut.0.alike;
        splits = cut.1;
      }

  cut_back : (n : ℕ) → EndsFront text n → IsCutAt way text n value → FrontAndRest value text way
  cut_back n (inl (none, at_start)) x =
      let y : IsCutAt way text 0 value = subst (λ (m : ℕ). IsCutAt way text m value) at_start x in
      let nothing : y.front ≡ [] = unfolded_none y.front y.alike in
      let same : y.rest ≡ value = sym (y.joined ∙ ap (λ (xs : List ℕ). xs ++ y.rest) nothing) in
      (front_all value text way none).1 (subst (λ (v : List ℕ). SplitsBy v text way) same y.splits) where
        unfolded_none : (front : List ℕ) → folding_of way front ≡ [] → front ≡ []
        unfolded_none [] same = refl
        unfolded_none (c ∷ front) same = absurd (cc)
  cut_back n (inr first) x =
      let inside : n ≤ length text = front_inside text n first in
      let long : length (take n text) ≡ n = length-take-le n text inside in
      let as_long : length x.front ≡ n = AreAlike-length way x.front (take n text) x.alike ∙ long in
      let begins : take n value ≡ x.front = ap (take n) x.joined ∙ take_at x.front x.rest n as_long in
      let below : drop n value ≡ x.rest = ap (drop n) x.joined ∙ drop_at x.front x.rest n as_long in
      let whole : length value ≡ length x.front + length x.rest = ap (λ (xs : List ℕ). length xs) x.joined ∙ length-append x.front x.rest in
      front_joined value text way n first
      (record {
        fits = omega arith;
        alike = sym x.alike ∙ ap (folding_of way) (sym begins) ∙ ap (λ m. folding_of way (take m value)) (sym long);
      })
      (subst (λ (v : List ℕ). SplitsBy v (drop n text) way) (sym below) x.splits)

-- each path has a place where its last part begins, or no slash
has_start : (path : List ℕ) → (start : Option ℕ) × IsBasenameStart path start
has_start [] = (None, λ j h. let inside = h.inside in omega arith)
has_start (b ∷ path) = by (has_start path).0 (has_start path).1 where
  none_later : (k : ℕ) → ((i : ℕ) → k ≤ i → ¬ HasByte path i slash) → (j : ℕ) → suc k ≤ j → HasByte (b ∷ path) j slash → ⊥
  none_later k none zero low h = omega arith
  none_later k none (suc i) low h = let inside = h.inside in none i (omega arith) (record { inside = omega arith; is = h.is })

  nowhere : (b ≡ slash → ⊥) → ((i : ℕ) → ¬ HasByte path i slash) → (j : ℕ) → HasByte (b ∷ path) j slash → ⊥
  nowhere other none zero h = other h.is
  nowhere other none (suc i) h = none_later 0 (λ i low. none i) (suc i) (omega arith) h

  by : (start : Option ℕ) → IsBasenameStart path start → (first : Option ℕ) × IsBasenameStart (b ∷ path) first
  by (Some k) last =
      let past : 0 < k = last.some in
      let inside : k - 1 < length path = last.after.inside in
      let place : suc (k - 1) ≡ suc k - 1 = omega arith in
      let byte : HasByte (b ∷ path) (suc (k - 1)) slash = record { inside = omega arith; is = last.after.is } in
      (Some (suc k), record { some = omega arith; after = subst (λ (n : ℕ). HasByte (b ∷ path) n slash) place byte; last = none_later k last.last })
  by None none = elim (eqb_tells b slash) [
    | inl same ↦ (Some 1, record { some = omega arith; after = record { inside = omega arith; is = same.1 }; last = none_later 0 (λ i low. none i) })
    | inr other ↦ (None, nowhere other.1 none)
  ]

-- the bytes in front, one after the other
two_fronts : (xs ys : List ℕ) (ts : List Token) → map (λ b. Byte b) (xs ++ ys) ++ ts ≡ map (λ b. Byte b) xs ++ (map (λ b. Byte b) ys ++ ts)
two_fronts [] ys ts = refl
two_fronts (x ∷ xs) ys ts = ap (λ (us : List Token). Byte x ∷ us) (two_fronts xs ys ts)

module _ (case : Case) (line : LineParts) (bytes : List ℕ) (base : IsBytesOf line.base bytes) (n : ℕ) (ends : EndsFront line.text n) (looks : looks_at_name line.mode ≡ false) where
  pub path_row : IsRowOf case line (record { bytes = bytes ++ take n line.text; any_folder = false; text = drop n line.text; place = 0 })
  path_row = record {
    out = λ path is_dir m.
        let way = git_way case in
        let left = base_cut case line.base bytes path m.rest base m.left in
        let x = cut_out way line.text m.rest n ends (m.answers.answers.by_path (ap not looks)) in
        record {
          tokens = x.splits.tokens;
          read = x.splits.read;
          cut = subst (IsCut way (in_front (bytes ++ take n line.text) false x.splits.tokens)) (sym left.joined)
              (subst (λ (us : List Token). IsCut way us (left.front ++ m.rest)) (sym (two_fronts bytes (take n line.text) x.splits.tokens))
              (literal_back way (map (λ b. Byte b) (take n line.text) ++ x.splits.tokens) bytes left.front m.rest left.alike
              (subst (IsCut way (map (λ b. Byte b) (take n line.text) ++ x.splits.tokens)) (sym x.joined)
              (literal_back way x.splits.tokens (take n line.text) x.front x.rest x.alike x.splits.cut))));
        };
    back = λ path is_dir dirs x.
        let way = git_way case in
        let l = literal_out way (map (λ b. Byte b) (take n line.text) ++ x.tokens) bytes path
        (subst (λ (us : List Token). IsCut way us path) (two_fronts bytes (take n line.text) x.tokens) x.cut) in
        let k = literal_out way x.tokens (take n line.text) l.rest l.later in
        let start = has_start l.rest in
        record {
          rest = l.rest;
          left = base_joined case line.base bytes path l.rest base (record { front = l.front; joined = l.joined; alike = l.alike });
          answers = record {
            basename_start = start.0;
            basename = start.1;
            answers = record {
              directory = λ t. ap (λ (b : Bool). Some b) (dirs t);
              by_name = λ t. absurd (false≢true (sym looks ∙ t));
              by_path = λ t. cut_back way line.text l.rest n ends
                  (record { front = k.front; rest = k.rest; joined = k.joined; alike = k.alike; splits = record { tokens = x.tokens; read = x.read; cut = k.later } });
            };
          };
        };
  }

  -- the same where front and rest are told by equations
  pub path_row_of : (front rest : List ℕ) → front ≡ take n line.text → rest ≡ drop n line.text
      → IsRowOf case line (record { bytes = bytes ++ front; any_folder = false; text = rest; place = 0 })
  path_row_of front rest is is_rest =
      subst (λ (xs : List ℕ). IsRowOf case line (record { bytes = bytes ++ xs; any_folder = false; text = rest; place = 0 })) (sym is)
      (subst (λ (xs : List ℕ). IsRowOf case line (record { bytes = bytes ++ take n line.text; any_folder = false; text = xs; place = 0 })) (sym is_rest) path_row)
