-- What a byte does, by what is known of it.
use Rattle.std.proofs.Common.{◌≡◌, ⊎_elim, ℕ, Bool, true, false, cond, not, eqb, List, [], ◌∷◌, ◌++◌, length, Some, None, refl, sym, ap, ◌∙◌, eq-eqb}
use Rattle.std.specs.Prelude.{◌&&◌, ◌||◌, ◌==◌}
use Rattle.std.specs.Char.{is_ascii_alphabetic, to_ascii_lowercase}
use Rattle.std.proofs.lemmas.Bool.{cases_Bool, eqb-true, false≢true, ne_eqb}
use Rattle.git_config.specs.declared.fault.Wrong.TheVariants.{Mark, Outside, Head, Subsection, Name, Escape}
use Rattle.git_config.specs.declared.item.Item.TheVariants.{Section}
use Rattle.git_config.specs.Grammar.{Part, Place, front, behind_mark, between, in_comment, in_head, in_gap, in_quotes, behind_quotes, in_name, in_value, in_escape, in_tail, goes, gives, fails, before_zero, entry_of, escaped, filled, is_blank, is_gap, is_head_byte, is_mark, is_name_byte, is_space, line_behind, no_part, place_behind, turn, turn_escaped, with_blank, with_byte}
use Rattle.git_config.specs.Private.Taking.{turn_mark}
use Rattle.git_config.proofs.lemmas.ReadLemmas.{if_false, if_true}

-- a byte that is no line feed leaves the line
pub same_line : (line b : ℕ) → (b ≡ 10 → ⊥) → line_behind line b ≡ line
same_line line b h = if_false (eqb b 10) _ _ (ne_eqb b 10 h)

module _ (line b : ℕ) where
  -- ---- comments
  pub comment-feed : b ≡ 10 → turn line in_comment b ≡ goes between
  comment-feed e = ap (λ (x : ℕ). turn line in_comment x) e

  pub comment-byte : (b ≡ 10 → ⊥) → turn line in_comment b ≡ goes in_comment
  comment-byte h = if_false (eqb b 10) _ _ (ne_eqb b 10 h)

  pub tail-feed : (name bytes : List ℕ) → b ≡ 10 → turn line (in_tail name bytes) b ≡ gives (entry_of name (Some (before_zero bytes)) line)
  tail-feed name bytes e = ap (λ (x : ℕ). turn line (in_tail name bytes) x) e

  pub tail-byte : (name bytes : List ℕ) → (b ≡ 10 → ⊥) → turn line (in_tail name bytes) b ≡ goes (in_tail name bytes)
  tail-byte name bytes h = if_false (eqb b 10) _ _ (ne_eqb b 10 h)

  -- ---- the head of a section
  pub head-name : (name : List ℕ) → is_head_byte b ≡ true → turn line (in_head name) b ≡ goes (in_head (name ++ to_ascii_lowercase b ∷ []))
  head-name name h = if_true (is_head_byte b) _ _ h

  pub head-space : (name : List ℕ) → is_head_byte b ≡ false → is_space b ≡ true → turn line (in_head name) b ≡ goes (in_gap name)
  head-space name h s = if_false (is_head_byte b) _ _ h ∙ if_true (is_space b) _ _ s

  pub head-end : (name : List ℕ) → is_head_byte b ≡ false → is_space b ≡ false → (b == 93 && not (length name == 0)) ≡ true
      → turn line (in_head name) b ≡ gives (Section (name ++ 46 ∷ []))
  head-end name h s e = if_false (is_head_byte b) _ _ h ∙ if_false (is_space b) _ _ s ∙ if_true (b == 93 && not (length name == 0)) _ _ e

  pub head-fails : (name : List ℕ) → is_head_byte b ≡ false → is_space b ≡ false → (b == 93 && not (length name == 0)) ≡ false
      → turn line (in_head name) b ≡ fails Head line
  head-fails name h s e = if_false (is_head_byte b) _ _ h ∙ if_false (is_space b) _ _ s ∙ if_false (b == 93 && not (length name == 0)) _ _ e

  pub gap-quote : (name : List ℕ) → b ≡ 34 → turn line (in_gap name) b ≡ goes (in_quotes false (name ++ 46 ∷ []))
  gap-quote name e = ap (λ (x : ℕ). turn line (in_gap name) x) e

  pub gap-space : (name : List ℕ) → (b ≡ 34 → ⊥) → is_space b ≡ true → turn line (in_gap name) b ≡ goes (in_gap name)
  gap-space name h s = if_false (eqb b 34) _ _ (ne_eqb b 34 h) ∙ if_true (is_space b) _ _ s

  pub gap-fails : (name : List ℕ) → (b ≡ 34 → ⊥) → is_space b ≡ false → turn line (in_gap name) b ≡ fails Head line
  gap-fails name h s = if_false (eqb b 34) _ _ (ne_eqb b 34 h) ∙ if_false (is_space b) _ _ s

  pub quotes-feed : (behind : Bool) (key : List ℕ) → b ≡ 10 → turn line (in_quotes behind key) b ≡ fails Subsection line
  quotes-feed behind key e = ap (λ (x : ℕ). turn line (in_quotes behind key) x) e

  pub quotes-escaped : (key : List ℕ) → (b ≡ 10 → ⊥) → turn line (in_quotes true key) b ≡ goes (in_quotes false (key ++ b ∷ []))
  quotes-escaped key h = if_false (eqb b 10) _ _ (ne_eqb b 10 h)

  pub quotes-end : (key : List ℕ) → b ≡ 34 → turn line (in_quotes false key) b ≡ goes (behind_quotes key)
  quotes-end key e = ap (λ (x : ℕ). turn line (in_quotes false key) x) e

  pub quotes-backslash : (key : List ℕ) → b ≡ 92 → turn line (in_quotes false key) b ≡ goes (in_quotes true key)
  quotes-backslash key e = ap (λ (x : ℕ). turn line (in_quotes false key) x) e

  pub quotes-byte : (key : List ℕ) → (b ≡ 10 → ⊥) → (b ≡ 34 → ⊥) → (b ≡ 92 → ⊥) → turn line (in_quotes false key) b ≡ goes (in_quotes false (key ++ b ∷ []))
  quotes-byte key f q s = if_false (eqb b 10) _ _ (ne_eqb b 10 f) ∙ if_false (eqb b 34) _ _ (ne_eqb b 34 q) ∙ if_false (eqb b 92) _ _ (ne_eqb b 92 s)

  pub end-bracket : (key : List ℕ) → b ≡ 93 → turn line (behind_quotes key) b ≡ gives (Section (key ++ 46 ∷ []))
  end-bracket key e = ap (λ (x : ℕ). turn line (behind_quotes key) x) e

  pub end-fails : (key : List ℕ) → (b ≡ 93 → ⊥) → turn line (behind_quotes key) b ≡ fails Head (line_behind line b)
  end-fails key h = if_false (eqb b 93) _ _ (ne_eqb b 93 h)

  -- ---- the name of an entry
  pub name-feed : (ended : Bool) (name : List ℕ) → b ≡ 10 → turn line (in_name ended name) b ≡ gives (entry_of name None line)
  name-feed ended name e = ap (λ (x : ℕ). turn line (in_name ended name) x) e

  pub name-equals : (ended : Bool) (name : List ℕ) → b ≡ 61 → turn line (in_name ended name) b ≡ goes (in_value name no_part)
  name-equals ended name e = ap (λ (x : ℕ). turn line (in_name ended name) x) e

  name-other : (ended : Bool) (name : List ℕ) → (b ≡ 10 → ⊥) → (b ≡ 61 → ⊥) → turn line (in_name ended name) b
      ≡ cond (is_gap b) (goes (in_name true name)) (cond (is_name_byte b && not ended) (goes (in_name false (name ++ to_ascii_lowercase b ∷ []))) (fails Name line))
  name-other ended name f q = if_false (eqb b 10) _ _ (ne_eqb b 10 f) ∙ if_false (eqb b 61) _ _ (ne_eqb b 61 q)

  pub name-gap : (ended : Bool) (name : List ℕ) → (b ≡ 10 → ⊥) → (b ≡ 61 → ⊥) → is_gap b ≡ true → turn line (in_name ended name) b ≡ goes (in_name true name)
  name-gap ended name f q g = name-other ended name f q ∙ if_true (is_gap b) _ _ g

  pub name-byte : (ended : Bool) (name : List ℕ) → (b ≡ 10 → ⊥) → (b ≡ 61 → ⊥) → is_gap b ≡ false → (is_name_byte b && not ended) ≡ true
      → turn line (in_name ended name) b ≡ goes (in_name false (name ++ to_ascii_lowercase b ∷ []))
  name-byte ended name f q g n = name-other ended name f q ∙ if_false (is_gap b) _ _ g ∙ if_true (is_name_byte b && not ended) _ _ n

  pub name-fails : (ended : Bool) (name : List ℕ) → (b ≡ 10 → ⊥) → (b ≡ 61 → ⊥) → is_gap b ≡ false → (is_name_byte b && not ended) ≡ false
      → turn line (in_name ended name) b ≡ fails Name line
  name-fails ended name f q g n = name-other ended name f q ∙ if_false (is_gap b) _ _ g ∙ if_false (is_name_byte b && not ended) _ _ n

  -- ---- the value of an entry
  value-other : (name : List ℕ) (part : Part) → (b ≡ 10 → ⊥) → turn line (in_value name part) b
      ≡ cond (is_blank b && not part.quoted) (goes (in_value name (with_blank part))) (cond (is_mark b && not part.quoted) (goes (in_tail name part.bytes)) (goes (place_behind name (filled part) b)))
  value-other name part h = if_false (eqb b 10) _ _ (ne_eqb b 10 h)

  pub value-blank : (name : List ℕ) (part : Part) → (b ≡ 10 → ⊥) → (is_blank b && not part.quoted) ≡ true → turn line (in_value name part) b ≡ goes (in_value name (with_blank part))
  value-blank name part h k = value-other name part h ∙ if_true (is_blank b && not part.quoted) _ _ k

  pub value-mark : (name : List ℕ) (part : Part) → (b ≡ 10 → ⊥) → (is_blank b && not part.quoted) ≡ false → (is_mark b && not part.quoted) ≡ true
      → turn line (in_value name part) b ≡ goes (in_tail name part.bytes)
  value-mark name part h k m = value-other name part h ∙ if_false (is_blank b && not part.quoted) _ _ k ∙ if_true (is_mark b && not part.quoted) _ _ m

  pub value-byte : (name : List ℕ) (part : Part) → (b ≡ 10 → ⊥) → (is_blank b && not part.quoted) ≡ false → (is_mark b && not part.quoted) ≡ false
      → turn line (in_value name part) b ≡ goes (place_behind name (filled part) b)
  value-byte name part h k m = value-other name part h ∙ if_false (is_blank b && not part.quoted) _ _ k ∙ if_false (is_mark b && not part.quoted) _ _ m

  pub escape-feed : (name : List ℕ) (part : Part) → b ≡ 10 → turn line (in_escape name part) b ≡ goes (in_value name part)
  escape-feed name part e = ap (λ (x : ℕ). turn line (in_escape name part) x) e

  pub escape-byte : (name : List ℕ) (part : Part) (meant : ℕ) → (b ≡ 10 → ⊥) → escaped b ≡ Some meant → turn line (in_escape name part) b ≡ goes (in_value name (with_byte part meant))
  escape-byte name part meant h e = if_false (eqb b 10) _ _ (ne_eqb b 10 h) ∙ ap (λ m. turn_escaped line name part m) e

  pub escape-fails : (name : List ℕ) (part : Part) → (b ≡ 10 → ⊥) → escaped b ≡ None → turn line (in_escape name part) b ≡ fails Escape line
  escape-fails name part h e = if_false (eqb b 10) _ _ (ne_eqb b 10 h) ∙ ap (λ m. turn_escaped line name part m) e

  -- ---- between items
  pub between-blank : is_blank b ≡ true → turn line between b ≡ goes between
  between-blank h = if_true (is_blank b) _ _ h

  pub between-mark : is_blank b ≡ false → is_mark b ≡ true → turn line between b ≡ goes in_comment
  between-mark h m = if_false (is_blank b) _ _ h ∙ if_true (is_mark b) _ _ m

  pub between-head : b ≡ 91 → turn line between b ≡ goes (in_head [])
  between-head e = ap (λ (x : ℕ). turn line between x) e

  pub between-name : is_blank b ≡ false → is_mark b ≡ false → (b ≡ 91 → ⊥) → is_ascii_alphabetic b ≡ true → turn line between b ≡ goes (in_name false (to_ascii_lowercase b ∷ []))
  between-name h m k a = if_false (is_blank b) _ _ h ∙ if_false (is_mark b) _ _ m ∙ if_false (eqb b 91) _ _ (ne_eqb b 91 k) ∙ if_true (is_ascii_alphabetic b) _ _ a

  pub between-fails : is_blank b ≡ false → is_mark b ≡ false → (b ≡ 91 → ⊥) → is_ascii_alphabetic b ≡ false → turn line between b ≡ fails Outside line
  between-fails h m k a = if_false (is_blank b) _ _ h ∙ if_false (is_mark b) _ _ m ∙ if_false (eqb b 91) _ _ (ne_eqb b 91 k) ∙ if_false (is_ascii_alphabetic b) _ _ a

  -- ---- the front
  pub front-mark : b ≡ 239 → turn line front b ≡ goes (behind_mark false)
  front-mark e = ap (λ (x : ℕ). turn line front x) e

  pub front-between : (b ≡ 239 → ⊥) → turn line front b ≡ turn line between b
  front-between h = if_false (eqb b 239) _ _ (ne_eqb b 239 h)

  pub mark-byte : (wanted : ℕ) (place next : Place) → ((x : ℕ) → turn line place x ≡ turn_mark line wanted next x) → b ≡ wanted → turn line place b ≡ goes next
  mark-byte wanted place next is e = is b ∙ if_true (eqb b wanted) _ _ (eq-eqb b wanted e)

  pub mark-fails : (wanted : ℕ) (place next : Place) → ((x : ℕ) → turn line place x ≡ turn_mark line wanted next x) → (b ≡ wanted → ⊥) → turn line place b ≡ fails Mark (line_behind line b)
  mark-fails wanted place next is h = is b ∙ if_false (eqb b wanted) _ _ (ne_eqb b wanted h)

-- a blank that no line ends with is no line feed
pub space-no_feed : (b : ℕ) → is_space b ≡ true → b ≡ 10 → ⊥
space-no_feed b s e = false≢true (ap (λ (x : ℕ). is_space x) (sym e) ∙ s)

-- what is no blank is no line feed
pub blank-no_feed : (b : ℕ) → is_blank b ≡ false → b ≡ 10 → ⊥
blank-no_feed b s e = false≢true (sym s ∙ ap (λ (x : ℕ). is_blank x) e)

-- what begins a comment is no blank
pub mark-no_blank : (b : ℕ) → is_mark b ≡ true → is_blank b ≡ false
mark-no_blank b m =
    ⊎_elim
    (λ (yes : (b == 35) ≡ true). ap (λ (x : ℕ). is_blank x) (eqb-true b 35 yes))
    (λ (no : (b == 35) ≡ false). let is : (b == 59) ≡ true = sym (ap (λ (t : Bool). t || b == 59) no) ∙ m in ap (λ (x : ℕ). is_blank x) (eqb-true b 59 is))
    (cases_Bool (b == 35))

-- a name that goes on has not ended
no_and : (x : Bool) → (x && false) ≡ true → ⊥
no_and true h = false≢true h
no_and false h = false≢true h

pub not_ended : (x ended : Bool) → (x && not ended) ≡ true → ended ≡ false
not_ended x false h = refl
not_ended x true h = absurd (no_and x h)
