-- The lines of an ignore file as Git reads them: what one gives, and the entries of all.
use Rattle.std.proofs.Common.{◌≡◌, ◌≢◌, ◌⊎◌, inl, inr, ⊎_elim, ℕ, ◌-◌, ◌≤◌, Bool, true, false, cond, List, [], ◌∷◌, ◌++◌, length, take, Option, None, Some, refl, sym, ap, subst, ◌∙◌, length-append, take_at, take_all, le_refl, arith}
use Rattle.std.specs.Prelude.{◌↔◌, ◌==◌, MatchOption}
use Rattle.std.specs.List.{position_or_len}
use Rattle.std.specs.Option.{option_map}
use Rattle.std.specs.Str.{bytes_eq}
use Rattle.std.proofs.lemmas.List.{append_cancel_left}
use Rattle.std.proofs.lemmas.Bool.{cases_Bool, false≢true, ne_eqb, or_from, or_parts}
use Rattle.gix_glob.specs.declared.pattern.Mode.{Mode}
use Rattle.gix_glob.specs.GitLines.{GitReads}
use Rattle.gix_glob.specs.Equations.Readings.{Reading}
use Rattle.gix_glob.specs.Equations.GitLines.{git_reading_of}
use Rattle.glob_lines.specs.GitLines.{BeginsWithGitLine, GivesGitText, GivesNothing, before_zero, return_of}
use Rattle.glob_lines.specs.Ignore.{is_comment, without_mark}
use Rattle.glob_lines.specs.Lines.{CutsLine, EndsInFeed, line_feed}
use Rattle.byte_streams.specs.Records.{HasNo, IsCutAt}
use Rattle.glob_lines.specs.Equations.Entries.{LineContent}
use Rattle.glob_lines.specs.Equations.GitLines.{git_content, git_reading, git_text, is_silent, without_return}
use Rattle.glob_lines.specs.Equations.Ignore.{text_before_spaces}
use Rattle.glob_lines.specs.Equations.Lines.{lines_of}
use Rattle.glob_lines.proofs.lemmas.EntriesLemmas.{Tells, TellsReadings}
use Rattle.glob_lines.proofs.lemmas.IgnoreLemmas.{before_return, length-without_mark-le}
use Rattle.glob_lines.proofs.lemmas.LinesLemmas.{first_line_cut, length-lines_of-le}
use Rattle.glob_lines.proofs.lemmas.TrimLemmas.{Trims-only, Trims-text_before_spaces}

-- the law `git_readings_are_these`, restated: a lemma can't cite a clause
abbrev pub GitReadingsAreThese : Type 0
GitReadingsAreThese = (line text : List ℕ) (mode : Mode) (place : Option ℕ) → GitReads line text mode place ↔ (git_reading_of line ≡ record { text = text; mode = mode; place = place })

pub TellsReadings-git : GitReadingsAreThese → TellsReadings GitReads git_reading
TellsReadings-git these = λ line text mode place.
    let reading : Reading = record { text = text; mode = mode; place = place } in (
      λ r. ap Some ((these line text mode place).0 r),
      λ (is : Some (git_reading_of line) ≡ Some reading). (these line text mode place).1 (let same : git_reading_of line ≡ reading = cc in same),
    )

-- ---- a line

pub CutsLine-at_feed : (bytes line rest : List ℕ) → IsCutAt line_feed bytes line rest → CutsLine EndsInFeed bytes line rest
CutsLine-at_feed bytes line rest at = record { whole = at.none; ending = line_feed ∷ []; joined = at.joined; ended = inl refl }

-- ---- the first byte 0

abbrev is_zero : ℕ → Bool
is_zero b = b == 0

place-zero : (text rest : List ℕ) → HasNo 0 text → position_or_len is_zero (text ++ 0 ∷ rest) ≡ length text
place-zero [] rest none = refl
place-zero (b ∷ text) rest none = let more = place-zero text rest none.1 in rw (ne_eqb b 0 none.0) (omega arith)

place-none : (text : List ℕ) → HasNo 0 text → position_or_len is_zero text ≡ length text
place-none [] none = refl
place-none (b ∷ text) none = let more = place-none text none.1 in rw (ne_eqb b 0 none.0) (omega arith)

pub before_zero-cut : (bytes front rest : List ℕ) → IsCutAt 0 bytes front rest → before_zero bytes ≡ front
before_zero-cut bytes front rest at =
    ap before_zero at.joined ∙ ap (λ n. take n (front ++ 0 ∷ rest)) (place-zero front rest at.none) ∙ take_at front (0 ∷ rest) (length front) refl

pub before_zero-none : (bytes : List ℕ) → HasNo 0 bytes → before_zero bytes ≡ bytes
before_zero-none bytes none = ap (λ n. take n bytes) (place-none bytes none) ∙ take_all (length bytes) bytes (le_refl _)

-- ---- the carriage return

pub without_return-is : (line body : List ℕ) → line ≡ body ++ return_of line → without_return line ≡ body
unfolding without_return
without_return-is line body is =
    let long : length line - length (return_of line) ≡ length body = omega (arith, ap length is, length-append body (return_of line)) in
    ap (λ n. take n line) long ∙ ap (take (length body)) is ∙ take_at body (return_of line) (length body) refl

pub return-rest : (line : List ℕ) → line ≡ without_return line ++ return_of line
return-rest line = let body = before_return line in body.1 ∙ ap (λ l. l ++ return_of line) (sym (without_return-is line body.0 body.1))

-- ---- what a line gives

git_text-is : (line text : List ℕ) → GivesGitText line text tt → text ≡ git_text line
unfolding git_text
git_text-is line text h =
    Trims-only (before_zero h.body) text h.trims ∙ sym (ap (λ b. text_before_spaces (before_zero b)) (without_return-is line h.body h.returned))

GivesGitText-text : (line : List ℕ) → line ≢ [] → is_comment line ≡ false → GivesGitText line (git_text line) tt
unfolding git_text
GivesGitText-text line some other = record {
  some = some;
  no_comment = other;
  body = without_return line;
  returned = return-rest line;
  trims = Trims-text_before_spaces (before_zero (without_return line));
}

none_is : (line : List ℕ) → bytes_eq line [] ≡ true → line ≡ []
none_is [] is = refl
none_is (b ∷ line) is = absurd (false≢true is)

none_isn't : (line : List ℕ) → line ≢ [] → bytes_eq line [] ≡ false
none_isn't [] some = absurd (some refl)
none_isn't (b ∷ line) some = refl

some_isn't : (line : List ℕ) → bytes_eq line [] ≡ false → line ≢ []
some_isn't line is none = false≢true (sym is ∙ ap (λ l. bytes_eq l []) none)

loud : (line text : List ℕ) → GivesGitText line text tt → is_silent line ≡ false
loud line text h = or_from (bytes_eq line []) (is_comment line) (none_isn't line h.some) h.no_comment

silent : (line : List ℕ) → GivesNothing line → is_silent line ≡ true
silent line (inl none) = ap (λ l. is_silent l) none
silent line (inr comment) = rw comment (⊎_elim (λ yes. rw yes refl) (λ no. rw no refl) (cases_Bool (bytes_eq line [])))

abbrev content : List ℕ → LineContent (Unit {0})
content text = record { text = text; value = tt }

GivesGitText-content : (line : List ℕ) (it : LineContent (Unit {0})) → git_content line ≡ Some it → GivesGitText line it.text it.value
GivesGitText-content line it is =
    ⊎_elim
    (λ (quiet : is_silent line ≡ true). let none : None ≡ Some it = sym (ap (λ b. cond b None (Some (content (git_text line)))) quiet) ∙ is in absurd (cc))
    (λ (other : is_silent line ≡ false).
    let both : Some (content (git_text line)) ≡ Some it = sym (ap (λ b. cond b None (Some (content (git_text line)))) other) ∙ is in
    let same : content (git_text line) ≡ it = cc in
    let text : git_text line ≡ it.text = ap (λ (x : LineContent (Unit {0})). x.text) same in
    let parts = or_parts (bytes_eq line []) (is_comment line) other in
    subst (λ t. GivesGitText line t tt) text (GivesGitText-text line (some_isn't line parts.0) parts.1))
    (cases_Bool (is_silent line))

pub Tells-git_content : Tells GivesGitText git_content
Tells-git_content = record {
  found = λ line text value h. ap (λ b. cond b None (Some (content (git_text line)))) (loud line text h) ∙ ap (λ l. Some (content l)) (sym (git_text-is line text h));
  gives = GivesGitText-content;
}

-- what a line gives, by equation
pub git_content-is : (line : List ℕ) (text : Option (List ℕ)) → MatchOption text (GivesNothing line) (λ t. GivesGitText line t tt)
    → git_content line ≡ option_map (λ t. record { text = t; value = tt }) text
git_content-is line None nothing = ap (λ b. cond b None (Some (content (git_text line)))) (silent line nothing)
git_content-is line (Some text) h = Tells-git_content.found line text tt h

-- ---- one first line

one_text : (line : List ℕ) (text other : Option (List ℕ)) → MatchOption text (GivesNothing line) (λ t. GivesGitText line t tt)
    → MatchOption other (GivesNothing line) (λ t. GivesGitText line t tt) → text ≡ other
one_text line None None x y = refl
one_text line None (Some other) x y = absurd (false≢true (sym (loud line other y) ∙ silent line x))
one_text line (Some text) None x y = absurd (false≢true (sym (loud line text x) ∙ silent line y))
one_text line (Some text) (Some other) x y = ap Some (git_text-is line text x ∙ sym (git_text-is line other y))

-- how a line of bytes ends, and what is left then
abbrev EndsBefore : List ℕ → List ℕ → List ℕ → Type 0
EndsBefore line ending rest = EndsInFeed line ending ⊎ ((line ≢ []) × (ending ≡ []) × (rest ≡ []))

feed_is_some : (ending rest : List ℕ) → ending ≡ line_feed ∷ [] → ending ++ rest ≡ [] → ⊥
feed_is_some ending rest feed none = omega (arith, length-append ending rest, ap length none, ap length feed)

one_rest : (line e rest f left : List ℕ) → EndsBefore line e rest → EndsBefore line f left → e ++ rest ≡ f ++ left → rest ≡ left
one_rest line e rest f left (inl x) (inl y) same = append_cancel_left (line_feed ∷ []) rest left (sym (ap (λ l. l ++ rest) x) ∙ same ∙ ap (λ l. l ++ left) y)
one_rest line e rest f left (inl x) (inr y) same = absurd (feed_is_some e rest x (same ∙ ap (λ l. l ++ left) y.1 ∙ y.2))
one_rest line e rest f left (inr x) (inl y) same = absurd (feed_is_some f left y (sym same ∙ ap (λ l. l ++ rest) x.1 ∙ x.2))
one_rest line e rest f left (inr x) (inr y) same = x.2 ∙ sym y.2

pub first_git_line_once : (bytes rest left : List ℕ) (text other : Option (List ℕ)) → BeginsWithGitLine bytes text rest → BeginsWithGitLine bytes other left → (text ≡ other) × (rest ≡ left)
first_git_line_once bytes rest left text other x y =
    let both : x.line ∷ lines_of rest ≡ y.line ∷ lines_of left = sym (first_line_cut bytes x.line rest x.cut) ∙ first_line_cut bytes y.line left y.cut in
    let line : y.line ≡ x.line = cc in
    let joined : bytes ≡ x.line ++ (y.cut.ending ++ left) = y.cut.joined ∙ ap (λ l. l ++ (y.cut.ending ++ left)) line in
    let behind : x.cut.ending ++ rest ≡ y.cut.ending ++ left = append_cancel_left x.line (x.cut.ending ++ rest) (y.cut.ending ++ left) (sym x.cut.joined ∙ joined) in
    let ended : EndsBefore x.line y.cut.ending left = subst (λ l. EndsBefore l y.cut.ending left) line y.cut.ended in (
      one_text x.line text other x.gives (subst (λ l. MatchOption other (GivesNothing l) (λ t. GivesGitText l t tt)) line y.gives),
      one_rest x.line x.cut.ending rest y.cut.ending left x.cut.ended ended behind,
    )

pub length-git_lines-le : (bytes : List ℕ) → length (lines_of (without_mark bytes)) ≤ length bytes
length-git_lines-le bytes = omega (arith, length-lines_of-le (without_mark bytes), length-without_mark-le bytes)
