-- What the reader of tokens answers, token by token.
use Rattle.std.proofs.Common.{◌≡◌, inl, inr, ℕ, ◌+◌, ◌<◌, ◌≤◌, true, false, not, IsTrue, List, length, get_or, refl, ap, arith}
use Rattle.glob_matcher.specs.declared.wildmatch.way.Way.{Way}
use Rattle.glob_matcher.specs.declared.wildmatch.tokens.TokenKind.TheVariants as kind
use Rattle.glob_matcher.specs.Bytes.{HasByte, IsEscaped, StandsForItself, is_path, backslash, slash}
use Rattle.glob_matcher.specs.ExactFolding.{is_dead}
use Rattle.glob_matcher.specs.Private.Spelling.{question_mark}
use Rattle.glob_matcher.specs.Sets.{Set, SetAt}
use Rattle.glob_matcher.specs.Tokens.{Byte, Any, OneOf, Free, Local, Dirs, Nothing, TokenAt, IsRun, IsBounded, IsBroken, IsToken}

pub escaped_token : (way : Way) (p : List ℕ) (i b : ℕ) → IsEscaped p i b → is_dead way b ≡ false → IsToken way p i (kind.Byte b) (i + 2)
escaped_token way p i b e live =
    let inside : i + 1 < length p = e.byte.inside in
    record { token = Byte b; here = inl (e, refl, ap not live); same_kind = refl; past = omega arith; inside = omega arith }

-- a byte that stands for itself is a token
abbrev pub TokenAt-bare : (way : Way) (p : List ℕ) (i b : ℕ) → HasByte p i b → StandsForItself b → TokenAt way p i (Byte b) (i + 1)
TokenAt-bare way p i b e plain = inr (e, plain, refl)

abbrev pub bare_token : (way : Way) (p : List ℕ) (i b : ℕ) → HasByte p i b → StandsForItself b → IsToken way p i (kind.Byte b) (i + 1)
bare_token way p i b e plain =
    let inside : i < length p = e.inside in
    record { token = Byte b; here = TokenAt-bare way p i b e plain; same_kind = refl; past = omega arith; inside = omega arith }

-- the byte at a place, where it stands for itself
abbrev pub literal_token : (way : Way) (p : List ℕ) (i : ℕ) → i < length p → StandsForItself (get_or p i 0)
    → IsToken way p i (kind.Byte (get_or p i 0)) (i + 1)
literal_token way p i inside plain = bare_token way p i (get_or p i 0) (record { inside = inside; is = refl }) plain

pub any_token : (way : Way) (p : List ℕ) (i : ℕ) → HasByte p i question_mark → IsToken way p i kind.Any (i + 1)
any_token way p i e =
    let inside : i < length p = e.inside in
    record { token = Any; here = (e, refl); same_kind = refl; past = omega arith; inside = omega arith }

pub set_token : (way : Way) (p : List ℕ) (i : ℕ) (s : Set) (j : ℕ) → SetAt p i s j → i < j → j ≤ length p
    → IsToken way p i kind.Set j
set_token way p i s j e past inside = record { token = OneOf s; here = e; same_kind = refl; past = past; inside = inside }

pub broken_token : (way : Way) (p : List ℕ) (i : ℕ) → i < length p → IsBroken way p i → IsToken way p i kind.Nothing (length p)
broken_token way p i inside e = record { token = Nothing; here = (e, refl); same_kind = refl; past = inside; inside = omega arith }

-- a backslash that escapes nothing is the pattern's last byte
pub lone_backslash : (way : Way) (p : List ℕ) (i : ℕ) → HasByte p i backslash → ((b : ℕ) → ¬ IsEscaped p i b) → IsBroken way p i
lone_backslash way p i here none =
    let inside : i < length p = here.inside in
    let last : i + 1 < length p → ⊥ = λ more. none _ (record { escape = here; byte = record { inside = more; is = refl } }) in
    inl (here, inl (omega arith))

-- nor does one escape anything that escapes a dead byte
pub dead_backslash : (way : Way) (p : List ℕ) (i b : ℕ) → IsEscaped p i b → is_dead way b ≡ true → IsBroken way p i
dead_backslash way p i b e dead = inl (e.escape, inr (b, e.byte, dead))

pub plain_run : (way : Way) (p : List ℕ) (i j : ℕ) → is_path way ≡ false → IsRun p i j → j ≤ length p
    → IsToken way p i kind.Free j
plain_run way p i j plain run inside =
    let some : i < j = run.some in
    record { token = Free; here = (run, λ path. cc); same_kind = refl; past = some; inside = inside }

pub free_run : (way : Way) (p : List ℕ) (i j : ℕ) → IsRun p i j → IsBounded p i j → ¬ HasByte p j slash → j ≤ length p
    → IsToken way p i kind.Free j
free_run way p i j run bounded bare inside =
    let some : i < j = run.some in
    record { token = Free; here = (run, λ path. (bounded, bare)); same_kind = refl; past = some; inside = inside }

pub local_run : (way : Way) (p : List ℕ) (i j : ℕ) → IsTrue (is_path way) → IsRun p i j → ¬ IsBounded p i j → j ≤ length p
    → IsToken way p i kind.Local j
local_run way p i j path run unbounded inside =
    let some : i < j = run.some in
    record { token = Local; here = (run, path, unbounded); same_kind = refl; past = some; inside = inside }

pub dirs_run : (way : Way) (p : List ℕ) (i j : ℕ) → IsTrue (is_path way) → IsRun p i j → IsBounded p i j → HasByte p j slash
    → IsToken way p i kind.Dirs (j + 1)
dirs_run way p i j path run bounded at_slash =
    let some : i < j = run.some in
    let inside : j < length p = at_slash.inside in
    record {
      token = Dirs;
      here = record { path = path; run_end = j; run = run; bounded = bounded; slash = at_slash; after = refl };
      same_kind = refl;
      past = omega arith;
      inside = omega arith;
    }
