-- The words of a command by their number, and what the engines do for a command.
use Rattle.std.proofs.Common.{◌≡◌, ◌⊎◌, inl, inr, ◌<◌, ◌≤◌, ℕ, ◌-◌, List, [], ◌∷◌, length, get_or, map, take, drop, Option, Result, Ok, Err, Bor, String, Global, refl, take_all, arith}
use Rattle.std.specs.Prelude.{OnErr}
use Rattle.std.specs.Option.{option_copied}
use Rattle.std.specs.String.{string_bytes}
use Rattle.gix_glob.specs.declared.pattern.Case.{Case}
use Rattle.gix_glob.specs.declared.wildmatch.Mode.{Mode}
use Rattle.gix_glob.specs.EntryLists.{EntryList}
use Rattle.glob_lines.specs.Decisions.{DecisionsText}
use Rattle.glob_lines.specs.Mappings.{MappingsText, ReadsBoth}
use Rattle.byte_streams.specs.Transfers.{ReadsWhole, Run}
use Rattle.glob_lines.specs.Values.{ValuesText}
use Rattle.glob_lines.specs.declared.fault.EngineFault.{EngineFault}
use Rattle.glob_lines.specs.declared.fault.EngineFault.TheVariants.{Memory, Read, Write}
use Rattle.globline.specs.Words.{AnswersCommand, AnswersWords, AreIgnoreLists, Ask}
use Rattle.globline.specs.declared.command.Command.{Command}
use Rattle.globline.specs.declared.command.Command.TheVariants as command

-- ---- lists of three and of four

pub map-of_three : {X Y : Type 0} (f : X → Y) (xs : List X) (a b c : X) → 3 ≤ length xs → length xs < 4 → a ≡ get_or xs 0 a → b ≡ get_or xs 1 b → c ≡ get_or xs 2 c
    → map f xs ≡ f a ∷ f b ∷ f c ∷ []
map-of_three f [] a b c low high p q r = absurd (omega arith)
map-of_three f (x ∷ []) a b c low high p q r = absurd (omega arith)
map-of_three f (x ∷ y ∷ []) a b c low high p q r = absurd (omega arith)
map-of_three f (x ∷ y ∷ z ∷ []) a b c low high p q r = cc
map-of_three f (x ∷ y ∷ z ∷ w ∷ xs) a b c low high p q r = absurd (omega arith)

pub map-of_four : {X Y : Type 0} (f : X → Y) (xs : List X) (a b c d : X) → 4 ≤ length xs → length xs < 5 → a ≡ get_or xs 0 a → b ≡ get_or xs 1 b → c ≡ get_or xs 2 c → d ≡ get_or xs 3 d
    → map f xs ≡ f a ∷ f b ∷ f c ∷ f d ∷ []
map-of_four f [] a b c d low high p q r s = absurd (omega arith)
map-of_four f (x ∷ []) a b c d low high p q r s = absurd (omega arith)
map-of_four f (x ∷ y ∷ []) a b c d low high p q r s = absurd (omega arith)
map-of_four f (x ∷ y ∷ z ∷ []) a b c d low high p q r s = absurd (omega arith)
map-of_four f (x ∷ y ∷ z ∷ w ∷ []) a b c d low high p q r s = cc
map-of_four f (x ∷ y ∷ z ∷ w ∷ v ∷ xs) a b c d low high p q r s = absurd (omega arith)

-- three, and more after them
pub map-of_three_and_more : {X Y : Type 0} (f : X → Y) (xs : List X) (a b c : X) → 3 ≤ length xs → a ≡ get_or xs 0 a → b ≡ get_or xs 1 b → c ≡ get_or xs 2 c
    → map f xs ≡ f a ∷ f b ∷ f c ∷ map f (take (length xs - 3) (drop 3 xs))
map-of_three_and_more f [] a b c low p q r = absurd (omega arith)
map-of_three_and_more f (x ∷ []) a b c low p q r = absurd (omega arith)
map-of_three_and_more f (x ∷ y ∷ []) a b c low p q r = absurd (omega arith)
map-of_three_and_more f (x ∷ y ∷ z ∷ xs) a b c low p q r =
    let more : take (length (x ∷ y ∷ z ∷ xs) - 3) (drop 3 (x ∷ y ∷ z ∷ xs)) ≡ xs = take_all (length (x ∷ y ∷ z ∷ xs) - 3) xs (omega arith) in
    cc

-- ---- the engines

-- the command was carried out
abbrev pub CarriesOut : Command → Option (List ℕ) → Option (List ℕ) → (List ℕ → Type 0) → Type 0
CarriesOut asked input_old input_new Written = Run (ReadsWhole input_old input_new) (AnswersCommand asked) Written

-- what each engine did carries its command out
module _ (input_old input_new : Option (List ℕ)) (Written : List ℕ → Type 0) where
  pub carries_out_wild : (mode : Mode) (pattern : Bor (List ℕ)) → Run (ReadsWhole input_old input_new) (ValuesText pattern.now mode) Written
      → CarriesOut (command.Wild mode pattern) input_old input_new Written
  carries_out_wild mode pattern run = record { input = run.input; read = run.read; text = run.text; allowed = run.allowed; written = run.written }

  pub carries_out_list : (case : Case) (file : Bor (List ℕ)) (root : Option (Bor (List ℕ))) (patterns_old patterns_new : Option (List ℕ))
      → Run (ReadsBoth patterns_old patterns_new input_old input_new) (MappingsText file.now (option_copied root) case) Written
      → CarriesOut (command.List case file root) input_old input_new Written
  carries_out_list case file root patterns_old patterns_new run = record {
    input = run.input.paths;
    read = run.read.paths;
    text = run.text;
    allowed = (run.input.patterns, run.allowed);
    written = run.written;
  }

  pub carries_out_ignore : (case : Case) (root : Option (Bor (List ℕ))) (files : Bor (List (String Global))) (lists : List (EntryList (Unit {0})))
      → AreIgnoreLists (option_copied root) (map string_bytes files.now) lists → Run (ReadsWhole input_old input_new) (DecisionsText lists case) Written
      → CarriesOut (command.Ignore case root files) input_old input_new Written
  carries_out_ignore case root files lists loaded run = record {
    input = run.input;
    read = run.read;
    text = run.text;
    allowed = (lists, loaded, run.allowed);
    written = run.written;
  }

-- what each fault leaves
pub on_each_fault : {T P Q : Type 0} (r : Result T EngineFault) → (r ≡ Err Memory → P) → (r ≡ Err Read → P) → (r ≡ Err Write → Q) → OnErr r (P ⊎ Q)
on_each_fault (Ok x) memory read write = tt
on_each_fault (Err Memory) memory read write = inl (memory refl)
on_each_fault (Err Read) memory read write = inl (read refl)
on_each_fault (Err Write) memory read write = inr (write refl)

-- what carries a command out answers the words that ask for it
pub answers_words : (words : List (List ℕ)) (asked : Command) (input_old input_new : Option (List ℕ)) (Written : List ℕ → Type 0)
    → Ask words asked → CarriesOut asked input_old input_new Written → AnswersWords words input_old input_new Written
answers_words words asked input_old input_new Written asks done = record { command = asked; asked = asks; run = done }

-- the same, where it may also have stopped before
pub or_answers_words : {P : Type 0} (words : List (List ℕ)) (asked : Command) (input_old input_new : Option (List ℕ)) (Written : List ℕ → Type 0)
    → Ask words asked → P ⊎ CarriesOut asked input_old input_new Written → P ⊎ AnswersWords words input_old input_new Written
or_answers_words words asked input_old input_new Written asks (inl stopped) = inl stopped
or_answers_words words asked input_old input_new Written asks (inr done) =
    inr (answers_words words asked input_old input_new Written asks done)
