-- What a configuration answers, by its entries in the order in which they were read.
use Rattle.std.specs.Prelude.{◌≡◌, ℕ, Bool, true, not, ◌==◌, List, ◌++◌, length, None}
use Rattle.std.specs.List.{flat_map, last_or}
use Rattle.std.specs.Option.{option_to_list}
use Rattle.git_config.specs.Configuration.{Seen, settings_of}
use Rattle.git_config.specs.declared.answer.Question.{Question}
use Rattle.git_config.specs.declared.answer.Question.TheVariants as question
use Rattle.git_config.specs.declared.origin.Manner.{Manner}
use Rattle.git_config.specs.Shown.{entry_shown, value_shown}

-- what is asked: for all entries, for all values of a key, or for the last one, which counts
pub data Asked : Type 0 where
  All : Asked
  Values : List ℕ → Asked
  Last : List ℕ → Asked

abbrev pub asked_of : Question → Asked
asked_of question.All = All
asked_of (question.Values key) = Values key.now
asked_of (question.Last key) = Last key.now

-- the answer
abbrev pub answer_of : Manner → Asked → List Seen → List ℕ
answer_of manner All settings = flat_map (entry_shown manner) settings
answer_of manner (Values key) settings = flat_map (value_shown manner) (settings_of key settings)
answer_of manner (Last key) settings = flat_map (value_shown manner) (option_to_list (last_or None (settings_of key settings)))

-- the key has a value
abbrev pub is_said : List ℕ → List Seen → Bool
is_said key settings = not (length (settings_of key settings) == 0)

-- there is an answer
abbrev pub has_answer : Asked → List Seen → Bool
has_answer All settings = true
has_answer (Values key) settings = is_said key settings
has_answer (Last key) settings = is_said key settings

-- a part came from the front of what was left of an answer to the end of a text
pub record PartWritten (old new left rest : List ℕ) : Type 0 where
  pub part : List ℕ
  pub text : new ≡ old ++ part
  pub answer : left ≡ part ++ rest
