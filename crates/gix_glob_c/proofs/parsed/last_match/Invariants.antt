use Rattle.std.specs.Prelude.{All}
use Rattle.glob_lists.specs.Deciding.{AnswersAt}
use Rattle.glob_lists.proofs.lemmas.Deciding.LastNumbers.{NoneFrom}
use Rattle.gix_glob_c.specs.Parsed.{IsLawful, list_of}
use Rattle.gix_glob_c.proofs.parsed.last_match.Given as goal

-- no pattern from here on answers, where all of them are lawful
abbrev pub invariant-loop-i : goal.invariant-loop-i
invariant-loop-i l = All IsLawful l.patterns → NoneFrom (AnswersAt (list_of l.patterns) l.path.bytes l.path.is_dir l.rules) l.i
