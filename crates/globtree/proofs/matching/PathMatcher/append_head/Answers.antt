use Rattle.std.proofs.Common.{◌++◌, ◌∷◌, []}
use Rattle.tree_answers.specs.Lines.{behind}
use Rattle.globtree.specs.Matching.{word_at}
use Rattle.globtree.proofs.lemmas.MatchLemmas.{head_grows, head_word, some_meets}
use Rattle.globtree.proofs.matching.PathMatcher.append_head.Goals as goal

pub returns-in_default-clause-written : goal.returns-in_default-clause-written
returns-in_default-clause-written c = absurd (some_meets c.args.self.now.list c.args.path.now c.requires c.in_default.ensures)

pub returns-clause-written : goal.returns-clause-written
returns-clause-written c =
    let word = word_at c.args.self.now.words.now c.in-Some.place in (
      word ++ behind c.args.self.now.form 9 ∷ [],
      head_word c.args.self.now c.args.path.now c.if-not-self.false c.in-Some.place c.in-Some.ensures,
      head_grows c.args.text.now.items c.extend_from_slice.new.self.items c.push.new.self.items c.word_at.result.now word c.behind_word.result (behind c.args.self.now.form 9)
          c.in_ok-push.ensures.items c.in_ok-extend_from_slice.ensures.items c.word_at.ensures c.behind_word.ensures,
    )
