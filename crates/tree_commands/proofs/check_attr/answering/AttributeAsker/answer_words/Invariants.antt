-- The first paths were answered.
use Rattle.std.proofs.Common.{◌≡◌, map, take}
use Rattle.byte_streams.specs.Records.{TextOf}
use Rattle.tree_commands.specs.Private.AttributeAnswers.{IsReady}
use Rattle.tree_commands.proofs.check_attr.answering.AttributeAsker.answer_words.Given as goal

abbrev pub invariant-paths : goal.invariant-paths
invariant-paths g l = record {
  ready : IsReady g.Q.Question.files g.Q.Question.asked g.Q.Question.case g.Q.Question.shows g.Q.Question.allows g.S.AttributeFolders.shows l.self;
  writer : l.writer ≡ l.fn.writer;
  told : TextOf g.Q.Question.allows (map (λ path. path.now) (take l.path-index l.paths)) l.text.items;
}
