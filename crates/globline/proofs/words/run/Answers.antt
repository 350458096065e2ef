-- The engine that the command asks for does what it asks.
use Rattle.std.proofs.lemmas.Result.{on_ok_weaker}
use Rattle.std.proofs.Common.{map, subst}
use Rattle.std.specs.Option.{option_copied}
use Rattle.std.specs.String.{string_bytes}
use Rattle.gix_glob.specs.EntryLists.{entry_list_of}
use Rattle.globline.proofs.lemmas.WordsLemmas.{carries_out_ignore, carries_out_list, carries_out_wild, on_each_fault}
use Rattle.globline.specs.Words.{Ask, AskIgnore, AskList}
use Rattle.globline.proofs.words.run.Goals as goal

-- what the words ask for, which say so of this command
pub run_list-requires-clause-file : goal.run_list-requires-clause-file
run_list-requires-clause-file g c = λ root given.
    let asked : AskList c.requires.asked.0 c.in-List.case c.in-List.file.now (option_copied c.in-List.root) = subst (Ask c.requires.asked.0) c.in-List.is c.requires.asked.1 in
    asked.filed

pub lists_of-requires : goal.lists_of-requires
lists_of-requires g c =
    let asked : AskIgnore c.requires.asked.0 c.in-Ignore.case (option_copied c.in-Ignore.root) (map string_bytes c.in-Ignore.files.now) = subst (Ask c.requires.asked.0) c.in-Ignore.is c.requires.asked.1 in
    asked.filed

pub returns-in-Wild : goal.returns-in-Wild
returns-in-Wild g c = rw c.in-Wild.is (record {
  ok = on_ok_weaker c.run_wild.result (carries_out_wild _ _ _ c.in-Wild.mode c.in-Wild.pattern) c.run_wild.ensures.ok;
  err = on_each_fault c.run_wild.result c.run_wild.ensures.faults.memory c.run_wild.ensures.faults.read
      (λ is. carries_out_wild _ _ _ c.in-Wild.mode c.in-Wild.pattern (c.run_wild.ensures.faults.write is));
})

pub returns-in_ok-open-in-List : goal.returns-in_ok-open-in-List
returns-in_ok-open-in-List g c = rw c.in-List.is (record {
  ok = on_ok_weaker c.run_list.result (carries_out_list _ _ _ c.in-List.case c.in-List.file c.in-List.root _ _) c.run_list.ensures.ok;
  err = on_each_fault c.run_list.result c.run_list.ensures.faults.memory c.run_list.ensures.faults.read
      (λ is. carries_out_list _ _ _ c.in-List.case c.in-List.file c.in-List.root _ _ (c.run_list.ensures.faults.write is));
})

pub returns-in_ok-lists-in-Ignore : goal.returns-in_ok-lists-in-Ignore
returns-in_ok-lists-in-Ignore g c =
    let told = rw c.deref.ensures.value at c.run_ignore.ensures.ok in
    let left = rw c.deref.ensures.value at c.run_ignore.ensures.faults.write in
    let lists = map (entry_list_of {V = Unit {0}} (λ _. tt)) c.in_ok-lists-in-Ignore.lists.items in
    let loaded = c.in_ok-lists-in-Ignore.ensures.loaded in
    rw c.in-Ignore.is (record {
      ok = on_ok_weaker c.run_ignore.result (carries_out_ignore _ _ _ c.in-Ignore.case c.in-Ignore.root c.in-Ignore.files lists loaded) told;
      err = on_each_fault c.run_ignore.result c.run_ignore.ensures.faults.memory c.run_ignore.ensures.faults.read
          (λ is. carries_out_ignore _ _ _ c.in-Ignore.case c.in-Ignore.root c.in-Ignore.files lists loaded (left is));
    })
