-- What was read is what the list and its matches were made of.
use Rattle.std.proofs.Common.{[], rules}
use Rattle.std.proofs.lemmas.Result.{on_ok_weaker, IfErr-at_err}
use Rattle.std.specs.Io.KnownBytes.{Appends}
use Rattle.byte_streams.specs.Watched.{inner}
use Rattle.byte_streams.specs.Transfers.{AppendsFront}
use Rattle.glob_lines.proofs.lemmas.MappingsLemmas.{mappings_text}
use Rattle.glob_lines.proofs.list.run_list.Goals as goal

pub returns-clause-ok : goal.returns-clause-ok
returns-clause-ok g c =
    let allowed = mappings_text c.in_ok-pattern_lines.pattern_lines.items c.in_ok-path_lines.path_lines.items c.args.source.now _ _ _ _ c.args.case _ _ c.in_ok-text.text.items
    (c.plain_entries_are_these.ensures (record {}) []) c.deref.ensures.value c.deref-2.ensures.value c.in_ok-source.ensures.ok c.in_ok-list.ensures.means c.in_ok-list.ensures.based c.in_ok-text.ensures in
    on_ok_weaker c.write_output.result
    (λ (written : Appends (g.W.Write.contents (inner c.args.writer.now)) (g.W.Write.contents (inner c.write_output.new.writer)) c.deref-3.result.now). record {
      input = record { patterns = c.in_ok-pattern_lines.pattern_lines.items; paths = c.in_ok-path_lines.path_lines.items };
      read = record { patterns = c.in_ok-pattern_lines.ensures.ok; paths = c.in_ok-path_lines.ensures.ok };
      text = c.in_ok-text.text.items;
      allowed = allowed;
      written = rw c.deref-3.ensures.value at written;
    })
    c.write_output.ensures.ok

pub returns-clause-faults : goal.returns-clause-faults
returns-clause-faults g c =
    let allowed = mappings_text c.in_ok-pattern_lines.pattern_lines.items c.in_ok-path_lines.path_lines.items c.args.source.now _ _ _ _ c.args.case _ _ c.in_ok-text.text.items
    (c.plain_entries_are_these.ensures (record {}) []) c.deref.ensures.value c.deref-2.ensures.value c.in_ok-source.ensures.ok c.in_ok-list.ensures.means c.in_ok-list.ensures.based c.in_ok-text.ensures in
    record {
      memory = search rules;
      read = search rules;
      read_failed = search rules;
      write_failed = search rules;
      write = λ failed.
          let written : AppendsFront (g.W.Write.contents (inner c.args.writer.now)) (g.W.Write.contents (inner c.write_output.new.writer)) c.deref-3.result.now =
          IfErr-at_err (λ _. AppendsFront (g.W.Write.contents (inner c.args.writer.now)) (g.W.Write.contents (inner c.write_output.new.writer)) c.deref-3.result.now) failed c.write_output.ensures.err in
          record {
            input = record { patterns = c.in_ok-pattern_lines.pattern_lines.items; paths = c.in_ok-path_lines.path_lines.items };
            read = record { patterns = c.in_ok-pattern_lines.ensures.ok; paths = c.in_ok-path_lines.ensures.ok };
            text = c.in_ok-text.text.items;
            allowed = allowed;
            written = rw c.deref-3.ensures.value at written;
          };
    }

pub matches_of-requires : goal.matches_of-requires
matches_of-requires g c = c.loaded_lists_have_folders.ensures _ _ _ _ _ c.in_ok-list.ensures
