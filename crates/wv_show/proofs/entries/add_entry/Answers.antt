use Rattle.std.proofs.Common.{◌≡◌, ℕ, List, ◌++◌, append_assoc, string_bytes}
use Rattle.wv_show.specs.Show.{content_lines, created_line, entry_line, entry_lines, producer_line, uuid_line}
use Rattle.wv_show.proofs.entries.add_entry.Goals as goal

regroup : (a b c d e f : List ℕ) → ((((a ++ b) ++ c) ++ d) ++ e) ++ f ≡ a ++ (b ++ c ++ d ++ e ++ f)
regroup a b c d e f = simp append_assoc

pub returns-clause-lines : goal.returns-clause-lines
unfolding entry_lines
returns-clause-lines c =
    rw (
      c.in_ok-after.ensures.lines,
      c.in_ok-add_created.ensures,
      c.in_ok-add_uuid.ensures,
      c.in_ok-add_producer.ensures,
      c.in_ok-add_entry_line.ensures,
    )
    (regroup (string_bytes c.args.out.now) (entry_line c.args.position c.args.entry.now.content) (producer_line c.args.entry.now.metadata)
    (uuid_line c.args.entry.now.metadata) (created_line c.args.entry.now.metadata) (content_lines c.args.first c.args.entry.now.content))
