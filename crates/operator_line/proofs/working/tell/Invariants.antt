-- the steps so far are told, and have their lines
use Rattle.std.proofs.Common.{◌≡◌, map, string_bytes, take}
use Rattle.step_names.specs.Written.{step_text}
use Rattle.journaled_book.specs.Lines.{AreEntryLines}
use Rattle.operator_line.specs.Answering.{stepped_names}
use Rattle.reply_lines.specs.Replying.{AreLines}
use Rattle.operator_line.proofs.working.tell.Given as goal

abbrev pub invariant-loop-entry : goal.invariant-loop-entry
invariant-loop-entry l =
    AreLines l.told (map step_text (stepped_names (take l.entry-index l.entries))) × AreEntryLines (map string_bytes l.lines.items) (take l.entry-index l.entries) × (l.told.count ≡ l.entry-index)
