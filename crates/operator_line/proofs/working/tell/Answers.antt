use Rattle.std.proofs.Common.{[], ◌∷◌, ◌+◌, ◌++◌, ℕ, map, string_bytes, take, sym, ap, subst, ◌∙◌}
use Rattle.std.proofs.lemmas.List.{take_more}
use Rattle.step_names.specs.Written.{step_text}
use Rattle.book_log.specs.declared.entry.Entry.{Entry}
use Rattle.journaled_book.specs.Lines.{AreEntryLines}
use Rattle.reply_lines.specs.Replying.{AreLines}
use Rattle.operator_line.specs.Answering.{stepped_names}
use Rattle.operator_line.proofs.Settling.{names_more}
use Rattle.operator_line.proofs.working.tell.Goals as goal

pub loop-entry-preserved : goal.loop-entry-preserved
loop-entry-preserved c =
    let es = c.args.entries.now in
    let at = c.loop-entry.entry-index in
    let e = c.entry-item.result in
    let low = c.loop-entry-test.true in
    let is = sym c.entry-item.is in
    let so_far = c.loop-entry.invariant in (
      subst (AreLines c.tell_step.new.told) (sym (names_more es at e e low is)) (c.in_ok-tell_step.ensures.told (map step_text (stepped_names (take at es))) so_far.0),
      subst (AreEntryLines (map string_bytes c.tell_step.new.lines.items)) (sym (take_more es at e low ∙ ap (λ (x : Entry). take at es ++ x ∷ []) is)) (c.in_ok-tell_step.ensures.lines (take at es) so_far.1),
      c.in_ok-tell_step.ensures.count ∙ ap (λ (n : ℕ). n + 1) so_far.2,
    )
