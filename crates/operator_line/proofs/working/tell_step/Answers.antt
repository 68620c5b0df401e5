use Rattle.std.proofs.Common.{[], ◌∷◌, map, string_bytes, sym, ap, subst, ◌∙◌}
use Rattle.std.proofs.lemmas.List.{map-append}
use Rattle.journaled_book.specs.Lines.{IsLineOf}
use Rattle.operator_line.proofs.Settling.{texts_more}
use Rattle.operator_line.proofs.working.tell_step.Goals as goal

pub returns-clause-lines : goal.returns-clause-lines
returns-clause-lines c =
    texts_more c.add_step.result (map string_bytes c.args.lines.now.items) (map string_bytes c.push.new.self.items) (string_bytes c.in_ok-line.line) c.args.entry.now
    (ap (map string_bytes) c.in_ok-push.ensures.items ∙ map-append string_bytes c.args.lines.now.items (c.in_ok-line.line ∷ []))
    (subst (IsLineOf (string_bytes c.in_ok-line.line)) (sym c.in-Step.is) c.in_ok-line.ensures)
