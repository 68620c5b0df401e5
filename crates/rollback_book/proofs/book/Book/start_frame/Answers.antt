use Rattle.std.proofs.Common.{◌∙◌, ap}
use Rattle.step_history.specs.Turn.{first_frame}
use Rattle.asl_tree.specs.Definition.{Definition}
use Rattle.rollback_book.proofs.Refusing.{start_is}
use Rattle.rollback_book.proofs.book.Book.start_frame.Goals as goal

pub returns-in-Ok : goal.returns-in-Ok
returns-in-Ok c =
    let b = c.args.self.now in
    let s = c.in_ok-shared in
    record {
      answer = start_is b c.args.exec.now c.args.machine.now c.args.input.now s.shared.now c.in-Ok.frame c.requires s.ensures.world s.ensures.absent s.ensures.answer s.ensures.machine
          (c.in-Ok.ensures ∙ ap (λ (m : Definition). first_frame c.args.machine.now m c.args.input.now) c.machine.ensures);
    }
