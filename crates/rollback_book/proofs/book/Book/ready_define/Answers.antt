use Rattle.serde_json.specs.View.{view}
use Rattle.asl_machine.proofs.Levels.{defined_whole}
use Rattle.rollback_book.proofs.book.Book.ready_define.Goals as goal

pub ready_machine-requires-clause-whole : goal.ready_machine-requires-clause-whole
ready_machine-requires-clause-whole c = defined_whole (view c.args.definition.now) c.in_ok-machine.machine c.in_ok-machine.ensures.read
