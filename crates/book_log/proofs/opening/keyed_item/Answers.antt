use Rattle.json_tree.specs.View.{data_of}
use Rattle.book_log.proofs.Opened.{item_keyed, key_refused}
use Rattle.book_log.proofs.opening.keyed_item.Goals as goal

pub returns-in-Ok : goal.returns-in-Ok
returns-in-Ok c = item_keyed c.args.schema.now (data_of c.args.object.now) c.in_ok-item.item c.in-Ok.key c.in_ok-item.ensures.read c.in-Ok.ensures.key

pub returns-in-Err : goal.returns-in-Err
returns-in-Err c = key_refused c.args.schema.now (data_of c.args.object.now) c.in_ok-item.item c.in-Err.fault c.in_ok-item.ensures.read c.in-Err.ensures.key
