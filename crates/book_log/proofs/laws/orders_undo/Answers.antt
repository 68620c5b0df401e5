use Rattle.book_log.proofs.Orders as law
use Rattle.book_log.proofs.laws.orders_undo.Goals as goal

pub returns : goal.returns
returns c = record { taken = law.backward_orders_are_accepted; whole = law.accepted_orders_are_closed; agree = law.orders_agree_all }
