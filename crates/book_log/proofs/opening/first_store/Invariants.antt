use Rattle.std.proofs.Common.{◌≡◌, drop}
use Rattle.json_tree.specs.View.{list_of}
use Rattle.item_store.specs.Store.{stored_items}
use Rattle.book_log.specs.Beginning.{filled, begun_table}
use Rattle.book_log.proofs.opening.first_store.Given as goal

-- with the items from here on, the store is the table
abbrev pub invariant-loop-object : goal.invariant-loop-object
invariant-loop-object l = record {
  items : filled l.begin.schema (stored_items l.store) (list_of (drop l.object-index l.object-items)) ≡ begun_table l.begin;
  table : l.store.table ≡ l.begin.table;
  schema : l.store.schema ≡ l.begin.schema;
}
