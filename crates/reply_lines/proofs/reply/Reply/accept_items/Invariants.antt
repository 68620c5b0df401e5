-- a line for each item so far, and the items that are still to come
use Rattle.std.proofs.Common.{◌≡◌, ◌++◌, length, map, flat_map, string_bytes}
use Rattle.attr_values.specs.Writing.{item_json}
use Rattle.item_store.specs.Listing.{items_left}
use Rattle.json_tree.specs.Written.{text_of}
use Rattle.reply_lines.specs.Replies.{with_feed}
use Rattle.reply_lines.proofs.reply.Reply.accept_items.Given as goal

abbrev pub invariant-loop-item : goal.invariant-loop-item
invariant-loop-item l = record {
  items : items_left l.fn.items ≡ map (λ i. i.now) l.yielded ++ items_left l.item-iterator;
  counted : l.count ≡ length l.yielded;
  written : string_bytes l.lines.text ≡ flat_map with_feed (map (λ i. text_of (item_json i)) (map (λ i. i.now) l.yielded));
}
