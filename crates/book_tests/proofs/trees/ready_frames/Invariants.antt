use Rattle.std.proofs.Common.{◌≡◌, length, false}
use Rattle.std.specs.List.{All}
use Rattle.branch_tree.specs.FlatMap.{is_parked}
use Rattle.book_tests.proofs.trees.ready_frames.Given as goal

abbrev pub invariant-loop : goal.invariant-loop
invariant-loop l = record {
  len : length l.frames.items ≡ l.counter;
  all_open : All (λ f. is_parked f.phase ≡ false) l.frames.items;
}
