use Rattle.std.proofs.Common.{rules, ◌≡◌, Some}
use Rattle.step_names.specs.Grammar.{read_thread}
use Rattle.step_names.proofs.Bounds.{read_bounds}
use Rattle.step_names.proofs.thread.ThreadName.read.Goals as goal

pub invariant_of-result : goal.invariant_of-result
invariant_of-result c =
    let read : read_thread c.args.text.now ≡ Some (record { exec = c.shared.result; path = c.in_ok-path.path.items }) = search rules in
    read_bounds c.args.text.now _ read
