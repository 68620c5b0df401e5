-- The hash of a thread's name. Of it only this is used, that it is a function.
use Rattle.std.specs.Prelude.{ℕ, ◌++◌}
use Rattle.std.specs.Hash as fed
use Rattle.std.specs.Hash.FoldHasher as folding
use Rattle.std.specs.List.{fold}
use Rattle.step_names.specs.Thread.{Thread}

unfoldable pub thread_hash : Thread → ℕ
thread_hash t = folding.finish (fold folding.write (fold folding.write folding.initial (fed.str t.exec)) (fed.slice (λ b. fed.u32 b.0 ++ fed.u32 b.1) t.path))
