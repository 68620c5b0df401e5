use Rattle.std.proofs.Common.{◌≡◌, ◌<◌, ◌++◌, drop, length, All}
use Rattle.depends.specs.Plans as plans
use Rattle.depends.proofs.Searching.{facts}
use Rattle.depends.proofs.planning.plan.Given as goal

-- the marked places, and those that the steps from here on add, are all
abbrev pub invariant-loop-place : goal.invariant-loop-place
invariant-loop-place l = record {
  all : l.places.items ++ plans.consequences_behind (facts l.records) l.places.items l.place (drop l.place (facts l.records)) ≡ plans.consequences_at (facts l.records) l.at;
  within : All (λ p. p < length l.records) l.places.items;
}
