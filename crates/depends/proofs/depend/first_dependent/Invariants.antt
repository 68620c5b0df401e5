use Rattle.std.proofs.Common.{◌≡◌, drop}
use Rattle.std.specs.List.{position_from}
use Rattle.depends.specs.Dependence.{depends_directly}
use Rattle.depends.specs.Plans as plans
use Rattle.depends.proofs.Searching.{facts}
use Rattle.depends.proofs.depend.first_dependent.Given as goal

-- the search goes on from here
abbrev pub invariant-loop-place : goal.invariant-loop-place
invariant-loop-place l = position_from (depends_directly l.fact) l.place (drop l.place (facts l.records)) ≡ plans.first_dependent (facts l.records) l.at
