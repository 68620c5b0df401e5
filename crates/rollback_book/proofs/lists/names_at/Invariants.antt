use Rattle.std.proofs.Common.{◌≡◌, ◌++◌, drop, map, Some}
use Rattle.std.specs.Prelude.{option_map, slice_get}
use Rattle.rollback_book.proofs.lists.names_at.Given as goal

-- the names that were copied, and those at the places from here on
abbrev pub invariant-loop-place : goal.invariant-loop-place
invariant-loop-place l =
    map Some l.names.items ++ map (λ place. option_map (λ r. r.fact.name) (slice_get l.records.items place)) (drop l.place-index l.places)
    ≡ map (λ place. option_map (λ r. r.fact.name) (slice_get l.records.items place)) l.places
