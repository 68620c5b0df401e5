-- Which steps of a history depend on one of them, by their places in it, from 0.
use Rattle.std.specs.Prelude.{ℕ, ◌+◌, Bool, false, List, [], ◌∷◌, ◌++◌, drop, reverse, Option, None, Some, slice_get, option_and_then, if◌then◌else◌}
use Rattle.std.specs.List.{list_any, position_from}
use Rattle.saved_steps.specs.declared.fact.Fact.{Fact}
use Rattle.depends.specs.Dependence.{depends_directly}

-- the place of the earliest step after the one at a place that depends directly on it
abbrev pub first_dependent : List Fact → ℕ → Option ℕ
first_dependent facts at = option_and_then (λ f. position_from (depends_directly f) (at + 1) (drop (at + 1) facts)) (slice_get facts at)

-- ---- the consequences of a step

abbrev pub depends_on : Option Fact → Fact → Bool
depends_on None f = false
depends_on (Some g) f = depends_directly g f

-- the step at one of these places is one on which a later step depends directly
abbrev pub depends_on_some : List Fact → List ℕ → Fact → Bool
depends_on_some facts places f = list_any (λ place. depends_on (slice_get facts place) f) places

-- one pass forward over the steps from a place on: a step that depends directly on a marked one is marked too
abbrev pub consequences_behind : List Fact → List ℕ → ℕ → List Fact → List ℕ
consequences_behind facts marked place [] = []
consequences_behind facts marked place (f ∷ fs) =
    if depends_on_some facts marked f
    then place ∷ consequences_behind facts (marked ++ place ∷ []) (place + 1) fs
    else consequences_behind facts marked (place + 1) fs

-- the step at a place and its consequences, in the order of the history
abbrev pub consequences_at : List Fact → ℕ → List ℕ
consequences_at facts at = at ∷ consequences_behind facts (at ∷ []) (at + 1) (drop (at + 1) facts)

-- the order in which they are undone: the latest first
abbrev pub plan : List Fact → ℕ → List ℕ
plan facts at = reverse (consequences_at facts at)
