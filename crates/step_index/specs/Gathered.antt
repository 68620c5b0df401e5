-- Which records pass a test, by their places.
use Rattle.std.specs.Prelude.{ℕ, ◌+◌, Bool, false, List, [], ◌∷◌, Option, None, Some, if◌then◌else◌}
use Rattle.std.specs.Str.{bytes_eq}
use Rattle.attr_values.specs.declared.key.Key.{Key}
use Rattle.item_store.specs.Table.{is_same_key}
use Rattle.saved_steps.specs.declared.fact.Access.{Access}
use Rattle.saved_steps.specs.declared.record.StepRecord.{StepRecord}

-- the places of those that pass, in ascending order, if the first record is at this place
abbrev pub places_from : (StepRecord → Bool) → ℕ → List StepRecord → List ℕ
places_from p i [] = []
places_from p i (r ∷ rs) = if p r then i ∷ places_from p (i + 1) rs else places_from p (i + 1) rs

abbrev pub places_where : (StepRecord → Bool) → List StepRecord → List ℕ
places_where p rs = places_from p 0 rs

-- the step is one of this execution
abbrev pub is_of_execution : List ℕ → StepRecord → Bool
is_of_execution exec r = bytes_eq r.fact.name.thread.exec exec

-- the step accessed this key
abbrev pub is_access : Key → Option Access → Bool
is_access key None = false
is_access key (Some a) = is_same_key a.key key

abbrev pub accesses : Key → StepRecord → Bool
accesses key r = is_access key r.fact.access
