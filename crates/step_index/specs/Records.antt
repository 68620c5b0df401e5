-- What contracts see of records in their order; and the classes in which the steps are.
use Rattle.std.specs.Prelude.{◌≡◌, ℕ, Bool, ◌&&◌, nat_le, List, map, Option}
use Rattle.linked_classes.specs.Sets.{Classed, set_of}
use Rattle.saved_steps.specs.declared.fact.Fact.{Fact}
use Rattle.saved_steps.specs.declared.record.StepRecord.{StepRecord}
use Rattle.step_index.specs.Buckets.{by_set, set_number}
use Rattle.step_index.specs.declared.buckets.Classing.{Classing}

-- the records, and whether there is room for one more
pub record Records : Type 0 where
  pub items : List StepRecord
  pub has_room : Bool

abbrev pub classes_by : (Fact → Option ℕ) → List StepRecord → List (Option ℕ)
classes_by by rs = map (λ r. by r.fact) rs

-- the class of each place in a set
abbrev pub classes_in : Classed StepRecord → Classing → List (Option ℕ)
classes_in v set = set_of v (set_number set)

-- in each set the class of a place is that of the record there
pub record AreIndexed (v : Classed StepRecord) : Type 0 where
  pub classed : (set : Classing) → classes_in v set ≡ classes_by (by_set set) v.items

-- there is room for one more record, and there is each class
abbrev pub has_record_room : Classed StepRecord → Bool
has_record_room v = v.has_room && nat_le 16381 v.width
