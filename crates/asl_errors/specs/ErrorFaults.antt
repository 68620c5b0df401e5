-- The faults of `Retry` and `Catch`.
use Rattle.std.specs.Prelude.{◌≡◌, ℕ, List, [], ◌==◌, length, ◌⊎◌, true, false, Option, None, Some, ⊤, codes}
use Rattle.serde_json.specs.Data.{Data as Source, Items, no_items, item, Members}
use Rattle.serde_json.specs.Find.{get, as_str, as_array, as_object}
use Rattle.asl_errors.specs.ErrorFields.{NamesAre, attempts_of, in_place, RetriersAre, CatchersAre, retrier_names, catcher_names}
use Rattle.asl_fields.specs.FieldFaults.{FieldsFault, PathFieldFault, required_text_fault}
use Rattle.asl_errors.specs.declared.errors.Catcher.{Catcher}
use Rattle.asl_errors.specs.declared.errors.Retrier.{Retrier}
use Rattle.asl_fields.specs.declared.fault.MachineFault.{MachineFault}
use Rattle.asl_fields.specs.declared.fault.MachineFault.TheVariants.{Missing, BadField, StatesAllPlace}
use Rattle.asl_fields.specs.declared.fields.Place.TheVariants as at

abbrev pub SomeNoText : Items → Type 0
SomeNoText no_items = ⊥
SomeNoText (item d ds) = (as_str d ≡ None) ⊎ SomeNoText ds

-- no list, one with a value that is no text, or one without texts
abbrev pub NoNames : Option Items → Type 0
NoNames None = ⊤
NoNames (Some ds) = SomeNoText ds ⊎ ((names : List (List ℕ)) × NamesAre ds [] names × ((length names == 0) ≡ true))

abbrev pub NamesFieldFault : Option Source → MachineFault → Type 0
NamesFieldFault None e = e ≡ Missing (codes "ErrorEquals")
NamesFieldFault (Some d) e = (e ≡ BadField (codes "ErrorEquals")) × NoNames (as_array d)

abbrev pub AttemptsFault : Option Source → MachineFault → Type 0
AttemptsFault d e = (e ≡ BadField (codes "MaxAttempts")) × (attempts_of d ≡ None)

abbrev pub RetrierObjectFault : Source → Option Members → MachineFault → Type 0
RetrierObjectFault d None e = e ≡ BadField (codes "Retry")
RetrierObjectFault d (Some ms) e = FieldsFault at.Retrier d e ⊎ NamesFieldFault (get (codes "ErrorEquals") d) e ⊎ AttemptsFault (get (codes "MaxAttempts") d) e

abbrev pub RetrierFault : Source → MachineFault → Type 0
RetrierFault d e = RetrierObjectFault d (as_object d) e

abbrev pub RetriersFault : Items → MachineFault → Type 0
RetriersFault no_items e = ⊥
RetriersFault (item d ds) e = RetrierFault d e ⊎ RetriersFault ds e

abbrev pub RetryItemsFault : Option Items → MachineFault → Type 0
RetryItemsFault None e = e ≡ BadField (codes "Retry")
RetryItemsFault (Some ds) e =
    RetriersFault ds e ⊎ ((rs : List Retrier) × RetriersAre ds [] rs × (in_place false (retrier_names rs) ≡ false) × (e ≡ StatesAllPlace))

abbrev pub RetryFault : Option Source → MachineFault → Type 0
RetryFault None e = ⊥
RetryFault (Some d) e = RetryItemsFault (as_array d) e

abbrev pub CatcherObjectFault : Source → Option Members → MachineFault → Type 0
CatcherObjectFault d None e = e ≡ BadField (codes "Catch")
CatcherObjectFault d (Some ms) e =
    FieldsFault at.Catcher d e ⊎ NamesFieldFault (get (codes "ErrorEquals") d) e ⊎ (required_text_fault (codes "Next") (get (codes "Next") d) ≡ Some e)
    ⊎ PathFieldFault (codes "ResultPath") (get (codes "ResultPath") d) e

abbrev pub CatcherFault : Source → MachineFault → Type 0
CatcherFault d e = CatcherObjectFault d (as_object d) e

abbrev pub CatchersFault : Items → MachineFault → Type 0
CatchersFault no_items e = ⊥
CatchersFault (item d ds) e = CatcherFault d e ⊎ CatchersFault ds e

abbrev pub CatchItemsFault : Option Items → MachineFault → Type 0
CatchItemsFault None e = e ≡ BadField (codes "Catch")
CatchItemsFault (Some ds) e =
    CatchersFault ds e ⊎ ((cs : List Catcher) × CatchersAre ds [] cs × (in_place false (catcher_names cs) ≡ false) × (e ≡ StatesAllPlace))

abbrev pub CatchFault : Option Source → MachineFault → Type 0
CatchFault None e = ⊥
CatchFault (Some d) e = CatchItemsFault (as_array d) e

abbrev pub ErrorHandlingFault : Source → MachineFault → Type 0
ErrorHandlingFault d e = RetryFault (get (codes "Retry") d) e ⊎ CatchFault (get (codes "Catch") d) e
