-- What `Retry` and `Catch` say ("Retrying after error", "Fallback states").
use Rattle.std.specs.Prelude.{◌≡◌, ℕ, ◌==◌, List, [], ◌∷◌, ◌++◌, length, map, nat_le, Bool, true, false, Option, None, Some, option_and_then, if◌then◌else◌, codes}
use Rattle.std.specs.List.{list_any}
use Rattle.serde_json.specs.Data.{Data as Source, Num, Items, no_items, item}
use Rattle.serde_json.specs.Find.{get, as_str, as_array, as_number, as_u64}
use Rattle.asl_fields.specs.Fields.{is_text}
use Rattle.asl_fields.specs.Values.{HasFields, IsPathField}
use Rattle.asl_errors.specs.declared.errors.Catcher.{Catcher}
use Rattle.asl_errors.specs.declared.errors.ErrorHandling.{ErrorHandling}
use Rattle.asl_errors.specs.declared.errors.Retrier.{Retrier}
use Rattle.asl_fields.specs.declared.fields.Place.TheVariants as at

-- the texts of these values after those before
abbrev pub NamesAre : Items → List (List ℕ) → List (List ℕ) → Type 0
NamesAre no_items before names = names ≡ before
NamesAre (item d ds) before names = (name : List ℕ) × (as_str d ≡ Some name) × NamesAre ds (before ++ name ∷ []) names

-- at least one
abbrev pub SomeNamesAre : Option Items → List (List ℕ) → Type 0
SomeNamesAre None names = ⊥
SomeNamesAre (Some ds) names = NamesAre ds [] names × ((length names == 0) ≡ false)

abbrev pub AreErrorNames : Source → List (List ℕ) → Type 0
AreErrorNames d names = SomeNamesAre (option_and_then as_array (get (codes "ErrorEquals") d)) names

abbrev pub has_all : List (List ℕ) → Bool
has_all names = list_any (λ name. is_text name (codes "States.ALL")) names

-- `States.ALL` stands alone in its list, and in the last list; and in none after one that had it
abbrev pub in_place : Bool → List (List (List ℕ)) → Bool
in_place ended [] = true
in_place ended (names ∷ more) =
    if ended then false else (if has_all names then (if length names == 1 then in_place true more else false) else in_place false more)

abbrev pub bounded_delay : Option ℕ → Option ℕ
bounded_delay None = None
bounded_delay (Some n) = if nat_le n 4294967295 then Some n else None

-- an absent number is 3
abbrev pub attempts_of : Option Source → Option ℕ
attempts_of None = Some 3
attempts_of (Some d) = bounded_delay (option_and_then as_u64 (as_number d))

abbrev pub IsRetrier : Source → Retrier → Type 0
IsRetrier d r = HasFields at.Retrier d × AreErrorNames d r.errors × (attempts_of (get (codes "MaxAttempts") d) ≡ Some r.max_attempts)

abbrev pub IsCatcher : Source → Catcher → Type 0
IsCatcher d c =
    HasFields at.Catcher d × AreErrorNames d c.errors × (option_and_then as_str (get (codes "Next") d) ≡ Some c.next)
    × IsPathField (get (codes "ResultPath") d) c.result_path

abbrev pub RetriersAre : Items → List Retrier → List Retrier → Type 0
RetriersAre no_items before rs = rs ≡ before
RetriersAre (item d ds) before rs = (r : Retrier) × IsRetrier d r × RetriersAre ds (before ++ r ∷ []) rs

abbrev pub CatchersAre : Items → List Catcher → List Catcher → Type 0
CatchersAre no_items before cs = cs ≡ before
CatchersAre (item d ds) before cs = (c : Catcher) × IsCatcher d c × CatchersAre ds (before ++ c ∷ []) cs

abbrev pub retrier_names : List Retrier → List (List (List ℕ))
retrier_names = map (λ (r : Retrier). r.errors)

abbrev pub catcher_names : List Catcher → List (List (List ℕ))
catcher_names = map (λ (c : Catcher). c.errors)

abbrev pub ItemsRetry : Option Items → List Retrier → Type 0
ItemsRetry None rs = ⊥
ItemsRetry (Some ds) rs = RetriersAre ds [] rs × (in_place false (retrier_names rs) ≡ true)

abbrev pub ItemsCatch : Option Items → List Catcher → Type 0
ItemsCatch None cs = ⊥
ItemsCatch (Some ds) cs = CatchersAre ds [] cs × (in_place false (catcher_names cs) ≡ true)

-- none where there is no such field
abbrev pub IsRetry : Option Source → List Retrier → Type 0
IsRetry None rs = rs ≡ []
IsRetry (Some d) rs = ItemsRetry (as_array d) rs

abbrev pub IsCatch : Option Source → List Catcher → Type 0
IsCatch None cs = cs ≡ []
IsCatch (Some d) cs = ItemsCatch (as_array d) cs

abbrev pub IsErrorHandling : Source → ErrorHandling → Type 0
IsErrorHandling d h = IsRetry (get (codes "Retry") d) h.retriers × IsCatch (get (codes "Catch") d) h.catchers
