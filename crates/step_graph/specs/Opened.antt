-- At which places steps may be on which one of some steps depends directly: those of its execution, and the accesses of its key.
use Rattle.std.specs.Prelude.{◌≡◌, ◌⊎◌, ℕ, Bool, true, false, ◌==◌, ◌||◌, List, [], ◌∷◌, length, None, Some, slice_get, slice_set, unwrap_or}
use Rattle.item_store.specs.Table.{is_same_key}
use Rattle.saved_steps.specs.declared.fact.Access.{Access}
use Rattle.saved_steps.specs.declared.record.StepRecord.{StepRecord}
use Rattle.step_index.specs.Gathered.{accesses, is_of_execution, places_where}

-- the mark at a place
abbrev pub has : List Bool → ℕ → Bool
has marks place = unwrap_or (slice_get marks place) false

-- marks with some more
abbrev pub marked : List Bool → List ℕ → List Bool
marked marks [] = marks
marked marks (place ∷ places) = marked (slice_set marks place true) places

-- the steps of an execution are marked all or none, and so are the accesses of a key; the steps that were opened are marked
pub record AreOpen (rs : List StepRecord) (opened : ℕ → Bool) (execs keys : List Bool) : Type 0 where
  pub execs_fit : length execs ≡ length rs
  pub keys_fit : length keys ≡ length rs
  pub by_exec : (p q : ℕ) (r s : StepRecord) → slice_get rs p ≡ Some r → slice_get rs q ≡ Some s → r.fact.name.thread.exec ≡ s.fact.name.thread.exec → has execs p ≡ true → has execs q ≡ true
  pub by_key : (p q : ℕ) (r s : StepRecord) (x y : Access) → slice_get rs p ≡ Some r → slice_get rs q ≡ Some s → r.fact.access ≡ Some x → s.fact.access ≡ Some y
      → is_same_key x.key y.key ≡ true → has keys p ≡ true → has keys q ≡ true
  pub of_exec : (m : ℕ) (r : StepRecord) → opened m ≡ true → slice_get rs m ≡ Some r → has execs m ≡ true
  pub of_key : (m : ℕ) (r : StepRecord) (x : Access) → opened m ≡ true → slice_get rs m ≡ Some r → r.fact.access ≡ Some x → has keys m ≡ true

-- one more is opened
abbrev pub and_one : ℕ → (ℕ → Bool) → ℕ → Bool
and_one place opened m = (place == m) || opened m

-- ---- what is marked when a step is opened

-- the steps of its execution are marked, or were before
abbrev pub OpensExec : List StepRecord → ℕ → List Bool → List Bool → Type 0
OpensExec rs place old new =
    (r : StepRecord) → slice_get rs place ≡ Some r
    → ((has old place ≡ true) × (new ≡ old)) ⊎ (new ≡ marked old (places_where (is_of_execution r.fact.name.thread.exec) rs))

-- so are the accesses of its key, if it has one
abbrev pub OpensKey : List StepRecord → ℕ → List Bool → List Bool → Type 0
OpensKey rs place old new =
    (r : StepRecord) → slice_get rs place ≡ Some r
    → ((r.fact.access ≡ None) × (new ≡ old)) ⊎ ((x : Access) × (r.fact.access ≡ Some x) × (((has old place ≡ true) × (new ≡ old)) ⊎ (new ≡ marked old (places_where (accesses x.key) rs))))
