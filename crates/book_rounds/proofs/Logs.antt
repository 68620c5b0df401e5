-- Logs that go on.
use Rattle.std.proofs.Common.{◌≡◌, ◌+◌, ◌<◌, ℕ, zero, suc, List, [], ◌∷◌, ◌++◌, length, append_assoc, append-nil, Option, None, Some, refl, sym, ap, subst, ◌∙◌, arith}
use Rattle.std.specs.Prelude.{slice_get}
use Rattle.book_log.specs.Legal.{GoesOnLegally, IsLegal}
use Rattle.book_log.specs.Log.{Log, appended}
use Rattle.book_log.specs.declared.entry.Entry.{Entry}
use Rattle.step_workers.specs.Work.{IsStepEntry}
use Rattle.book_rounds.specs.Rounds.{AreSteps, with_entries}

pub with_none : (log : Log) → with_entries log [] ≡ log
with_none log = ap (λ (entries : List Entry). let s : Log = record { begin = log.begin; entries = entries } in s) (append-nil log.entries)

pub with_more : (log : Log) (e : Entry) (es : List Entry) → with_entries (appended log e) es ≡ with_entries log (e ∷ es)
with_more log e es = ap (λ (entries : List Entry). let s : Log = record { begin = log.begin; entries = entries } in s) (append_assoc log.entries (e ∷ []) es)

-- what comes later in a log goes on from what came before
pub goes_after : (log : Log) (es more : List Entry) → GoesOnLegally log (es ++ more) → GoesOnLegally (with_entries log es) more
goes_after log [] more h = subst (λ (s : Log). GoesOnLegally s more) (sym (with_none log)) h
goes_after log (e ∷ es) more h = subst (λ (s : Log). GoesOnLegally s more) (with_more log e es) (goes_after (appended log e) es more h.1)

pub goes_from : (before after : Log) (more : List Entry) → after ≡ with_entries before more → IsLegal after → GoesOnLegally before more
unfolding IsLegal
goes_from before after more is legal =
    let all : IsLegal (with_entries before more) = subst IsLegal is legal in
    goes_after (record { begin = before.begin; entries = [] }) before.entries more all.1

-- a place behind the front
behind : (front more : List Entry) (i : ℕ) → slice_get (front ++ more) (length front + i) ≡ slice_get more i
behind [] more i = let none : 0 + i ≡ i = omega arith in ap (slice_get more) none
behind (e ∷ front) more i =
    let next : length (e ∷ front) + i ≡ suc (length front + i) = omega arith in
    ap (slice_get (e ∷ (front ++ more))) next ∙ behind front more i

same_some : (a b : Entry) → Some a ≡ Some b → a ≡ b
same_some a b h = cc

-- where a step stands at each place, all are steps
steps_by : (more : List Entry) → ((i : ℕ) → i < length more → (e : Entry) × (slice_get more i ≡ Some e) × IsStepEntry e) → AreSteps more
steps_by [] h = tt
steps_by (x ∷ more) h =
    let first = h 0 (omega arith) in
    (subst IsStepEntry (same_some first.0 x (sym first.1)) first.2, steps_by more (λ i low. h (suc i) (omega (arith, low))))

pub steps_behind : (front more : List Entry) → ((i : ℕ) → i < length more → (e : Entry) × (slice_get (front ++ more) (length front + i) ≡ Some e) × IsStepEntry e) → AreSteps more
steps_behind front more h = steps_by more (λ i low. let one = h i low in (one.0, sym (behind front more i) ∙ one.1, one.2))
