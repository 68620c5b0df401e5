-- What a call gives its caller, from what the book's call promises.
use Rattle.std.proofs.Common.{◌≡◌, ℕ, ◌+◌, ◌≤◌, List, [], ◌∷◌, ◌++◌, length, append_assoc, append-nil, length-append, arith, Option, Some, None, Result, Ok, Err, refl, sym, ap, subst, ◌∙◌, inl, inr}
use Rattle.json_tree.specs.Data.{depth, most_levels}
use Rattle.json_tree.specs.View.{data_of}
use Rattle.json_tree.specs.declared.tree.Json.{Json}
use Rattle.step_names.specs.Thread.{Thread}
use Rattle.step_names.specs.declared.step.StepName.{StepName}
use Rattle.book_events.specs.Fact.{Fact}
use Rattle.book_log.specs.Answers.{Gives, GivesOr, HoldLacks, StepLacks, absent, found_answer, free_answer, from_step, hold_answer, start_answer, step_answer, undo_answer}
use Rattle.book_log.specs.Legal.{IsAccepted, IsLegal}
use Rattle.book_log.specs.Log.{Log, appended, log_facts}
use Rattle.book_log.specs.declared.entry.Entry.{Entry}
use Rattle.book_log.specs.declared.entry.Entry.TheVariants.{Start, Step as Stepped, Undo, Hold}
use Rattle.book_log.specs.declared.moved.Moved.{Moved}
use Rattle.book_log.specs.declared.refusal.Refusal.{Refusal}
use Rattle.book_log.proofs.LegalRuns.{accepted_is_legal}
use Rattle.book_events.specs.Commits.{AnswersCommit}
use Rattle.book_events.specs.declared.commits.CommitRefusal.{CommitRefusal}
use Rattle.book_events.specs.declared.commits.CommitRefusal.TheVariants as turn
use Rattle.book_events.specs.Planned.{IsPlanned, WasPlanned}
use Rattle.book_events.specs.Prepared.{Prepared}
use Rattle.book_events.specs.declared.room.PlanRoom.{PlanRoom}
use Rattle.book_events.proofs.Answered.{given_ok, ok_gives, start_named, step_is_next}
use Rattle.shared_book.specs.Numbers.{IsKnown, last_of}
use Rattle.shared_book.specs.Away.{Away}
use Rattle.shared_book.specs.Views.{DeskView, PassView, ExtendsLog, IsCounted}
use Rattle.shared_book.specs.Calls.{GivesAfter, IsCause, IsCauseAt, MaySee}
use Rattle.shared_book.specs.Commits.{IsNotTaken, IsNotTakenAt, shared_refusal}
use Rattle.shared_book.specs.declared.receipt.Receipt.{Receipt}

-- ---- a pass and the desk, by their fields

module _ (begun log : Log) (first : ℕ) (claims : Away) (d : DeskView) (seen parts : ℕ) (was : List Receipt) (had : PassView)
    (d_is : record { log = log; first = first; claims = claims } ≡ d) (had_is : record { seen = seen; receipts = was; parts = parts } ≡ had)
    (goes : ExtendsLog begun d.log) (legal : IsLegal d.log) (known : IsKnown d.log.entries seen (last_of was)) where
  -- a receipt of an entry that is accepted after the log
  pub given : (e one : Entry) (n seen' parts' : ℕ) (mid items : List Receipt) (r : Receipt) → n ≡ length d.log.entries + 1 → IsAccepted log e → one ≡ e → mid ≡ was
      → items ≡ mid ++ r ∷ [] → r ≡ record { number = n; entry = one } → seen' ≡ n → parts' ≡ parts → GivesAfter begun d.log had (record { seen = seen'; receipts = items; parts = parts' }) r
  given e one n seen' parts' mid items r number accepted one_is mid_is items_is r_is seen_is parts_is =
      let accepted_now : IsAccepted d.log e = subst (λ (x : DeskView). IsAccepted x.log e) d_is accepted in
      let entry : r.entry ≡ e = ap (λ (x : Receipt). x.entry) r_is ∙ one_is in
      let numbered : r.number ≡ n = ap (λ (x : Receipt). x.number) r_is in (
        record {
          before = d.log;
          goes = goes;
          legal = subst (λ (x : Entry). IsLegal (appended d.log x)) (sym entry) (accepted_is_legal d.log e legal accepted_now);
          known = subst (λ (p : PassView). IsKnown d.log.entries p.seen (last_of p.receipts)) had_is known;
          number = numbered ∙ number;
          now = let like : PassView → PassView = λ p. record { seen = r.number; receipts = p.receipts ++ r ∷ []; parts = p.parts } in
              rw (seen_is ∙ sym numbered, parts_is, items_is, mid_is) (ap like had_is);
        },
        refl,
      )

  pub may_see : MaySee begun had d.log
  may_see = record { goes = goes; legal = legal; known = subst (λ (p : PassView). IsKnown d.log.entries p.seen (last_of p.receipts)) had_is known }

  -- as the call is answered, or for memory
  pub refused : {T : Type 0} (answer : Log → Result T Refusal) (e : Refusal) → IsCauseAt (answer log) e → IsCause begun answer had e
  refused answer e (inl memory) = inl memory
  refused answer e (inr is) = inr (d.log, may_see, ap (λ (x : DeskView). answer x.log) (sym d_is) ∙ is)

-- ---- accepted

pub start_accepted : (log : Log) (exec : Thread) (machine : List ℕ) (input : Json) (name : StepName) → Gives (Ok name) (start_answer log exec machine) → exec.path ≡ [] → depth (data_of input) ≤ most_levels → IsAccepted log (Start exec machine input)
start_accepted log exec machine input name gives root shallow = (start_named log exec machine name (given_ok (start_answer log exec machine) name gives), root, shallow)

pub turn_of : (log : Log) (t : Thread) (m : Moved) → step_answer log t ≡ Ok m → m.name.thread ≡ t
turn_of log t m answer = ap (λ (n : StepName). n.thread) (step_is_next log t m answer).2

pub turn_accepted : (log : Log) (t : Thread) (m : Moved) → step_answer log t ≡ Ok m → IsAccepted log (Stepped m.name m.kind)
turn_accepted log t m answer = ap (step_answer log) (turn_of log t m answer) ∙ answer

pub step_of : (log : Log) (t : Thread) (m : Moved) → GivesOr (StepLacks log t) (Ok m) (step_answer log t) → m.name.thread ≡ t
step_of log t m gives = turn_of log t m (given_ok (step_answer log t) m (ok_gives (StepLacks log t) (step_answer log t) m gives))

pub step_accepted : (log : Log) (t : Thread) (m : Moved) → GivesOr (StepLacks log t) (Ok m) (step_answer log t) → IsAccepted log (Stepped m.name m.kind)
step_accepted log t m gives = turn_accepted log t m (given_ok (step_answer log t) m (ok_gives (StepLacks log t) (step_answer log t) m gives))

pub hold_accepted : (log : Log) (name : StepName) (count : ℕ) → GivesOr (HoldLacks log name) (Ok count) (hold_answer log name) → IsAccepted log (Hold name count)
hold_accepted log name count gives = given_ok (hold_answer log name) count (ok_gives (HoldLacks log name) (hold_answer log name) count gives)

free_is : (name n : StepName) (o : Option Fact) → free_answer name o ≡ Ok n → n ≡ name
free_is name n None h = cc
free_is name n (Some f) h = cc

found_is : (gone : Refusal) (name n : StepName) (o : Option (Fact × List Fact)) → found_answer gone name o ≡ Ok n → n ≡ name
found_is gone name n None h = cc
found_is gone name n (Some p) h = free_is name n _ h

undo_is : (log : Log) (name n : StepName) → undo_answer log name ≡ Ok n → n ≡ name
unfolding undo_answer
undo_is log name n h = found_is (absent log name) name n (from_step name (log_facts log)) h

pub undo_accepted : (log : Log) (name n : StepName) → Ok n ≡ undo_answer log name → IsAccepted log (Undo name)
undo_accepted log name n h = sym h ∙ ap Ok (undo_is log name n (sym h))

-- the log has one entry more, and one receipt more was handed out
pub counted_more : (begun log now : Log) (first total all : ℕ) (e : Entry) → IsCounted begun log first total → now ≡ appended log e → all ≡ total + 1 → IsCounted begun now first all
counted_more begun log now first total all e counted is more =
    let long = length-append log.entries (e ∷ []) in
    let so_far = counted.counted in
    subst (λ (s : Log). IsCounted begun s first all) (sym is)
    (record {
      goes = record {
        begin = counted.goes.begin;
        more = counted.goes.more ++ e ∷ [];
        entries = ap (λ (l : List Entry). l ++ e ∷ []) counted.goes.entries ∙ append_assoc begun.entries counted.goes.more (e ∷ []);
      };
      is_first = counted.is_first;
      counted = omega (arith, long, so_far, more);
    })

-- ---- refused

pub cause_at : {T : Type 0} (answer : Result T Refusal) (e : Refusal) → Gives (Err e) answer → IsCauseAt answer e
cause_at (Ok x) e (inl h) = cc
cause_at (Ok x) e (inr h) = inl cc
cause_at (Err f) e h = inr (sym h)

-- also where want of memory may stand for any answer
pub lacking_cause_at : {T : Type 0} (lacks : Type 0) (answer : Result T Refusal) (e : Refusal) → GivesOr lacks (Err e) answer → IsCauseAt answer e
lacking_cause_at lacks answer e (inl h) = cause_at answer e h
lacking_cause_at lacks answer e (inr h) = inl cc

-- of a turn
pub turn_not_taken : (begun at : Log) (had : PassView) (t : Thread) (p : Prepared) (r : CommitRefusal) → MaySee begun had at → AnswersCommit at t p (Err r) → IsNotTaken begun t p had (shared_refusal r)
turn_not_taken begun at had t p (turn.Stale why q) may answer = (at, may, answer)
turn_not_taken begun at had t p (turn.Held step q) may answer = (at, may, answer)
turn_not_taken begun at had t p (turn.Refused e) may answer = inr (at, may, answer)

pub turn_not_taken_at : (at : Log) (had : PassView) (t : Thread) (p : Prepared) (r : CommitRefusal) → AnswersCommit at t p (Err r) → IsNotTakenAt at t p had (shared_refusal r)
turn_not_taken_at at had t p (turn.Stale why q) answer = answer
turn_not_taken_at at had t p (turn.Held step q) answer = answer
turn_not_taken_at at had t p (turn.Refused e) answer = inr answer

-- ---- rollback

pub planned_now : (log : Log) (r : PlanRoom) → IsPlanned log r → WasPlanned log r
planned_now log r planned = record { front = log.entries; later = []; parts = sym (append-nil log.entries); planned = planned }
