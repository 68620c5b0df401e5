-- Who is passed by was refused for a hold.
use Rattle.std.proofs.Common.{◌≡◌, true, false, List, [], ◌∷◌, ◌++◌, append_assoc, append-nil, Result, Ok, Err, refl, sym, ap, subst, ◌∙◌, inl, inr}
use Rattle.std.specs.Prelude.{◌⊎◌}
use Rattle.step_names.specs.Thread.{Thread}
use Rattle.step_names.specs.declared.step.StepName.{StepName}
use Rattle.book_log.specs.Answers.{GivesOr, StepLacks, step_answer}
use Rattle.book_log.specs.Legal.{IsLegal}
use Rattle.book_log.specs.Log.{Log, appended}
use Rattle.book_log.specs.declared.entry.Entry.{Entry}
use Rattle.book_log.specs.declared.moved.Moved.{Moved}
use Rattle.book_log.specs.declared.refusal.Refusal.{Refusal}
use Rattle.book_log.specs.declared.refusal.Refusal.TheVariants.{NoMachine, MachineTaken, BadMachine, ExecTaken, NoThread, NotReady, NoStep, HasDependents, Stale as StalePlan, Full, Memory, Settled, Held}
use Rattle.book_events.specs.Commits.{AnswersCommit, tells_hold}
use Rattle.book_events.specs.Planned.{OrMemory}
use Rattle.book_events.specs.Prepared.{Prepared}
use Rattle.book_events.specs.declared.commits.CommitRefusal.{CommitRefusal}
use Rattle.book_events.specs.declared.commits.CommitRefusal.TheVariants as turn
use Rattle.shared_book.specs.Away.{AreMoves, Away, IsMove, PassesNoOther, WasRefused, WereRefused, is_passed}
use Rattle.shared_book.specs.Calls.{is_held}
use Rattle.shared_book.specs.Commits.{is_turn_held, shared_refusal}
use Rattle.shared_book.specs.declared.refusal.SharedRefusal.TheVariants as shared

-- ---- a start or a step more

moves_more : (es : List Entry) (e : Entry) → AreMoves es → IsMove e → AreMoves (es ++ e ∷ [])
moves_more [] e all move = (move, tt)
moves_more (x ∷ es) e all move = (all.0, moves_more es e all.1 move)

was_more : (log : Log) (t : Thread) (e : Entry) → IsMove e → WasRefused log t → WasRefused (appended log e) t
was_more log t e move w = record {
  before = w.before;
  since = w.since ++ e ∷ [];
  parts = ap (λ (s : Log). appended s e) w.parts ∙ ap (λ (l : List Entry). let s : Log = record { begin = w.before.begin; entries = l } in s) (append_assoc w.before.entries w.since (e ∷ []));
  legal = w.legal;
  moves = moves_more w.since e w.moves move;
  step = w.step;
  refused = w.refused;
}

pub were_more : (log now : Log) (a : Away) (e : Entry) → IsMove e → now ≡ appended log e → WereRefused log a → WereRefused now a
were_more log now a e move is all = λ t h. subst (λ (s : Log). WasRefused s t) (sym is) (was_more log t e move (all t h))

-- ---- who is passed by

pub were_fewer : (log : Log) (a b : Away) → PassesNoOther a b → WereRefused log a → WereRefused log b
were_fewer log a b fewer all = λ t h. all t (fewer t h)

pub were_none : (log : Log) (a : Away) → ((t : Thread) → is_passed a t ≡ false) → WereRefused log a
were_none log a none = λ t h. let clash : true ≡ false = sym h ∙ none t in cc

-- ---- who is refused for a hold

held_is : (e : Refusal) → tells_hold e ≡ true → (step : StepName) × (e ≡ Held step)
held_is (Held step) h = (step, refl)
held_is NoMachine h = cc
held_is MachineTaken h = cc
held_is (BadMachine fault) h = cc
held_is ExecTaken h = cc
held_is NoThread h = cc
held_is (NotReady readiness) h = cc
held_is NoStep h = cc
held_is (HasDependents step) h = cc
held_is (StalePlan entries) h = cc
held_is Full h = cc
held_is Memory h = cc
held_is Settled h = cc

was_now : (log : Log) (t : Thread) (step : StepName) → IsLegal log → step_answer log t ≡ Err (Held step) → WasRefused log t
was_now log t step legal refused = record {
  before = log;
  since = [];
  parts = ap (λ (l : List Entry). let s : Log = record { begin = log.begin; entries = l } in s) (sym (append-nil log.entries));
  legal = legal;
  moves = tt;
  step = step;
  refused = refused;
}

held_given : (lacks : Type 0) (answer : Result Moved Refusal) (step : StepName) → GivesOr lacks (Err (Held step)) answer → answer ≡ Err (Held step)
held_given lacks (Ok x) step (inl (inl h)) = cc
held_given lacks (Ok x) step (inl (inr h)) = cc
held_given lacks (Err f) step (inl h) = sym h
held_given lacks answer step (inr h) = let clash = h.0 in cc

pub held_step : (log : Log) (t : Thread) (e : Refusal) → IsLegal log → GivesOr (StepLacks log t) (Err e) (step_answer log t) → is_held (shared.Refused e) ≡ true → WasRefused log t
held_step log t e legal gives h =
    let k = held_is e h in
    was_now log t k.0 legal (held_given (StepLacks log t) (step_answer log t) k.0 (subst (λ (x : Refusal). GivesOr (StepLacks log t) (Err x) (step_answer log t)) k.1 gives))

held_or : (answer : Result Moved Refusal) (step : StepName) (lacks : Type 0) → OrMemory answer (Held step) ⊎ ((Held step ≡ Memory) × lacks) → answer ≡ Err (Held step)
held_or (Ok x) step lacks (inl h) = cc
held_or (Err f) step lacks (inl h) = ap Err (sym h)
held_or answer step lacks (inr h) = let clash = h.0 in cc

pub held_turn : (log : Log) (t : Thread) (p : Prepared) (r : CommitRefusal) → IsLegal log → AnswersCommit log t p (Err r) → is_turn_held (shared_refusal r) ≡ true → WasRefused log t
held_turn log t p (turn.Stale why prepared) legal answer h = cc
held_turn log t p (turn.Held step prepared) legal answer h = was_now log t step legal (held_or (step_answer log t) step (StepLacks log t) answer.1)
held_turn log t p (turn.Refused e) legal answer h = cc
