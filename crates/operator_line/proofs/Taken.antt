-- Steps that are taken one after another, while some are left to take.
use Rattle.std.proofs.Common.{◌≡◌, ◌<◌, ◌+◌, ◌-◌, ◌^◌, ℕ, zero, suc, List, [], ◌∷◌, ◌++◌, map, length, true, false, Bool, not, ◌&&◌, ◌||◌, cond, Option, None, Some, Result, Ok, Err, inl, inr, refl, sym, ap, subst, ◌∙◌, arith}
use Rattle.std.specs.Prelude.{◌⊎◌, IfOk, IfSome, OnOk}
use Rattle.std.specs.BTreeSet.{BTreeSet}
use Rattle.std.specs.Ordering.{eq_by_cmp}
use Rattle.std.proofs.lemmas.List.{append_assoc, append-nil, length-append, length-map, map-append}
use Rattle.step_names.specs.Order.{thread_cmp}
use Rattle.step_names.specs.Thread.{Thread}
use Rattle.step_names.specs.Written.{step_text}
use Rattle.step_names.specs.declared.step.StepName.{StepName}
use Rattle.book_log.specs.Answers.{is_enabled, step_answer}
use Rattle.book_log.proofs.Elsewhere.{steps_leave_others}
use Rattle.book_log.specs.Legal.{IsAccepted, IsLegal}
use Rattle.book_log.specs.Log.{Log, appended, world_of}
use Rattle.book_log.specs.declared.entry.Entry.TheVariants.{Step as Stepped}
use Rattle.book_log.specs.declared.moved.Moved.{Moved}
use Rattle.book_log.specs.declared.refusal.Refusal.{Refusal}
use Rattle.book_log.specs.declared.refusal.Refusal.TheVariants.{NoMachine, MachineTaken, BadMachine, ExecTaken, NoThread, NotReady, NoStep, HasDependents, Stale, Full, Memory, Settled, Held}
use Rattle.journaled_book.proofs.Cursors.{none_at_first, none_left_out, none_up_to}
use Rattle.journaled_book.proofs.Threads.{step_thread}
use Rattle.journaled_book.specs.Cursors.{GoesBack, IsUpTo, LeavesNoneOut, first_of_all, cursor_place}
use Rattle.journaled_book.specs.Cursor.{Cursor}
use Rattle.journaled_book.specs.Kind.{Kind}
use Rattle.journaled_book.specs.First.{IsFirstReady}
use Rattle.journaled_book.specs.Planned.{IsMoveRefusal, OrMemory}
use Rattle.journaled_book.specs.FirstMove.{IsFirstToMove, moves_freely}
use Rattle.journaled_book.specs.declared.fault.EntryFault.{EntryFault}
use Rattle.journaled_book.specs.declared.fault.EntryFault.TheVariants as by
use Rattle.reply_lines.specs.Replies.{names_reply}
use Rattle.reply_lines.specs.Replying.{AreLines}
use Rattle.reply_lines.specs.declared.lines.Lines.{Lines}
use Rattle.operator_line.specs.Answers.{DrivesAtMost, IsLeastEnabled, NeedsHeld, NoneMoves, StopsDrive, Turn, took, skipped, drive_reply, is_held_refusal, is_passed_by, turn_steps}
use Rattle.operator_line.specs.Driving.{IsFirstMoving, KeepsLines, LooksAtAll, PassesBy, Taken, TakesOne, is_for_hold, passed_in}
use Rattle.operator_line.specs.declared.driving.Tried.{Tried}
use Rattle.operator_line.specs.declared.driving.Tried.TheVariants.{Taken as StepTaken, PassedBy, NoMove}

-- ---- turns

took_more : (turns more : List Turn) → turn_steps (turns ++ more) ≡ turn_steps turns ++ turn_steps more
took_more [] more = refl
took_more (took name ∷ turns) more = ap (λ (ns : List StepName). name ∷ ns) (took_more turns more)
took_more (skipped t ∷ turns) more = took_more turns more

-- ---- who is passed by

module _ (P Q : Thread → Bool) (same : (u : Thread) → P u ≡ Q u) (log : Log) where
  free_same : (u : Thread) (b : Bool) → moves_freely log P u ≡ b → moves_freely log Q u ≡ b
  free_same u b h = subst (λ (c : Bool). (is_enabled log u && not c) ≡ b) (same u) h

  none_same : NoneMoves P log → NoneMoves Q log
  none_same h = λ t is. free_same t false (h t is)

  first_same : (t : Thread) → IsLeastEnabled P log t → IsLeastEnabled Q log t
  first_same t h = record { moves = free_same t true h.moves; least = λ u is less. free_same u false (h.least u is less) }

  stops_same : (fault : EntryFault) → StopsDrive P log fault → StopsDrive Q log fault
  stops_same (by.Book refusal) (inl h) = inl h
  stops_same (by.Book refusal) (inr h) = inr (h.0, first_same h.0 h.1, h.2, h.3)
  stops_same (by.Journal fault) h = (h.0, first_same h.0 h.1, h.2)

or_cond : (a b : Bool) → cond a true b ≡ (a || b)
or_cond true b = refl
or_cond false b = refl

or_true : (a : Bool) → (a || true) ≡ true
or_true true = refl
or_true false = refl

not_true : (a b : Bool) → (a && not b) ≡ true → b ≡ false
not_true true true h = cc
not_true true false h = refl
not_true false true h = cc
not_true false false h = refl

-- the first one isn't passed by
pub first_is_free : (log : Log) (P : Thread → Bool) (r : Result (Option Thread) Refusal) → IfOk r (IsFirstToMove log P) → IfOk r (λ found. IfSome found (λ t. P t ≡ false))
first_is_free log P (Ok None) h = tt
first_is_free log P (Ok (Some t)) h = not_true (is_enabled log t) (P t) h.1
first_is_free log P (Err e) h = tt

-- the thread whose turn it is
pub its_turn : (o : Option Log) (P : Thread → Bool) (r : Result (Option Thread) Refusal) (found : Option Thread) (t : Thread) (log : Log) → r ≡ Ok found → found ≡ Some t → o ≡ Some log
    → IfSome o (λ s. IfOk r (IsFirstMoving P s)) → IsLeastEnabled P log t
its_turn o P r found t log ok is held first =
    subst (IsFirstMoving P log) is (subst (λ (x : Result (Option Thread) Refusal). IfOk x (IsFirstMoving P log)) ok (subst (λ (x : Option Log). IfSome x (λ s. IfOk r (IsFirstMoving P s))) held first))

pub first_found : (log : Log) (P : Thread → Bool) (r : Result (Option Thread) Refusal) → IfOk r (IsFirstToMove log P) → IfOk r (IsFirstMoving P log)
first_found log P (Ok None) h = h
first_found log P (Ok (Some t)) h = record { moves = h.1; least = h.2 }
first_found log P (Err e) h = tt

-- one more is passed by
pub one_passed : (t : Thread) (old new : Thread → Bool) → ((u : Thread) → new u ≡ cond (eq_by_cmp thread_cmp t u) true (old u)) → (u : Thread) → new u ≡ (eq_by_cmp thread_cmp t u || old u)
one_passed t old new h u = h u ∙ or_cond (eq_by_cmp thread_cmp t u) (old u)

-- ---- a refusal

pub not_held : (fault : EntryFault) → ((x : StepName) → fault ≡ by.Book (Held x) → ⊥) → is_for_hold fault ≡ false
not_held (by.Book NoMachine) apart = refl
not_held (by.Book MachineTaken) apart = refl
not_held (by.Book (BadMachine fault)) apart = refl
not_held (by.Book ExecTaken) apart = refl
not_held (by.Book NoThread) apart = refl
not_held (by.Book (NotReady readiness)) apart = refl
not_held (by.Book NoStep) apart = refl
not_held (by.Book (HasDependents step)) apart = refl
not_held (by.Book (Stale entries)) apart = refl
not_held (by.Book Full) apart = refl
not_held (by.Book Memory) apart = refl
not_held (by.Book Settled) apart = refl
not_held (by.Book (Held x)) apart = absurd (apart x refl)
not_held (by.Journal fault) apart = refl

needs_held : (log : Log) (t : Thread) (x : StepName) → IsMoveRefusal log t (Held x) → NeedsHeld log t
needs_held log t x (inr h) = let wrong = h.0 in cc
needs_held log t x (inl h) = by_answer (step_answer log t) refl h
  where
    by_answer : (a : Result Moved Refusal) → step_answer log t ≡ a → OrMemory a (Held x) → NeedsHeld log t
    by_answer (Ok m) is same = cc
    by_answer (Err f) is same = (x, is ∙ ap (λ (e : Refusal). let r : Result Moved Refusal = Err e in r) (sym same))

stops_drive : (log : Log) (passed : Thread → Bool) (t : Thread) (e : Refusal) → IsLeastEnabled passed log t → IsMoveRefusal log t e → is_held_refusal e ≡ false → StopsDrive passed log (by.Book e)
stops_drive log passed t e first (inr h) other = inl h.0
stops_drive log passed t e first (inl h) other = by_answer (step_answer log t) refl h
  where
    by_answer : (a : Result Moved Refusal) → step_answer log t ≡ a → OrMemory a e → (e ≡ Memory) ⊎ ((u : Thread) × IsLeastEnabled passed log u × (step_answer log u ≡ Err e) × (is_held_refusal e ≡ false))
    by_answer (Ok m) is same = inl same
    by_answer (Err f) is same = inr (t, first, is ∙ ap (λ (x : Refusal). let r : Result Moved Refusal = Err x in r) (sym same), other)

pub refused_turn : (log : Log) (t : Thread) (passed more : BTreeSet Thread) (lines same : Lines) (e : Refusal) (r : Result Tried EntryFault) → IsLeastEnabled (passed_in passed) log t
    → IsMoveRefusal log t e → PassesBy t (by.Book e) passed more r → KeepsLines lines same → TakesOne log log passed more lines same r
refused_turn log t passed more lines same e (Ok StepTaken) first h p k = absurd p
refused_turn log t passed more lines same e (Ok PassedBy) first h p k =
    let is = p.1 in
    let needs : e ≡ Held p.0 = cc in
    (t, first, needs_held log t p.0 (subst (IsMoveRefusal log t) needs h), refl, k, p.2)
refused_turn log t passed more lines same e (Ok NoMove) first h p k = absurd p
refused_turn log t passed more lines same e (Err told) first h (inl memory) k = (subst (StopsDrive (passed_in passed) log) (sym memory) (inl refl), refl, k)
refused_turn log t passed more lines same e (Err told) first h (inr p) k = (subst (StopsDrive (passed_in passed) log) (sym p.0) (stops_drive log (passed_in passed) t e first h p.1), refl, k)

-- the name of the step that is taken, by its thread and its number
pub own_name : (m : Moved) (t : Thread) (name : StepName) (kind : Kind) → m.name.thread ≡ t → Stepped m.name m.kind ≡ Stepped name kind → record { thread = t; no = name.no } ≡ m.name
own_name m t name kind own same =
    let one : name ≡ m.name = cc in
    ap (λ (u : Thread). let x : StepName = record { thread = u; no = name.no } in x) (sym own) ∙ ap (λ (n : StepName). let x : StepName = record { thread = m.name.thread; no = n.no } in x) one

-- ---- all turns

-- Whatever comes from here on, with the turns so far it came from the beginning.
pub record HasTaken (count left : ℕ) (before now : Log) (set : BTreeSet Thread) (lines : Lines) : Type 0 where
  pub turns : List Turn
  pub passed : List Thread
  pub passed_are : (u : Thread) → passed_in set u ≡ is_passed_by passed u
  pub lines_are : AreLines lines (map step_text (turn_steps turns))
  pub counted : length (turn_steps turns) + left ≡ count
  pub goes_on : (rest : List Turn) (stop : Option EntryFault) (after : Log) → DrivesAtMost left passed now rest stop after → DrivesAtMost count [] before (turns ++ rest) stop after

pub begins : (count : ℕ) (before : Log) (set : BTreeSet Thread) (lines : Lines) → ((u : Thread) → passed_in set u ≡ false) → AreLines lines [] → HasTaken count count before before set lines
begins count before set lines none h = record { turns = []; passed = []; passed_are = none; lines_are = h; counted = omega arith; goes_on = λ rest stop after d. d }

one_less : (n : ℕ) → suc n - 1 ≡ n
one_less n = omega arith

-- one step more
pub one_more : (count left : ℕ) (before now next : Log) (set more : BTreeSet Thread) (lines longer : Lines) → 0 < left → HasTaken count left before now set lines → TakesOne now next set more lines longer (Ok StepTaken)
    → HasTaken count (left - 1) before next more longer
one_more count zero before now next set more lines longer some t one = absurd (omega (arith, some))
one_more count (suc left) before now next set more lines longer some t one =
    let x = one.0.name in
    let names : turn_steps (t.turns ++ took x ∷ []) ≡ turn_steps t.turns ++ x ∷ [] = took_more t.turns (took x ∷ []) in
    let texts : map step_text (turn_steps (t.turns ++ took x ∷ [])) ≡ map step_text (turn_steps t.turns) ++ step_text x ∷ [] = ap (map step_text) names ∙ map-append step_text (turn_steps t.turns) (x ∷ []) in
    let long : length (turn_steps (t.turns ++ took x ∷ [])) ≡ length (turn_steps t.turns) + 1 = ap length names ∙ length-append (turn_steps t.turns) (x ∷ []) in
    let c = t.counted in
    record {
      turns = t.turns ++ took x ∷ [];
      passed = t.passed;
      passed_are = subst (λ (s : BTreeSet Thread). (u : Thread) → passed_in s u ≡ is_passed_by t.passed u) (sym one.6) t.passed_are;
      lines_are = subst (AreLines longer) (sym texts) (one.5 (map step_text (turn_steps t.turns)) t.lines_are);
      counted = omega (arith, long, c);
      goes_on = λ rest stop after d.
          subst (λ (l : List Turn). DrivesAtMost count [] before l stop after) (sym (append_assoc t.turns (took x ∷ []) rest))
          (t.goes_on (took x ∷ rest) stop after (
            one.0,
            first_same (passed_in set) (is_passed_by t.passed) t.passed_are now x.thread one.1,
            one.2,
            refl,
            subst (λ (s : Log). DrivesAtMost left t.passed s rest stop after) one.3 (subst (λ (n : ℕ). DrivesAtMost n t.passed next rest stop after) (one_less left) d),
          ));
    }

-- one thread more is passed by
pub one_skipped : (count left : ℕ) (before now next : Log) (set more : BTreeSet Thread) (lines same : Lines) → 0 < left → HasTaken count left before now set lines → TakesOne now next set more lines same (Ok PassedBy)
    → HasTaken count left before next more same
one_skipped count zero before now next set more lines same some t one = absurd (omega (arith, some))
one_skipped count (suc left) before now next set more lines same some t one =
    let x = one.0 in
    let names : turn_steps (t.turns ++ skipped x ∷ []) ≡ turn_steps t.turns = took_more t.turns (skipped x ∷ []) ∙ append-nil (turn_steps t.turns) in
    record {
      turns = t.turns ++ skipped x ∷ [];
      passed = x ∷ t.passed;
      passed_are = λ u. one.5.has u ∙ ap (λ (b : Bool). eq_by_cmp thread_cmp x u || b) (t.passed_are u);
      lines_are = subst (λ (ns : List StepName). AreLines same (map step_text ns)) (sym names) (one.4.1 (map step_text (turn_steps t.turns)) t.lines_are);
      counted = ap (λ (ns : List StepName). length ns + suc left) names ∙ t.counted;
      goes_on = λ rest stop after d.
          subst (λ (l : List Turn). DrivesAtMost count [] before l stop after) (sym (append_assoc t.turns (skipped x ∷ []) rest))
          (t.goes_on (skipped x ∷ rest) stop after (
            first_same (passed_in set) (is_passed_by t.passed) t.passed_are now x one.1,
            one.2,
            subst (λ (s : Log). DrivesAtMost (suc left) (x ∷ t.passed) s rest stop after) one.3 d,
          ));
    }

ended : (count left : ℕ) (before now : Log) (set : BTreeSet Thread) (lines : Lines) (stop : Option EntryFault) (t : HasTaken count left before now set lines) → DrivesAtMost left t.passed now [] stop now → Taken count before now lines stop
ended count left before now set lines stop t d =
    record { turns = t.turns; drives = subst (λ (l : List Turn). DrivesAtMost count [] before l stop now) (append-nil t.turns) (t.goes_on [] stop now d); lines_are = t.lines_are }

abbrev kept : (count left : ℕ) (before now : Log) (set : BTreeSet Thread) (lines same : Lines) → KeepsLines lines same → HasTaken count left before now set lines → HasTaken count left before now set same
kept count left before now set lines same k t = record {
  turns = t.turns;
  passed = t.passed;
  passed_are = t.passed_are;
  lines_are = k.1 (map step_text (turn_steps t.turns)) t.lines_are;
  counted = t.counted;
  goes_on = t.goes_on;
}

-- as many as were wanted
pub all_taken : (count left : ℕ) (before now : Log) (set : BTreeSet Thread) (lines : Lines) → left ≡ 0 → HasTaken count left before now set lines → Taken count before now lines None
all_taken count zero before now set lines none t = ended count zero before now set lines None t refl
all_taken count (suc left) before now set lines none t = cc

-- no more, since none can move or a step was refused
pub none_left : (count left : ℕ) (before now next : Log) (set more : BTreeSet Thread) (lines same : Lines) → 0 < left → HasTaken count left before now set lines → TakesOne now next set more lines same (Ok NoMove)
    → Taken count before next same None
none_left count zero before now next set more lines same some t one = absurd (omega (arith, some))
none_left count (suc left) before now next set more lines same some t one =
    subst (λ (s : Log). Taken count before s same None) (sym one.1)
    (ended count (suc left) before now set same None (kept count (suc left) before now set lines same one.2 t) (none_same (passed_in set) (is_passed_by t.passed) t.passed_are now one.0, refl))

pub stopped : (count left : ℕ) (before now next : Log) (set more : BTreeSet Thread) (lines same : Lines) (fault : EntryFault) → 0 < left → HasTaken count left before now set lines → TakesOne now next set more lines same (Err fault)
    → Taken count before next same (Some fault)
stopped count zero before now next set more lines same fault some t one = absurd (omega (arith, some))
stopped count (suc left) before now next set more lines same fault some t one =
    subst (λ (s : Log). Taken count before s same (Some fault)) (sym one.1)
    (ended count (suc left) before now set same (Some fault) (kept count (suc left) before now set lines same one.2 t) (stops_same (passed_in set) (is_passed_by t.passed) t.passed_are now fault one.0, refl))

-- ---- what is told

pub few_lines : (count left : ℕ) (before now : Log) (set : BTreeSet Thread) (lines : Lines) → HasTaken count left before now set lines → 0 < left → count < 2 ^ 32 → lines.count + 1 < 2 ^ 32
few_lines count left before now set lines t some few =
    let l = t.lines_are.counted in
    let m = length-map (turn_steps t.turns) step_text in
    let c = t.counted in
    omega (arith, l, m, c, some, few)

-- where no line is there, and it ended at a refusal, nothing was taken
pub none_taken : (count : ℕ) (before after : Log) (lines : Lines) (fault : EntryFault) → Taken count before after lines (Some fault) → lines.count ≡ 0 → after ≡ before
none_taken count before after lines fault t none = by_turns count [] t.turns t.drives (sym t.lines_are.counted ∙ none)
  where
    by_turns : (n : ℕ) (passed : List Thread) (turns : List Turn) → DrivesAtMost n passed before turns (Some fault) after → length (map step_text (turn_steps turns)) ≡ 0 → after ≡ before
    by_turns zero passed [] d e = absurd d
    by_turns (suc n) passed [] d e = d.1
    by_turns n passed (took x ∷ turns) d e = cc
    by_turns zero passed (skipped t ∷ turns) d e = absurd d
    by_turns (suc n) passed (skipped t ∷ turns) d e = by_turns (suc n) (t ∷ passed) turns d.2 e

pub drive_done : (names : List StepName) (stop : Option EntryFault) → stop ≡ None → drive_reply names stop ≡ names_reply names
drive_done [] None e = refl
drive_done [] (Some fault) e = cc
drive_done (x ∷ names) stop e = refl

pub drive_taken : (lines : Lines) (names : List StepName) (stop : Option EntryFault) → AreLines lines (map step_text names) → (lines.count ≡ 0 → ⊥) → drive_reply names stop ≡ names_reply names
drive_taken lines [] stop h some = absurd (some h.counted)
drive_taken lines (x ∷ names) stop h some = refl

-- ---- from where on a thread is looked for

pub all_at_first : (o : Option Log) (P : Thread → Bool) (at : Thread) → at ≡ first_of_all → IfSome o (λ log. LeavesNoneOut log P at)
all_at_first None P at first = tt
all_at_first (Some log) P at first = subst (LeavesNoneOut log P) (sym first) (none_at_first log P)

-- after a step of the thread
pub all_after_step : (before : Log) (t : Thread) (m : Moved) (P : Thread → Bool) (from to : Thread) → IsLegal before → step_answer before t ≡ Ok m → GoesBack t.exec from to
    → LeavesNoneOut before P from → LeavesNoneOut (appended before (Stepped m.name m.kind)) P to
all_after_step before t m P from to legal answer back none =
    let own : m.name.thread ≡ t = step_thread before t m answer in
    let granted : IsAccepted before (Stepped m.name m.kind) = ap (step_answer before) own ∙ answer in
    let its : GoesBack m.name.thread.exec from to = subst (λ (u : Thread). GoesBack u.exec from to) (sym own) back in
    none_left_out before (appended before (Stepped m.name m.kind)) P m.name.thread.exec from to (steps_leave_others before m.name m.kind legal granted) its none

-- after it is passed by
pub all_after_passing : (log : Log) (t : Thread) (fault : EntryFault) (old new : BTreeSet Thread) (at : Thread) (r : Result Tried EntryFault) → PassesBy t fault old new r → OnOk r (IsUpTo t at)
    → IsFirstReady (world_of log).frames (passed_in old) (Some t) → OnOk r (LeavesNoneOut log (passed_in new) at)
all_after_passing log t fault old new at (Ok StepTaken) h up first = absurd h
all_after_passing log t fault old new at (Ok PassedBy) h up first = none_up_to log (passed_in old) (passed_in new) t at more first up
  where
    more : (u : Thread) → passed_in old u ≡ true → passed_in new u ≡ true
    more u was = h.2.has u ∙ ap (λ (b : Bool). eq_by_cmp thread_cmp t u || b) was ∙ or_true (eq_by_cmp thread_cmp t u)
all_after_passing log t fault old new at (Ok NoMove) h up first = absurd h
all_after_passing log t fault old new at (Err e) h up first = tt

pub all_in : (o : Option Log) (log : Log) (passed : BTreeSet Thread) (cursor : Cursor) (r : Result Tried EntryFault) → o ≡ Some log → OnOk r (LeavesNoneOut log (passed_in passed) (cursor_place cursor)) → OnOk r (LooksAtAll o passed cursor)
all_in o log passed cursor (Ok tried) is h = subst (λ (x : Option Log). LooksAtAll x passed cursor) (sym is) h
all_in o log passed cursor (Err e) is h = tt
