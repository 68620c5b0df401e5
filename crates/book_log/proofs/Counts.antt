-- How many steps remain after each entry, and what a legal log's counts keep.
use Rattle.std.proofs.Common.{◌≡◌, ◌≤◌, ◌<◌, ◌+◌, false, List, [], ◌∷◌, ◌++◌, length, length-append, map, arith, refl, ap, sym, subst, ◌∙◌, suc, inl, inr, Ok}
use Rattle.std.specs.Prelude.{reverse, nat_le, nat_lt}
use Rattle.std.proofs.lemmas.Bool.{or_parts, leb-false, lt-leb, ltb-false, le-ltb}
use Rattle.std.proofs.lemmas.List.{length-reverse}
use Rattle.json_tree.specs.Data.{depth}
use Rattle.json_tree.specs.View.{data_of}
use Rattle.step_names.specs.declared.step.StepName.{StepName}
use Rattle.trace_theory.specs.Traces.{In, names_of, consequences, without, IsBackwardOrder}
use Rattle.trace_theory.proofs.Lists.{In-split, In-filter, In-reverse, reverse-In}
use Rattle.trace_theory.proofs.Least.{Once, at_place, without_one, least_of, Once-filter}
use Rattle.trace_theory.proofs.Orders.{without_none, without_more, without_alike, after_allowed}
use Rattle.trace_theory.proofs.Arranged.{length-middle}
use Rattle.trace_theory.proofs.Records.{names-without}
use Rattle.depends.specs.Steps.{Step, started, moved, start_name}
use Rattle.depends.specs.World.{Setting, World}
use Rattle.depends.specs.Instance.{TakenStep, steps}
use Rattle.depends.specs.Laws.{IsFrom}
use Rattle.depends.proofs.Named.{steps_have_names}
use Rattle.book_log.specs.Answers.{is_full_for_step, is_full_for_define, undo_answer, plan_answer, defines, is_settlement, outline}
use Rattle.book_log.specs.Laws.{LegalLogsHaveRoom}
use Rattle.book_log.specs.Legal.{IsAccepted, IsLegal}
use Rattle.book_log.specs.Log.{Log, appended, base_of, settled, remainder, remaining, setting_of, world_of, past_of}
use Rattle.book_log.specs.declared.begin.Begin.{Begin}
use Rattle.book_log.specs.declared.entry.Entry.{Entry}
use Rattle.book_log.specs.declared.entry.Entry.TheVariants.{Define, Start, Step as Stepped, Undo, Rollback, Settle, Hold}
use Rattle.book_log.proofs.Standing.{StandsAt, from_start, names_there, settled_next, steps_next, stands_undone, stands_rolled}
use Rattle.book_log.proofs.Answered.{once, undo_said}
use Rattle.book_log.proofs.Outlines.{outline_settled, outline_more, outline_same}
use Rattle.book_log.proofs.Settling.{settle_room}
use Rattle.book_log.proofs.HoldSaid.{hold_said}
use Rattle.book_log.proofs.Taking.{start_room, step_room}
use Rattle.book_log.proofs.LegalRuns.{plan_said, of_log, of_legal, legal_stands}

-- ---- steps that go

module _ (s : Setting) (base : World) (from : IsFrom s base) where
  -- a step that goes is one
  one_out : (ts : List TakenStep) (t : TakenStep) → Once (steps s) base (steps_have_names s base from) ts → In t ts → length (without (steps s) (t ∷ []) ts) + 1 ≡ length ts
  one_out ts t once i =
      at_place (steps s) base (steps_have_names s base from) (λ l. length (without (steps s) (t ∷ []) l) + 1 ≡ length l) ts t
      (λ front back e o. ap (λ (l : List TakenStep). length l + 1) (without_one (steps s) base (steps_have_names s base from) front back t o) ∙ sym (length-middle (steps s) base (steps_have_names s base from) front back t))
      once i

  -- and of a backward order as many go as it has
  allowed_out : (ts xs : List TakenStep) → Once (steps s) base (steps_have_names s base from) ts → IsBackwardOrder (steps s) ts xs → length (without (steps s) xs ts) + length xs ≡ length ts
  allowed_out ts [] once a = let e = ap length (without_none (steps s) base (steps_have_names s base from) ts) in omega (arith, e)
  allowed_out ts (x ∷ xs) once a =
      let e = ap length (without_more (steps s) base (steps_have_names s base from) x xs ts) in
      let one = one_out ts x once a.0.0 in
      let rest = allowed_out (without (steps s) (x ∷ []) ts) xs (Once-filter (steps s) base (steps_have_names s base from) _ ts once) a.1 in
      omega (arith, e, one, rest)

  after_out : (ts : List TakenStep) (t : TakenStep) → Once (steps s) base (steps_have_names s base from) ts → In t ts → length (without (steps s) (consequences (steps s) ts t.step) ts) + length (consequences (steps s) ts t.step) ≡ length ts
  after_out ts t once i =
      let all = consequences (steps s) ts t.step in
      let k = allowed_out ts (reverse all) once (after_allowed (steps s) base (steps_have_names s base from) ts t once i) in
      let e = ap length (without_alike (steps s) base (steps_have_names s base from) (reverse all) all ts (λ x j. reverse-In x all j) (λ x j. In-reverse x all j)) in
      let l = length-reverse all in
      omega (arith, k, e, l)

as_many : {A B : Type 0} (f : A → B) (xs : List A) → length (map f xs) ≡ length xs
as_many f [] = refl
as_many f (x ∷ xs) = ap suc (as_many f xs)

some_in : {A : Type 0} (x : A) (xs : List A) → In x xs → 1 ≤ length xs
some_in x [] i = absurd i
some_in x (y ∷ xs) i = omega arith

-- ---- after one more entry

pub steps_there : (log : Log) (s : Setting) (w : World) (ts : List TakenStep) → StandsAt log s w ts → length (remaining log) ≡ length ts
steps_there log s w ts h = ap length (sym (names_there log s w ts h)) ∙ as_many (λ (t : TakenStep). t.step) ts

pub steps_undone : (log : Log) (name n : StepName) → IsLegal log → undo_answer log name ≡ Ok n → length (remaining (appended log (Undo name))) + 1 ≡ length (remaining log)
steps_undone log name n legal a =
    let s = setting_of log in
    let h = legal_stands log legal in
    let k = (undo_said log s (world_of log) (past_of log) h name n a).0 in
    let now = steps_there (appended log (Undo name)) s _ _ (stands_undone log s (world_of log) (past_of log) name k.step h k.free k.named) in
    let was = steps_there log s (world_of log) (past_of log) h in
    let one = one_out s (base_of log) (from_start log s (world_of log) (past_of log) h) (past_of log) k.step (once log s (world_of log) (past_of log) h) k.free.0 in
    omega (arith, now, was, one)

pub steps_rolled : (log : Log) (name : StepName) (undone : List StepName) → IsLegal log → plan_answer log name ≡ Ok undone
    → (length (remaining (appended log (Rollback name undone))) + length undone ≡ length (remaining log)) × (1 ≤ length undone)
steps_rolled log name undone legal a =
    let s = setting_of log in
    let h = legal_stands log legal in
    let k = plan_said log s (world_of log) (past_of log) h name undone a in
    let all = consequences (steps s) (past_of log) k.step.step in
    let own = once log s (world_of log) (past_of log) h in
    let now = steps_there (appended log (Rollback name undone)) s _ _ (stands_rolled log s (world_of log) (past_of log) name undone k.step h k.stood k.named) in
    let was = steps_there log s (world_of log) (past_of log) h in
    let out = after_out s (base_of log) (from_start log s (world_of log) (past_of log) h) (past_of log) k.step own k.stood in
    let many : length undone ≡ length all = ap length k.names ∙ as_many (λ (t : TakenStep). t.fact.name) (reverse all) ∙ length-reverse all in
    let some = some_in k.step all (least_of (steps s) (base_of log) (steps_have_names s (base_of log) (from_start log s (world_of log) (past_of log) h)) (past_of log) k.step own k.stood).holds.itself in
    (omega (arith, now, was, out, many), omega (arith, many, some))

-- ---- room

pub room_for_step : (log : Log) → is_full_for_step log ≡ false → (length (remaining log) < 65536) × (length log.entries + length (remaining log) ≤ 999998)
unfolding is_full_for_step
room_for_step log h =
    let k = or_parts (nat_le 65536 (length (remaining log))) (nat_lt 999998 (length log.entries + length (remaining log))) h in
    (leb-false 65536 (length (remaining log)) k.0, ltb-false 999998 (length log.entries + length (remaining log)) k.1)

pub has_room_for_step : (log : Log) → length (remaining log) < 65536 → length log.entries + length (remaining log) ≤ 999998 → is_full_for_step log ≡ false
unfolding is_full_for_step
has_room_for_step log h k = let e = lt-leb 65536 (length (remaining log)) h in let f = le-ltb 999998 (length log.entries + length (remaining log)) k in rw (e, f) refl

pub room_for_define : (log : Log) → is_full_for_define log ≡ false → length log.entries + length (remaining log) < 1000000
unfolding is_full_for_define
room_for_define log h = leb-false 1000000 (length log.entries + length (remaining log)) h

pub has_room_for_define : (log : Log) → length log.entries + length (remaining log) < 1000000 → is_full_for_define log ≡ false
unfolding is_full_for_define
has_room_for_define log h = lt-leb 1000000 (length log.entries + length (remaining log)) h

-- ---- legal logs

abbrev pub IsShallow : Step → Type 0
IsShallow (started exec machine input) = depth (data_of input) ≤ 127
IsShallow (moved name) = Unit {0}

-- each remaining step and each settled one has its entry, a remaining one not in the outline, and there is room for one more below a
-- million for each step to be undone
pub record IsCounted (log : Log) : Type 0 where
  pub some : length (remaining log) ≤ 65536
  pub all : length log.entries + length (remaining log) ≤ 1000000
  pub stepped : length (settled log) + length (remaining log) ≤ length log.entries
  pub outlined : length (outline log.entries) + length (remaining log) ≤ length log.entries
  pub shallow : (step : Step) → In step (remaining log) → IsShallow step

-- an entry that adds nothing to the outline
same_outline : (log : Log) (e : Entry) → is_settlement e ≡ false → defines (e ∷ []) ≡ [] → length (outline (appended log e).entries) ≡ length (outline log.entries)
same_outline log e other none = ap length (outline_same log.entries e other none)

one_more : (log : Log) (e : Entry) → length (appended log e).entries ≡ length log.entries + 1
one_more log e = length-append log.entries (e ∷ [])

module _ (log : Log) (p : IsCounted log) where
  counted_taken : (e : Entry) (step : Step) → remaining (appended log e) ≡ remaining log ++ step ∷ [] → settled (appended log e) ≡ settled log → is_settlement e ≡ false → defines (e ∷ []) ≡ [] → IsShallow step → is_full_for_step log ≡ false → IsCounted (appended log e)
  counted_taken e step is before other none low room =
      let r = room_for_step log room in
      let few = r.0 in
      let many = r.1 in
      let l : length (remaining (appended log e)) ≡ length (remaining log) + 1 = ap length is ∙ length-append (remaining log) (step ∷ []) in
      let d = same_outline log e other none in
      let n = one_more log e in
      let was = p.outlined in
      let b = ap length before in
      let own = p.stepped in
      record {
        some = omega (arith, few, l);
        all = omega (arith, many, l, n);
        stepped = omega (arith, own, b, l, n);
        outlined = omega (arith, was, d, l, n);
        shallow = λ x i. elim (In-split x (remaining log) (step ∷ []) (subst (In x) is i)) [ inl j ↦ p.shallow x j | inr j ↦ elim j [ inl f ↦ subst IsShallow (sym f) low | inr z ↦ absurd z ] ];
      }

  counted_less : (e : Entry) → settled (appended log e) ≡ settled log → is_settlement e ≡ false → defines (e ∷ []) ≡ [] → length (remaining (appended log e)) + 1 ≤ length (remaining log) → ((x : Step) → In x (remaining (appended log e)) → In x (remaining log)) → IsCounted (appended log e)
  counted_less e before other none less inside =
      let d = same_outline log e other none in
      let n = one_more log e in
      let some = p.some in
      let all = p.all in
      let was = p.outlined in
      let b = ap length before in
      let own = p.stepped in
      record { some = omega (arith, some, less); all = omega (arith, all, less, n); stepped = omega (arith, own, b, less, n); outlined = omega (arith, was, d, less, n); shallow = λ x i. p.shallow x (inside x i) }

-- the names of some steps that are left out are among the names
names_inside : (s : Setting) (xs ts : List TakenStep) (x : Step) → In x (names_of (steps s) (without (steps s) xs ts)) → In x (names_of (steps s) ts)
names_inside s xs ts x i = (In-filter _ (names_of (steps s) ts) x (subst (In x) (names-without (steps s) xs ts) i)).0

counted_next : (log : Log) (e : Entry) → IsLegal log → IsCounted log → IsAccepted log e → IsCounted (appended log e)
counted_next log (Define name machine) legal p a =
    let r = room_for_define log a.1 in
    let e = steps_next log (Define name machine) in
    let l = ap length e in
    let n = one_more log (Define name machine) in
    let d = ap length (outline_more log.entries (Define name machine) refl) in
    let m = length-append (outline log.entries) (Define name machine ∷ []) in
    let some = p.some in
    let was = p.outlined in
    let own = p.stepped in
    let b = ap length (settled_next log (Define name machine)) in
    record { some = omega (arith, l, some); all = omega (arith, l, n, r); stepped = omega (arith, l, n, b, own); outlined = omega (arith, l, n, d, m, was); shallow = λ x i. p.shallow x (subst (In x) e i) }
counted_next log (Start exec machine input) legal p a =
    counted_taken log p (Start exec machine input) (started exec.exec machine input) (steps_next log (Start exec machine input)) (settled_next log (Start exec machine input)) refl refl a.2
    (start_room log (setting_of log) (world_of log) (past_of log) (legal_stands log legal) exec machine (start_name exec.exec) a.0)
counted_next log (Stepped name kind) legal p a =
    counted_taken log p (Stepped name kind) (moved name) (steps_next log (Stepped name kind)) (settled_next log (Stepped name kind)) refl refl tt
    (step_room log (setting_of log) (world_of log) (past_of log) (legal_stands log legal) name.thread (record { name = name; kind = kind }) a)
counted_next log (Undo name) legal p a =
    let s = setting_of log in
    let h = legal_stands log legal in
    let k = (undo_said log s (world_of log) (past_of log) h name name a).0 in
    let now = names_there (appended log (Undo name)) s _ _ (stands_undone log s (world_of log) (past_of log) name k.step h k.free k.named) in
    let less = steps_undone log name name legal a in
    counted_less log p (Undo name) (settled_next log (Undo name)) refl refl (omega (arith, less)) (λ x i. subst (In x) (names_there log s (world_of log) (past_of log) h) (names_inside s (k.step ∷ []) (past_of log) x (subst (In x) (sym now) i)))
counted_next log (Rollback name undone) legal p a =
    let s = setting_of log in
    let h = legal_stands log legal in
    let k = plan_said log s (world_of log) (past_of log) h name undone a in
    let now = names_there (appended log (Rollback name undone)) s _ _ (stands_rolled log s (world_of log) (past_of log) name undone k.step h k.stood k.named) in
    let less = steps_rolled log name undone legal a in
    let fewer = less.0 in
    let some = less.1 in
    counted_less log p (Rollback name undone) (settled_next log (Rollback name undone)) refl refl (omega (arith, fewer, some))
    (λ x i. subst (In x) (names_there log s (world_of log) (past_of log) h) (names_inside s (consequences (steps s) (past_of log) k.step.step) (past_of log) x (subst (In x) (sym now) i)))
counted_next log Settle legal p a =
    let room = room_for_define log (settle_room log a) in
    let e = steps_next log Settle in
    let l = ap length e in
    let n = one_more log Settle in
    let o = ap length (outline_settled log.entries) in
    let own = p.stepped in
    let b = ap length (settled_next log Settle) in
    let m = length-append (settled log) (remaining log) in
    record { some = omega (arith, l); all = omega (arith, l, n, room); stepped = omega (arith, l, n, b, m, own); outlined = omega (arith, l, n, o); shallow = λ x i. absurd (subst (In x) e i) }
counted_next log (Hold name count) legal p a =
    let e = Hold name count in
    let room = room_for_define log (hold_said log name count a).2 in
    let same = steps_next log e in
    let l = ap length same in
    let n = one_more log e in
    let d = same_outline log e refl refl in
    let some = p.some in
    let was = p.outlined in
    let own = p.stepped in
    let b = ap length (settled_next log e) in
    record { some = omega (arith, l, some); all = omega (arith, l, n, room); stepped = omega (arith, l, n, b, own); outlined = omega (arith, n, d, l, was); shallow = λ x i. p.shallow x (subst (In x) same i) }

first_counted : (begin : Begin) → IsLegal (of_log begin []) → IsCounted (of_log begin [])
unfolding remainder
first_counted begin legal = record { some = omega arith; all = omega arith; stepped = omega arith; outlined = omega arith; shallow = λ x i. absurd i }

pub legal_counts : (log : Log) → IsLegal log → IsCounted log
legal_counts log legal = of_legal IsCounted first_counted counted_next log legal

pub legal_logs_have_room : LegalLogsHaveRoom
legal_logs_have_room log legal = let c = legal_counts log legal in (c.some, c.all)
