-- How receipts go on, call by call.
use Rattle.std.proofs.Common.{◌≡◌, ℕ, ◌+◌, ◌≤◌, List, [], ◌∷◌, ◌++◌, length, refl, ap, ◌∙◌, arith}
use Rattle.step_names.specs.Thread.{Thread}
use Rattle.book_log.specs.Log.{Log}
use Rattle.book_log.specs.declared.entry.Entry.{Entry}
use Rattle.book_log.specs.declared.entry.Entry.TheVariants.{Define, Start, Step as Stepped, Undo, Rollback, Settle, Hold}
use Rattle.shared_book.specs.Calls.{GivesReceipt, IsStepOf, Sees}
use Rattle.shared_book.specs.Views.{PassView}
use Rattle.shared_book.specs.declared.receipt.Receipt.{Receipt}
use Rattle.step_workers.specs.Work.{AllSteps, PassGoesOn, IsStepEntry}

is_step : (t : Thread) (e : Entry) → IsStepOf t e → IsStepEntry e
is_step t (Stepped name kind) s = tt
is_step t (Define _ _) s = s
is_step t (Start _ _ _) s = s
is_step t (Undo _) s = s
is_step t (Rollback _ _) s = s
is_step t Settle s = s
is_step t (Hold _ _) s = s

-- a receipt's number is past all that was seen before it
pub seen_more : (begun : Log) (had has : PassView) (r : Receipt) → GivesReceipt begun had has r → had.seen ≤ has.seen
seen_more begun had has r given =
    let seen = ap (λ (p : PassView). p.seen) given.now in
    let number = given.number in
    let long = given.known.long in
    omega (arith, seen, number, long)

pub append_none : (xs : List Receipt) → xs ≡ xs ++ []
append_none [] = refl
append_none (x ∷ xs) = ap (λ (t : List Receipt). x ∷ t) (append_none xs)

pub append_twice : (xs ys zs : List Receipt) → (xs ++ ys) ++ zs ≡ xs ++ (ys ++ zs)
append_twice [] ys zs = refl
append_twice (x ∷ xs) ys zs = ap (λ (t : List Receipt). x ∷ t) (append_twice xs ys zs)

pub length_both : (xs ys : List Receipt) → length (xs ++ ys) ≡ length xs + length ys
length_both [] ys = omega arith
length_both (x ∷ xs) ys = let h = length_both xs ys in omega (arith, h)

steps_both : (xs ys : List Receipt) → AllSteps xs → AllSteps ys → AllSteps (xs ++ ys)
steps_both [] ys a b = b
steps_both (x ∷ xs) ys a b = (a.0, steps_both xs ys a.1 b)

pub goes_none : (n : ℕ) (p : PassView) → PassGoesOn n p p
goes_none n p = record { more = []; receipts = append_none p.receipts; few = omega arith; steps = tt; parts = refl; seen = omega arith }

pub goes_one : (t : Thread) (begun : Log) (had has : PassView) (r : Receipt) → GivesReceipt begun had has r → IsStepOf t r.entry → PassGoesOn 1 had has
goes_one t begun had has r given step = record {
  more = r ∷ [];
  receipts = ap (λ (p : PassView). p.receipts) given.now;
  few = omega arith;
  steps = (is_step t r.entry step, tt);
  parts = ap (λ (p : PassView). p.parts) given.now;
  seen = seen_more begun had has r given;
}

-- a pass that was shown the log
pub goes_shown : (begun : Log) (had has : PassView) (at : Log) → Sees begun had has at → PassGoesOn 0 had has
goes_shown begun had has at sees = record {
  more = [];
  receipts = ap (λ (p : PassView). p.receipts) sees.now ∙ append_none had.receipts;
  few = omega arith;
  steps = tt;
  parts = ap (λ (p : PassView). p.parts) sees.now;
  seen = let seen = ap (λ (p : PassView). p.seen) sees.now in let long = sees.may.known.long in omega (arith, seen, long);
}

pub goes_more : (n m : ℕ) (a b c : PassView) → PassGoesOn n a b → PassGoesOn m b c → PassGoesOn (n + m) a c
goes_more n m a b c first then = record {
  more = first.more ++ then.more;
  receipts = then.receipts ∙ ap (λ (t : List Receipt). t ++ then.more) first.receipts ∙ append_twice a.receipts first.more then.more;
  few = let l = length_both first.more then.more in let f = first.few in let g = then.few in omega (arith, l, f, g);
  steps = steps_both first.more then.more first.steps then.steps;
  parts = then.parts ∙ first.parts;
  seen = let f = first.seen in let g = then.seen in omega (arith, f, g);
}

pub goes_within : (n m : ℕ) (a b : PassView) → n ≤ m → PassGoesOn n a b → PassGoesOn m a b
goes_within n m a b less goes = record {
  more = goes.more;
  receipts = goes.receipts;
  few = let f = goes.few in omega (arith, less, f);
  steps = goes.steps;
  parts = goes.parts;
  seen = goes.seen;
}

pub goes_same : (n : ℕ) (had has : PassView) → has ≡ had → PassGoesOn n had has
goes_same n had has same = rw same (goes_none n had)
