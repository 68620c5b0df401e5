-- The entries of a round are those of its receipts.
use Rattle.std.proofs.Common.{◌≡◌, ◌+◌, ◌-◌, ◌<◌, ◌≤◌, ◌==◌, ℕ, Bool, true, false, List, [], ◌∷◌, ◌++◌, length, length-append, Option, None, Some, refl, sym, ap, subst, ◌∙◌, arith, eqb-true}
use Rattle.std.specs.Prelude.{slice_get, if◌then◌else◌}
use Rattle.std.proofs.lemmas.Bool.Decides.{nat_tests}
use Rattle.book_log.specs.Legal.{IsLegal}
use Rattle.book_log.specs.Log.{Log}
use Rattle.book_log.specs.declared.entry.Entry.{Entry}
use Rattle.shared_book.specs.Closed.{all_receipts, receipt_times, once_within, AllAreLogged, IsClosed}
use Rattle.shared_book.specs.Numbers.{entry_at}
use Rattle.shared_book.specs.Views.{PassView, second_half}
use Rattle.shared_book.specs.declared.receipt.Receipt.{Receipt}
use Rattle.step_workers.specs.Shares.{shares_of}
use Rattle.step_workers.specs.Work.{AllGoOn, AllSteps, EachGoesOn, IsStepEntry, with_giver}
use Rattle.step_workers.proofs.Sums.{sum_more, sum_of, sum_shares}
use Rattle.book_rounds.specs.Rounds.{AreFresh, IsRound, with_entries}
use Rattle.book_rounds.proofs.Logs.{goes_from, steps_behind, with_none}

-- ---- the receipts of all passes

steps_joined : (rs more : List Receipt) → AllSteps rs → AllSteps more → AllSteps (rs ++ more)
steps_joined [] more a b = b
steps_joined (r ∷ rs) more a b = (a.0, steps_joined rs more a.1 b)

each_few : (ns : List ℕ) (ps qs : List PassView) → AreFresh ps → EachGoesOn ns ps qs → AllSteps (all_receipts qs) × (length (all_receipts qs) ≤ sum_of ns)
each_few [] [] [] fresh go = (tt, omega arith)
each_few [] [] (q ∷ qs) fresh go = absurd go
each_few [] (p ∷ ps) qs fresh go = absurd go
each_few (n ∷ ns) [] qs fresh go = absurd go
each_few (n ∷ ns) (p ∷ ps) [] fresh go = absurd go
each_few (n ∷ ns) (p ∷ ps) (q ∷ qs) fresh go =
    let its = go.0 in
    let rest = each_few ns ps qs fresh.1 go.1 in
    let is : q.receipts ≡ its.more = its.receipts ∙ ap (λ (rs : List Receipt). rs ++ its.more) fresh.0 in
    subst (λ (rs : List Receipt). AllSteps (rs ++ all_receipts qs) × (length (rs ++ all_receipts qs) ≤ n + sum_of ns)) (sym is)
    (steps_joined its.more (all_receipts qs) its.steps rest.0, omega (arith, length-append its.more (all_receipts qs), its.few, rest.1))

fresh_with : (ps : List PassView) (p : PassView) → AreFresh ps → p.receipts ≡ [] → AreFresh (ps ++ p ∷ [])
fresh_with [] p fresh none = (none, tt)
fresh_with (q ∷ ps) p fresh none = (fresh.0, fresh_with ps p fresh.1 none)

giver_fresh : (ps : List PassView) → AreFresh ps → AreFresh (with_giver ps)
giver_fresh [] fresh = tt
giver_fresh (p ∷ ps) fresh = (fresh.0, fresh_with ps (second_half p) fresh.1 refl)

-- without a pass there is nobody to hand out tickets
nobody : (qs : List PassView) → EachGoesOn (0 ∷ []) [] qs → ⊥
nobody [] go = go
nobody (q ∷ qs) go = go

all_few : (moves : ℕ) (ps qs : List PassView) → AreFresh ps → AllGoOn moves ps qs → AllSteps (all_receipts qs) × (length (all_receipts qs) ≤ moves)
all_few moves [] qs fresh go = absurd (nobody qs go)
all_few moves (p ∷ ps) qs fresh go =
    let seats = length (p ∷ ps) in
    let each = each_few (shares_of moves seats ++ 0 ∷ []) (with_giver (p ∷ ps)) qs (giver_fresh (p ∷ ps) fresh) go in
    (each.0, omega (arith, each.1, sum_more (shares_of moves seats) 0, sum_shares moves seats (omega arith)))

none_fresh : (ps : List PassView) → AreFresh ps → all_receipts ps ≡ []
none_fresh [] fresh = refl
none_fresh (p ∷ ps) fresh = ap (λ (rs : List Receipt). rs ++ all_receipts ps) fresh.0 ∙ none_fresh ps fresh.1

-- ---- a receipt of a number

by_number : (entries : List Entry) (k : ℕ) (r : Receipt) (rs : List Receipt) (b : Bool) → (r.number == k) ≡ b → 0 < receipt_times k (r ∷ rs) → AllAreLogged entries (r ∷ rs) → AllSteps (r ∷ rs)
    → (0 < receipt_times k rs → (e : Entry) × (entry_at entries k ≡ Some e) × IsStepEntry e) → (e : Entry) × (entry_at entries k ≡ Some e) × IsStepEntry e
by_number entries k r rs true is some stand steps rest = (r.entry, subst (λ (n : ℕ). entry_at entries n ≡ Some r.entry) (eqb-true r.number k is) stand.0, steps.0)
by_number entries k r rs false is some stand steps rest =
    let less : receipt_times k (r ∷ rs) ≡ 0 + receipt_times k rs = rw is refl in
    rest (omega (arith, less, some))

found : (entries : List Entry) (k : ℕ) (rs : List Receipt) → 0 < receipt_times k rs → AllAreLogged entries rs → AllSteps rs → (e : Entry) × (entry_at entries k ≡ Some e) × IsStepEntry e
found entries k [] some stand steps = absurd (omega (arith, some))
found entries k (r ∷ rs) some stand steps = by_number entries k r rs (r.number == k) refl some stand steps (λ more. found entries k rs more stand.1 steps.1)

-- the entry of a number that isn't 0
placed : (entries : List Entry) (k : ℕ) → entry_at entries (k + 1) ≡ slice_get entries k
placed entries k =
    let apart : (k + 1 == 0) ≡ false = grind (arith, nat_tests) in
    let back : k + 1 - 1 ≡ k = omega arith in
    rw (apart, back) refl

-- ---- a round

module _ (begun now : Log) (rs : List Receipt) (closed : IsClosed begun now rs) where
  now_is : now ≡ with_entries begun closed.goes.more
  now_is = rw (← closed.goes.begin, ← closed.goes.entries) refl

  as_many : length closed.goes.more ≡ length rs
  as_many = omega (arith, length-append begun.entries closed.goes.more, ap (λ (entries : List Entry). length entries) closed.goes.entries, closed.as_many)

  one_there : (i : ℕ) → i < length closed.goes.more → AllSteps rs → (e : Entry) × (slice_get (begun.entries ++ closed.goes.more) (length begun.entries + i) ≡ Some e) × IsStepEntry e
  one_there i low steps =
      let k = length begun.entries + i in
      let long = as_many in
      let is : once_within (length begun.entries + 1) (length now.entries + 1) (k + 1) ≡ 1 =
      let many = closed.as_many in grind (arith, nat_tests, many, long, low) in
      let some : 0 < receipt_times (k + 1) rs = omega (arith, closed.once (k + 1), is) in
      let one = found now.entries (k + 1) rs some closed.stand steps in
      (one.0, subst (λ (entries : List Entry). slice_get entries k ≡ Some one.0) closed.goes.entries (sym (placed now.entries k) ∙ one.1), one.2)

  pub round_of : (moves : ℕ) → AllSteps rs → length rs ≤ moves → IsLegal now → IsRound moves begun now
  round_of moves steps few legal = record {
    more = closed.goes.more;
    after_is = now_is;
    steps = steps_behind begun.entries closed.goes.more (λ i low. one_there i low steps);
    few = omega (arith, as_many, few);
    legal = goes_from begun now closed.goes.more now_is legal;
  }

-- the passes went on, and the book was closed with them
pub round_closed : (moves : ℕ) (begun now : Log) (ps qs : List PassView) → AreFresh ps → AllGoOn moves ps qs → IsLegal now → IsClosed begun now (all_receipts qs) → IsRound moves begun now
round_closed moves begun now ps qs fresh go legal closed =
    let all = all_few moves ps qs fresh go in
    round_of begun now (all_receipts qs) closed moves all.0 all.1 legal

-- without receipts, the log is the same
same_more : (begun now : Log) (more : List Entry) → now ≡ with_entries begun more → length more ≡ 0 → now ≡ begun
same_more begun now [] is none = is ∙ with_none begun
same_more begun now (e ∷ more) is none = absurd (omega (arith, none))

pub same_closed : (begun now : Log) (ps : List PassView) → AreFresh ps → IsClosed begun now (all_receipts ps) → now ≡ begun
same_closed begun now ps fresh closed =
    let none = none_fresh ps fresh in
    let long = as_many begun now (all_receipts ps) closed in
    same_more begun now closed.goes.more (now_is begun now (all_receipts ps) closed) (omega (arith, long, ap (λ (rs : List Receipt). length rs) none))
