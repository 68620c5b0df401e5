-- What is counted over allowances, seats and the numbers of tickets.
use Rattle.std.proofs.Common.{◌≡◌, ℕ, zero, suc, ◌+◌, ◌*◌, ◌/◌, ◌%◌, ◌<◌, ◌≤◌, List, [], ◌∷◌, ◌++◌, map, refl, ap, subst, sym, ◌∙◌, arith}
use Rattle.std.specs.Prelude.{if◌then◌else◌, nat_lt}
use Rattle.std.specs.declared.vec.Vec.{Vec}
use Rattle.std.proofs.Math.Nat.{div-add-mod, mod-lt}
use Rattle.std.proofs.lemmas.Bool.Decides.{nat_tests}
use Rattle.slip_queue.specs.Slips.{is_given, times}
use Rattle.slip_queue.proofs.Keeps.{times_more}
use Rattle.step_workers.specs.Seats.{AllRoomy, IsRoomy, share_in, share_of, seat_shares}
use Rattle.step_workers.specs.Shares.{first_shares, share_at, shares_of}
use Rattle.step_workers.specs.Work.{AreWrittenTaken, all_taken}
use Rattle.step_workers.specs.declared.allowance.Allowance.{Allowance}
use Rattle.step_workers.specs.declared.seat.Seat.{Seat}

-- ---- shares

pub one_more : (budget seats place share : ℕ) → place < budget % seats → share ≡ budget / seats + 1 → share ≡ share_at budget seats place
one_more budget seats place share low is = grind (arith, nat_tests, low, is)

pub no_more : (budget seats place share : ℕ) → budget % seats ≤ place → share ≡ budget / seats → share ≡ share_at budget seats place
no_more budget seats place share high is = grind (arith, nat_tests, high, is)

share_next : (budget seats n : ℕ) → first_shares budget seats (n + 1) ≡ first_shares budget seats n ++ share_at budget seats n ∷ []
share_next budget seats n = let next : n + 1 ≡ suc n = omega arith in rw next refl

in_more : (as_ : List Allowance) (a : Allowance) → map share_in (as_ ++ a ∷ []) ≡ map share_in as_ ++ a.share ∷ []
in_more [] a = refl
in_more (b ∷ as_) a = ap (λ (ns : List ℕ). b.share ∷ ns) (in_more as_ a)

pub allowance_more : (budget seats n : ℕ) (as_ bs : List Allowance) (a : Allowance) → bs ≡ as_ ++ a ∷ [] → map share_in as_ ≡ first_shares budget seats n → a.share ≡ share_at budget seats n
    → map share_in bs ≡ first_shares budget seats (n + 1)
allowance_more budget seats n as_ bs a is had share =
    ap (map share_in) is ∙ in_more as_ a ∙ ap (λ (ns : List ℕ). ns ++ a.share ∷ []) had ∙ ap (λ (k : ℕ). first_shares budget seats n ++ k ∷ []) share ∙ sym (share_next budget seats n)

of_more : {L : Type 0} (ss : List (Seat L)) (s : Seat L) → map share_of (ss ++ s ∷ []) ≡ map share_of ss ++ s.share ∷ []
of_more [] s = refl
of_more (r ∷ ss) s = ap (λ (ns : List ℕ). r.share ∷ ns) (of_more ss s)

-- one seat more, with one allowance more
pub shares_last : {L : Type 0} (ss ts : List (Seat L)) (s : Seat L) (as_ bs : List Allowance) (a : Allowance) → ss ≡ ts ++ s ∷ [] → as_ ≡ bs ++ a ∷ [] → map share_of ts ≡ map share_in bs
    → s.share ≡ a.share → map share_of ss ≡ map share_in as_
shares_last ss ts s as_ bs a seats allowances rest one =
    ap (map share_of) seats ∙ of_more ts s ∙ ap (λ (ns : List ℕ). ns ++ s.share ∷ []) rest ∙ ap (λ (k : ℕ). map share_in bs ++ k ∷ []) one ∙ sym (in_more bs a) ∙ sym (ap (map share_in) allowances)

-- ---- all shares together

abbrev pub sum_of : List ℕ → ℕ
sum_of [] = 0
sum_of (n ∷ ns) = n + sum_of ns

pub sum_more : (ns : List ℕ) (n : ℕ) → sum_of (ns ++ n ∷ []) ≡ sum_of ns + n
sum_more [] n = omega arith
sum_more (m ∷ ns) n = let h = sum_more ns n in omega (arith, h)

share_is : (budget seats n : ℕ) → share_at budget seats n ≡ budget / seats + (if nat_lt n (budget % seats) then 1 else 0)
share_is budget seats n = grind (arith, nat_tests)

-- how many of the first n seats have one more
abbrev with_more : ℕ → ℕ → ℕ
with_more n over = if nat_lt n over then n else over

with_more_next : (n over : ℕ) → with_more (suc n) over ≡ with_more n over + (if nat_lt n over then 1 else 0)
with_more_next n over = grind (arith, nat_tests)

sum_first : (budget seats n : ℕ) → sum_of (first_shares budget seats n) ≡ n * (budget / seats) + with_more n (budget % seats)
sum_first budget seats zero = grind (arith, nat_tests)
sum_first budget seats (suc n) =
    let h = sum_first budget seats n in
    let more = sum_more (first_shares budget seats n) (share_at budget seats n) in
    let is = share_is budget seats n in
    let next = with_more_next n (budget % seats) in
    omega (arith, h, more, is, next)

with_more_all : (n over : ℕ) → over < n → with_more n over ≡ over
with_more_all n over less = grind (arith, nat_tests, less)

pub sum_shares : (budget seats : ℕ) → 0 < seats → sum_of (shares_of budget seats) ≡ budget
sum_shares budget seats some =
    let first = sum_first budget seats seats in
    let all = with_more_all seats (budget % seats) (mod-lt budget some) in
    let whole = div-add-mod budget seats in
    omega (arith, first, all, whole)

shares_sum : {L : Type 0} (ss : List (Seat L)) → seat_shares ss ≡ sum_of (map share_of ss)
shares_sum [] = refl
shares_sum (s ∷ ss) = ap (λ (n : ℕ). s.share + n) (shares_sum ss)

pub seats_share : {L : Type 0} (budget seats : ℕ) (ss : List (Seat L)) → 0 < seats → map share_of ss ≡ shares_of budget seats → seat_shares ss ≡ budget
seats_share budget seats ss some is = shares_sum ss ∙ ap sum_of is ∙ sum_shares budget seats some

-- ---- memory

pub roomy_more : (as_ : List Allowance) (a : Allowance) → AllRoomy as_ → IsRoomy a → AllRoomy (as_ ++ a ∷ [])
roomy_more [] a all one = (one, tt)
roomy_more (b ∷ as_) a all one = (all.0, roomy_more as_ a all.1 one)

roomy_last : (as_ : List Allowance) (a : Allowance) → AllRoomy (as_ ++ a ∷ []) → AllRoomy as_ × IsRoomy a
roomy_last [] a all = (tt, all.0)
roomy_last (b ∷ as_) a all = let h = roomy_last as_ a all.1 in ((all.0, h.0), h.1)

pub roomy_front : (as_ bs : List Allowance) (a : Allowance) → as_ ≡ bs ++ a ∷ [] → AllRoomy as_ → AllRoomy bs
roomy_front as_ bs a is all = (roomy_last bs a (subst AllRoomy is all)).0

pub roomy_back : (as_ bs : List Allowance) (a : Allowance) → as_ ≡ bs ++ a ∷ [] → AllRoomy as_ → IsRoomy a
roomy_back as_ bs a is all = (roomy_last bs a (subst AllRoomy is all)).1

pub shares_more : {L : Type 0} (ss : List (Seat L)) (s : Seat L) → seat_shares (ss ++ s ∷ []) ≡ seat_shares ss + s.share
shares_more [] s = omega arith
shares_more (r ∷ ss) s = let h = shares_more ss s in omega (arith, h)

pub shares_with : {L : Type 0} (ss ts : List (Seat L)) (s : Seat L) → ts ≡ ss ++ s ∷ [] → seat_shares ts ≡ seat_shares ss + s.share
shares_with ss ts s is = ap seat_shares is ∙ shares_more ss s

-- ---- numbers of tickets

given_more : (x n m : ℕ) → n ≤ m → is_given x n ≤ is_given x m
given_more x n m less = grind (arith, nat_tests, less)

pub given_within : (x k n m : ℕ) → k ≤ is_given x n → n ≤ m → k ≤ is_given x m
given_within x k n m given less = let more = given_more x n m less in omega (arith, given, more)

pub taken_more : {A : Type 0} (x : ℕ) (vs : List (Vec ℕ A)) (v : Vec ℕ A) → times x (all_taken (vs ++ v ∷ [])) ≡ times x (all_taken vs) + times x v.items
taken_more x [] v = let e = times_more x v.items [] in omega (arith, e)
taken_more x (u ∷ vs) v =
    let h = taken_more x vs v in
    let e = times_more x u.items (all_taken (vs ++ v ∷ [])) in
    let f = times_more x u.items (all_taken vs) in
    omega (arith, h, e, f)

-- one number more, written down and taken
pub written_more : (n : ℕ) (written taken : List ℕ) → AreWrittenTaken written taken → AreWrittenTaken (written ++ n ∷ []) (taken ++ n ∷ [])
written_more n written taken all x =
    let h = all x in
    let e = times_more x written (n ∷ []) in
    let f = times_more x taken (n ∷ []) in
    omega (arith, h, e, f)

-- one number more that was taken
pub taken_besides : (n : ℕ) (written taken : List ℕ) → AreWrittenTaken written taken → AreWrittenTaken written (taken ++ n ∷ [])
taken_besides n written taken all x =
    let h = all x in
    let f = times_more x taken (n ∷ []) in
    omega (arith, h, f)

-- one seat more
pub written_all : {A : Type 0} (vs : List (Vec ℕ A)) (v : Vec ℕ A) (known by : List ℕ) → AreWrittenTaken (all_taken vs) known → AreWrittenTaken v.items by → AreWrittenTaken (all_taken (vs ++ v ∷ [])) (known ++ by)
written_all vs v known by all one x =
    let h = all x in
    let k = one x in
    let e = taken_more x vs v in
    let f = times_more x known by in
    omega (arith, h, k, e, f)
