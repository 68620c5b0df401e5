-- Seats, one by one.
use Rattle.std.proofs.Common.{◌≡◌, ℕ, ◌+◌, ◌<◌, ◌≤◌, List, [], ◌∷◌, ◌++◌, length, map, refl, ap, ◌∙◌, subst, arith}
use Rattle.std.specs.Prelude.{slice_index_or, slice_set}
use Rattle.shared_book.specs.Views.{PassView, first_half, second_half}
use Rattle.slip_queue.specs.declared.giver.Giver.{Giver}
use Rattle.slip_queue.specs.declared.slips.Slips.{Slips}
use Rattle.step_workers.specs.Seats.{AllSeated, AllServed, AllWell, HasServed, IsSeated, IsWell, count_served, pass_of, pass_served, share_of}
use Rattle.step_workers.specs.Shares.{shares_of}
use Rattle.step_workers.specs.Rooms.{IsTray}
use Rattle.step_workers.specs.Work.{AllGoOn, BoxedTicket, EachAtMost, EachGoesOn, PassGoesOn, KeepsGiver, with_giver}
use Rattle.step_workers.specs.declared.gathering.Tray.{Tray}
use Rattle.step_workers.specs.declared.seat.Seat.{Seat}
use Rattle.step_workers.specs.declared.seat.Served.{Served}

module _ {L : Type 0} where
  pub seated_last : (q : Slips BoxedTicket) (ss : List (Seat L)) (s : Seat L) → AllSeated q (ss ++ s ∷ []) → AllSeated q ss × IsSeated q s
  seated_last q [] s a = (tt, a.0)
  seated_last q (r ∷ ss) s a = let h = seated_last q ss s a.1 in ((a.0, h.0), h.1)

  pub seated_more : (q : Slips BoxedTicket) (ss : List (Seat L)) (s : Seat L) → AllSeated q ss → IsSeated q s → AllSeated q (ss ++ s ∷ [])
  seated_more q [] s a b = (b, tt)
  seated_more q (r ∷ ss) s a b = (a.0, seated_more q ss s a.1 b)

  pub served_more : (q : Slips BoxedTicket) (ss : List (Seat L)) (ds : List (Served L)) (s : Seat L) (d : Served L) → AllServed q ss ds → HasServed q s d → AllServed q (ss ++ s ∷ []) (ds ++ d ∷ [])
  served_more q [] [] s d a b = (b, tt)
  served_more q [] (e ∷ ds) s d a b = absurd a
  served_more q (r ∷ ss) [] s d a b = absurd a
  served_more q (r ∷ ss) (e ∷ ds) s d a b = (a.0, served_more q ss ds s d a.1 b)

  pub well_last : (q : Slips BoxedTicket) (ds : List (Served L)) (d : Served L) → AllWell q (ds ++ d ∷ []) → AllWell q ds × IsWell q d
  well_last q [] d a = (tt, a.0)
  well_last q (e ∷ ds) d a = let h = well_last q ds d a.1 in ((a.0, h.0), h.1)

  pub passes_more : (ss : List (Seat L)) (s : Seat L) → map pass_of (ss ++ s ∷ []) ≡ map pass_of ss ++ s.pass ∷ []
  passes_more [] s = refl
  passes_more (r ∷ ss) s = ap (λ (t : List PassView). r.pass ∷ t) (passes_more ss s)

  pub served_passes_more : (ds : List (Served L)) (d : Served L) → map pass_served (ds ++ d ∷ []) ≡ map pass_served ds ++ d.pass ∷ []
  served_passes_more [] d = refl
  served_passes_more (e ∷ ds) d = ap (λ (t : List PassView). e.pass ∷ t) (served_passes_more ds d)

  pub seated_front : (q : Slips BoxedTicket) (ss ts : List (Seat L)) (s : Seat L) → ss ≡ ts ++ s ∷ [] → AllSeated q ss → AllSeated q ts
  seated_front q ss ts s is all = (seated_last q ts s (subst (AllSeated q) is all)).0

  pub seated_back : (q : Slips BoxedTicket) (ss ts : List (Seat L)) (s : Seat L) → ss ≡ ts ++ s ∷ [] → AllSeated q ss → IsSeated q s
  seated_back q ss ts s is all = (seated_last q ts s (subst (AllSeated q) is all)).1

  pub served_back : (q : Slips BoxedTicket) (ss ts : List (Seat L)) (es ds : List (Served L)) (s : Seat L) (d : Served L) → ss ≡ ts ++ s ∷ [] → es ≡ ds ++ d ∷ [] → AllServed q ts ds → HasServed q s d → AllServed q ss es
  served_back q ss ts es ds s d seats served all one = rw seats (rw served (served_more q ts ds s d all one))

  pub well_front : (q : Slips BoxedTicket) (es ds : List (Served L)) (d : Served L) → es ≡ ds ++ d ∷ [] → AllWell q es → AllWell q ds
  well_front q es ds d is all = (well_last q ds d (subst (AllWell q) is all)).0

  pub tray_less : (n m : ℕ) (t : Tray L) → m + 1 ≡ n → IsTray n t → IsTray m t
  tray_less n m t less tray = record {
    passes = (tray.passes.0, let r = tray.passes.1 in omega (arith, r, less));
    stopped = (tray.stopped.0, let r = tray.stopped.1 in omega (arith, r, less));
    taken = (tray.taken.0, let r = tray.taken.1 in omega (arith, r, less));
  }

  pub all_well : (q : Slips BoxedTicket) (ss : List (Seat L)) (ds : List (Served L)) → AllServed q ss ds → AllWell q ds
  all_well q [] [] a = tt
  all_well q [] (d ∷ ds) a = absurd a
  all_well q (s ∷ ss) [] a = absurd a
  all_well q (s ∷ ss) (d ∷ ds) a = (a.0.well, all_well q ss ds a.1)

  pub each_goes_on : (q : Slips BoxedTicket) (ss : List (Seat L)) (ds : List (Served L)) (had has : PassView) → PassGoesOn 0 had has → AllServed q ss ds
      → EachGoesOn (map share_of ss ++ 0 ∷ []) (map pass_of ss ++ had ∷ []) (map pass_served ds ++ has ∷ [])
  each_goes_on q [] [] had has none a = (none, tt)
  each_goes_on q [] (d ∷ ds) had has none a = absurd a
  each_goes_on q (s ∷ ss) [] had has none a = absurd a
  each_goes_on q (s ∷ ss) (d ∷ ds) had has none a = (a.0.goes, each_goes_on q ss ds had has none a.1)

  -- the seats and the one who hands out tickets have the passes of the round, and their shares
  pub round_goes_on : (budget : ℕ) (q : Slips BoxedTicket) (ss : List (Seat L)) (ds : List (Served L)) (ps xs : List PassView) (had has : PassView) → AllServed q ss ds → PassGoesOn 0 had has
      → map share_of ss ≡ shares_of budget (length ps) → map pass_of ss ≡ xs → xs ++ had ∷ [] ≡ with_giver ps → AllGoOn budget ps (map pass_served ds ++ has ∷ [])
  round_goes_on budget q ss ds ps xs had has served none shares seats giver =
      let qs = map pass_served ds ++ has ∷ [] in
      subst (λ (ns : List ℕ). EachGoesOn (ns ++ 0 ∷ []) (with_giver ps) qs) shares
      (subst (λ (zs : List PassView). EachGoesOn (map share_of ss ++ 0 ∷ []) zs qs) (ap (λ (zs : List PassView). zs ++ had ∷ []) seats ∙ giver) (each_goes_on q ss ds had has none served))

  pub each_took : (q : Slips BoxedTicket) (ss : List (Seat L)) (ds : List (Served L)) → AllServed q ss ds → EachAtMost (map count_served ds) (map share_of ss)
  each_took q [] [] a = tt
  each_took q [] (d ∷ ds) a = absurd a
  each_took q (s ∷ ss) [] a = absurd a
  each_took q (s ∷ ss) (d ∷ ds) a = (a.0.few, each_took q ss ds a.1)

-- at most so many slips more
pub keeps_within : (n m : ℕ) (q : Slips BoxedTicket) (had now has : Giver BoxedTicket) → now ≡ had → n ≤ m → KeepsGiver n q now has → KeepsGiver m q had has
keeps_within n m q had now has same less keeps =
    subst (λ (was : Giver BoxedTicket). KeepsGiver m q was has) same (record { parts = keeps.parts; taken = keeps.taken; few = let few = keeps.few in omega (arith, few, less); giver = keeps.giver })

-- the first pass gave half of its parts
pub giver_seated : (ps : List PassView) (was first half : PassView) → 0 < length ps → was ≡ slice_index_or ps 0 was → first ≡ first_half was → half ≡ second_half was
    → slice_set ps 0 first ++ half ∷ [] ≡ with_giver ps
giver_seated [] was first half some there one other = absurd (omega (arith, some))
giver_seated (p ∷ ps) was first half some there one other =
    let f : first ≡ first_half p = one ∙ ap (λ (r : PassView). first_half r) there in
    let h : half ≡ second_half p = other ∙ ap (λ (r : PassView). second_half r) there in
    rw (f, h) refl
