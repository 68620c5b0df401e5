-- What the marks tell of a later step.
use Rattle.std.proofs.Common.{◌≡◌, ◌≤◌, ◌-◌, ◌==◌, ℕ, Bool, true, false, cond, if◌then◌else◌, bytes_eq, List, [], ◌∷◌, Option, None, Some, is_some, length, refl, ap, ap₂, sym, ◌∙◌}
use Rattle.std.specs.Prelude.{◌||◌, ◌&&◌, slice_get}
use Rattle.std.specs.BTreeMap.{get}
use Rattle.std.specs.BTreeSet.{contains}
use Rattle.std.specs.List.{list_any}
use Rattle.std.specs.Ordering.{eq_by_cmp}
use Rattle.std.proofs.lemmas.Option.{same_Some}
use Rattle.item_store.specs.Table.{is_same_key}
use Rattle.item_store.specs.declared.access.AccessMode.TheVariants.{Read, Write}
use Rattle.std.specs.HashSet.{contains as has_key}
use Rattle.step_names.specs.Order.{step_cmp}
use Rattle.step_names.specs.Thread.{Thread}
use Rattle.step_names.specs.Under.{is_under}
use Rattle.step_names.specs.declared.step.StepName.{StepName}
use Rattle.saved_steps.specs.Steps.{closes, is_close, is_fork, is_write, makes, is_of_key, is_write_of}
use Rattle.saved_steps.specs.declared.fact.Access.{Access}
use Rattle.saved_steps.specs.declared.fact.Fact.{Fact}
use Rattle.depends.specs.Dependence.{awaited, awaits, begins, conflicts, depends_directly}
use Rattle.depends.specs.Above.{fork_above, forks_above, forks_from, passes}
use Rattle.depends.specs.Kinds.{AreForks, AreKeyMarks, AreUnder, is_fork_named, is_of_thread, lies_by, fact_touches, fact_writes}
use Rattle.depends.specs.declared.above.Above.{Above}
use Rattle.depends.specs.declared.forks.ForkMarks.{ForkMarks}
use Rattle.depends.specs.declared.keys.KeyMarks.{KeyMarks}
use Rattle.depends.specs.declared.under.UnderMarks.{UnderMarks}
use Rattle.depends.proofs.Anyone.{any_never, any_or, any_same, any_swap, or_first, or_second, or_third}
use Rattle.depends.proofs.Awaiting.{Ended, awaits_is, before, before_down, ended, own_fork}
use Rattle.depends.proofs.Rising.{is_above, lies_under}

-- ---- forks

made : (t : Thread) (g : Fact) → list_any (λ (x : Above). is_fork_named x.fork g) (forks_above t) ≡ makes g t
made t g = by (is_fork g.kind) refl
  where
    by : (b : Bool) → is_fork g.kind ≡ b → list_any (λ (x : Above). is_fork g.kind && eq_by_cmp step_cmp g.name x.fork) (forks_above t) ≡ (is_fork g.kind && is_under t g.name.thread g.name.no)
    by true e = rw e (is_above t g.name)
    by false e = rw e (any_never (λ (x : Above). false) (forks_above t) (λ x. refl))

pub made_above : (facts : List Fact) (m : ForkMarks) (t : Thread) → AreForks facts m → list_any (λ (x : Above). contains step_cmp m.names x.fork) (forks_above t) ≡ list_any (λ g. makes g t) facts
made_above facts m t are =
    any_same (λ (x : Above). contains step_cmp m.names x.fork) (λ x. list_any (is_fork_named x.fork) facts) (forks_above t) (λ x. are x.fork)
    ∙ any_swap (λ (x : Above) (g : Fact). is_fork_named x.fork g) (forks_above t) facts
    ∙ any_same (λ g. list_any (λ (x : Above). is_fork_named x.fork g) (forks_above t)) (λ g. makes g t) facts (made t)

-- ---- the forks above steps

pub closes_none : (facts : List Fact) (f : Fact) → is_close f.kind ≡ false → false ≡ list_any (λ g. closes f g.name.thread) facts
closes_none facts f e = sym (any_never (λ g. closes f g.name.thread) facts (λ g. ap (λ b. b && is_under g.name.thread f.name.thread (f.name.no - 1)) e))

there : (o : Option ℕ) → is_some o ≡ passes (λ i. true) o
there None = refl
there (Some i) = refl

pub closed : (facts : List Fact) (m : UnderMarks) (f : Fact) (s : StepName) → is_close f.kind ≡ true → s.thread ≡ f.name.thread → s.no ≡ f.name.no - 1 → AreUnder facts m
    → is_some (get step_cmp m.least s) ≡ list_any (λ g. closes f g.name.thread) facts
closed facts m f s e thread number are =
    there (get step_cmp m.least s)
    ∙ are s (λ i. true) (λ i j l h. refl)
    ∙ any_same (lies_by s (λ i. true)) (λ g. closes f g.name.thread) facts
    (λ g. lies_under g.name.thread s ∙ ap₂ (is_under g.name.thread) thread number ∙ ap (λ b. b && is_under g.name.thread f.name.thread (f.name.no - 1)) (sym e))

pub awaits_never : (facts : List Fact) (f : Fact) → f.bound ≡ 0 → false ≡ list_any (λ g. awaits f g.name.thread) facts
awaits_never facts f e = sym (any_never (λ g. awaits f g.name.thread) facts (λ g. rw e refl))

none_in : (a b : Bool) → is_some (let o : Option (List (ℕ × ℕ)) = cond a None (cond b None None) in o) ≡ false
none_in true b = refl
none_in false true = refl
none_in false false = refl

-- a step of an execution's own thread waited for none
pub awaits_no_branch : (facts : List Fact) (f : Fact) → slice_get (forks_above f.name.thread) (length (forks_above f.name.thread) - 1) ≡ None → false ≡ list_any (λ g. awaits f g.name.thread) facts
awaits_no_branch facts f none = by f.name.thread.path refl
  where
    by : (path : List (ℕ × ℕ)) → f.name.thread.path ≡ path → false ≡ list_any (λ g. awaits f g.name.thread) facts
    by [] e = sym (any_never (λ g. awaits f g.name.thread) facts (λ g. never f.bound f.name.thread.exec f.name.thread.path e g.name.thread))
      where
        never : (bound : ℕ) (exec : List ℕ) (path : List (ℕ × ℕ)) → path ≡ [] → (t : Thread) → is_some (if bound == 0 then None else (if bytes_eq exec t.exec then awaited bound path t.path else None)) ≡ false
        never bound exec path k t = rw k (none_in (bound == 0) (bytes_eq exec t.exec))
    by (b ∷ path) e =
        let end = ended b path in
        let got = own_fork f.name.thread.exec f.name.thread.path (record { front = end.front; last = end.last; whole = e ∙ end.whole }) in
        absurd (let x : None ≡ Some _ = sym none ∙ got in cc)

pub awaited_before : (facts : List Fact) (m : UnderMarks) (f : Fact) (own : Above) → 1 ≤ f.bound → slice_get (forks_above f.name.thread) (length (forks_above f.name.thread) - 1) ≡ Some own → AreUnder facts m
    → passes (before f.bound own.branch) (get step_cmp m.least own.fork) ≡ list_any (λ g. awaits f g.name.thread) facts
awaited_before facts m f own some is are = by f.name.thread.path refl
  where
    by : (path : List (ℕ × ℕ)) → f.name.thread.path ≡ path → passes (before f.bound own.branch) (get step_cmp m.least own.fork) ≡ list_any (λ g. awaits f g.name.thread) facts
    by [] e = absurd (let x : None ≡ Some own = sym (ap (λ path. slice_get (forks_from f.name.thread.exec [] path) (length (forks_from f.name.thread.exec [] path) - 1)) e) ∙ is in cc)
    by (b ∷ path) e =
        let end = ended b path in
        let here : Ended f.name.thread.path = record { front = end.front; last = end.last; whole = e ∙ end.whole } in
        let same = same_Some own (fork_above f.name.thread.exec here.front here.last) (sym is ∙ own_fork f.name.thread.exec f.name.thread.path here) in
        ap (λ (x : Above). passes (before f.bound x.branch) (get step_cmp m.least x.fork)) same
        ∙ are (fork_above f.name.thread.exec here.front here.last).fork (before f.bound here.last.1) (before_down f.bound here.last.1)
        ∙ any_same (lies_by (fork_above f.name.thread.exec here.front here.last).fork (before f.bound here.last.1)) (λ g. awaits f g.name.thread) facts (λ g. awaits_is f g.name.thread here some)

-- ---- items

wrote_or : (a b : Bool) → (a && (b || true)) ≡ a
wrote_or true true = refl
wrote_or true false = refl
wrote_or false b = refl

read_or : (a b : Bool) → (a && (b || false)) ≡ (b && a)
read_or true true = refl
read_or true false = refl
read_or false true = refl
read_or false false = refl

by_a_write : (o : Option Access) (a : Access) → is_write a.mode ≡ true → is_of_key o a.key ≡ conflicts o (Some a)
by_a_write None a e = refl
by_a_write (Some x) a e = rw e (sym (wrote_or (is_same_key x.key a.key) (is_write x.mode)))

by_a_read : (o : Option Access) (a : Access) → is_write a.mode ≡ false → is_write_of o a.key ≡ conflicts o (Some a)
by_a_read None a e = refl
by_a_read (Some x) a e = rw e (sym (read_or (is_same_key x.key a.key) (is_write x.mode)))

no_access : (o : Option Access) → conflicts o None ≡ false
no_access None = refl
no_access (Some x) = refl

module _ (facts : List Fact) (m : KeyMarks) (later : Option Access) where
  pub accesses_none : later ≡ None → false ≡ list_any (λ g. conflicts g.access later) facts
  accesses_none e = sym (any_never (λ g. conflicts g.access later) facts (λ g. ap (conflicts g.access) e ∙ no_access g.access))

  pub written_to : (a : Access) → later ≡ Some a → a.mode ≡ Write → AreKeyMarks facts m → has_key is_same_key m.touched a.key ≡ list_any (λ g. conflicts g.access later) facts
  written_to a e w are = are.touched a.key ∙ any_same (fact_touches a.key) (λ g. conflicts g.access later) facts (λ g. by_a_write g.access a (ap is_write w) ∙ ap (conflicts g.access) (sym e))

  pub read_from : (a : Access) → later ≡ Some a → a.mode ≡ Read → AreKeyMarks facts m → has_key is_same_key m.written a.key ≡ list_any (λ g. conflicts g.access later) facts
  read_from a e r are = are.wrote a.key ∙ any_same (fact_writes a.key) (λ g. conflicts g.access later) facts (λ g. by_a_read g.access a (ap is_write r) ∙ ap (conflicts g.access) (sym e))

-- ---- all of them

in_turn : (t s m c k w : Bool) → (t || (s || (m || (c || (k || w))))) ≡ ((k || (t || s)) || (m || (c || w)))
in_turn true s m c true w = refl
in_turn true s m c false w = refl
in_turn false true m c true w = refl
in_turn false true m c false w = refl
in_turn false false true c true w = refl
in_turn false false true c false w = refl
in_turn false false false true true w = refl
in_turn false false false true false w = refl
in_turn false false false false true w = refl
in_turn false false false false false w = refl

module _ (facts : List Fact) (f : Fact) where
  abbrev of_it : Bool
  of_it = list_any (is_of_thread f.name.thread) facts

  abbrev begin_it : Bool
  begin_it = list_any (λ g. begins g f.name.thread) facts

  abbrev make_it : Bool
  make_it = list_any (λ g. makes g f.name.thread) facts

  abbrev it_closes : Bool
  it_closes = list_any (λ g. closes f g.name.thread) facts

  abbrev conflict_with_it : Bool
  conflict_with_it = list_any (λ g. conflicts g.access f.access) facts

  abbrev it_awaits : Bool
  it_awaits = list_any (λ g. awaits f g.name.thread) facts

  abbrev told_itself : Bool
  told_itself = conflict_with_it || (of_it || begin_it)

  abbrev told_above : Bool
  told_above = make_it || (it_closes || it_awaits)

  pub by_item : conflict_with_it ≡ true → true ≡ told_itself
  by_item h = or_first conflict_with_it of_it begin_it h

  pub by_thread : of_it ≡ true → true ≡ told_itself
  by_thread h = or_second conflict_with_it of_it begin_it h

  pub or_by_start : (b : Bool) → conflict_with_it ≡ false → of_it ≡ false → b ≡ begin_it → b ≡ told_itself
  or_by_start b h k e = or_third conflict_with_it of_it begin_it b h k e

  pub by_fork : make_it ≡ true → true ≡ told_above
  by_fork h = or_first make_it it_closes it_awaits h

  pub by_close : it_closes ≡ true → true ≡ told_above
  by_close h = or_second make_it it_closes it_awaits h

  pub or_by_bound : (b : Bool) → make_it ≡ false → it_closes ≡ false → b ≡ it_awaits → b ≡ told_above
  or_by_bound b h k e = or_third make_it it_closes it_awaits b h k e

  depends_if : list_any (λ g. depends_directly g f) facts ≡ (told_itself || told_above)
  depends_if =
      any_or (is_of_thread f.name.thread) (λ g. begins g f.name.thread || (makes g f.name.thread || (closes f g.name.thread || (conflicts g.access f.access || awaits f g.name.thread)))) facts
      ∙ ap (λ b. of_it || b)
      (any_or (λ g. begins g f.name.thread) (λ g. makes g f.name.thread || (closes f g.name.thread || (conflicts g.access f.access || awaits f g.name.thread))) facts
      ∙ ap (λ b. begin_it || b)
      (any_or (λ g. makes g f.name.thread) (λ g. closes f g.name.thread || (conflicts g.access f.access || awaits f g.name.thread)) facts
      ∙ ap (λ b. make_it || b)
      (any_or (λ g. closes f g.name.thread) (λ g. conflicts g.access f.access || awaits f g.name.thread) facts ∙ ap (λ b. it_closes || b) (any_or (λ g. conflicts g.access f.access) (λ g. awaits f g.name.thread) facts))))
      ∙ in_turn of_it begin_it make_it it_closes conflict_with_it it_awaits

  pub depends_for_itself : told_itself ≡ true → true ≡ list_any (λ g. depends_directly g f) facts
  depends_for_itself h = sym (depends_if ∙ ap (λ b. b || told_above) h)

  pub depends_for_above : (b : Bool) → told_itself ≡ false → b ≡ told_above → b ≡ list_any (λ g. depends_directly g f) facts
  depends_for_above b h e = e ∙ sym (depends_if ∙ ap (λ c. c || told_above) h)
