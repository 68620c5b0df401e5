-- What is marked when steps are opened, and that no step at another place is needed.
use Rattle.std.proofs.Common.{◌≡◌, ◌<◌, ◌≤◌, ◌+◌, ◌==◌, arith, ℕ, zero, suc, Bool, true, false, cond, ◌||◌, not, Result, Ok, Err, List, [], ◌∷◌, ◌++◌, map, length, drop, replicate, Option, None, Some, is_some, get_or, refl, ap, sym, subst, ◌∙◌, inl, inr, ◌⊎◌}
use Rattle.std.specs.Prelude.{OnOk, slice_get, slice_set, option_and_then}
use Rattle.std.specs.Str.{bytes_eq}
use Rattle.std.proofs.lemmas.Bool.{and_parts, cases_eq, cases_lt, eq-eqb, eqb-true}
use Rattle.std.proofs.lemmas.List.{get_or-replicate, get_or-set_other, get_or-set_same, length-replicate, length-set}
use Rattle.std.proofs.lemmas.Option.{same_Some, slice_get_past, slice_get_within, unwrap_or-slice_get}
use Rattle.std.proofs.lemmas.Slice.Eq.{bytes_eq-Decides}
use Rattle.attr_values.specs.declared.key.Key.{Key}
use Rattle.item_store.specs.Table.{is_same_key}
use Rattle.item_store.proofs.Slots.{key_laws, same_key}
use Rattle.saved_steps.specs.Steps.{closes, is_fork, is_write, makes}
use Rattle.saved_steps.specs.World.{is_same_thread}
use Rattle.saved_steps.specs.declared.fact.Access.{Access}
use Rattle.saved_steps.specs.declared.fact.Fact.{Fact}
use Rattle.saved_steps.specs.declared.record.StepRecord.{StepRecord}
use Rattle.step_names.specs.Thread.{Thread}
use Rattle.step_names.specs.Under.{is_under}
use Rattle.step_names.proofs.UnderLaws.{under_Decides}
use Rattle.depends.specs.Dependence.{awaits, begins, conflicts, depends_directly}
use Rattle.depends.specs.Reasons.{reason_between}
use Rattle.depends.specs.declared.reason.Reason.{Reason}
use Rattle.depends.proofs.Reasoned.{reasons_are_dependences}
use Rattle.depends.proofs.Threads.{either, or_left, or_right}
use Rattle.step_index.specs.Gathered.{accesses, is_access, is_of_execution, places_from, places_where}
use Rattle.step_index.specs.Walks.{names_need}
use Rattle.step_index.proofs.Meeting.{awaits_alike, begins_alike, by_name_or_item, closes_alike, thread_alike}
use Rattle.step_graph.specs.Causes.{is_in}
use Rattle.step_graph.specs.Edges.{reason_at}
use Rattle.step_graph.specs.Opened.{AreOpen, OpensExec, OpensKey, and_one, has, marked}
use Rattle.step_graph.proofs.Inverse.{in_both, in_itself, in_one, in_right}

-- ---- marks

has_is : (marks : List Bool) (q : ℕ) → has marks q ≡ get_or marks q false
has_is marks q = unwrap_or-slice_get marks q false

has_within : (marks : List Bool) (q : ℕ) → has marks q ≡ true → q < length marks
has_within marks q h = elim (cases_lt q (length marks)) [
  | inl l ↦ l
  | inr l ↦ absurd (let none : has marks q ≡ false = rw (slice_get_past marks q l) refl in let clash : false ≡ true = sym none ∙ h in cc)
]

set_here : (marks : List Bool) (p : ℕ) → p < length marks → has (slice_set marks p true) p ≡ true
set_here marks p l = has_is (slice_set marks p true) p ∙ get_or-set_same marks p true false l

set_elsewhere : (marks : List Bool) (p q : ℕ) → (q ≡ p → ⊥) → has (slice_set marks p true) q ≡ has marks q
set_elsewhere marks p q ne = has_is (slice_set marks p true) q ∙ get_or-set_other marks p q true false ne ∙ sym (has_is marks q)

set_keeps : (marks : List Bool) (p q : ℕ) → has marks q ≡ true → has (slice_set marks p true) q ≡ true
set_keeps marks p q h = elim (cases_eq q p) [
  | inl e ↦ subst (λ (k : ℕ). has (slice_set marks p true) k ≡ true) (sym e) (set_here marks p (subst (λ (k : ℕ). k < length marks) e (has_within marks q h)))
  | inr ne ↦ set_elsewhere marks p q ne ∙ h
]

set_only : (marks : List Bool) (p q : ℕ) → has (slice_set marks p true) q ≡ true → (q ≡ p) ⊎ (has marks q ≡ true)
set_only marks p q h = elim (cases_eq q p) [ inl e ↦ inl e | inr ne ↦ inr (sym (set_elsewhere marks p q ne) ∙ h) ]

marked_fits : (marks : List Bool) (places : List ℕ) → length (marked marks places) ≡ length marks
marked_fits marks [] = refl
marked_fits marks (p ∷ places) = marked_fits (slice_set marks p true) places ∙ length-set marks p true

marked_keeps : (marks : List Bool) (places : List ℕ) (q : ℕ) → has marks q ≡ true → has (marked marks places) q ≡ true
marked_keeps marks [] q h = h
marked_keeps marks (p ∷ places) q h = marked_keeps (slice_set marks p true) places q (set_keeps marks p q h)

marked_all : (marks : List Bool) (places : List ℕ) (q : ℕ) → q < length marks → is_in q places ≡ true → has (marked marks places) q ≡ true
marked_all marks [] q l h = cc
marked_all marks (p ∷ places) q l h = elim (in_both q (p ∷ []) places h) [
  | inl x ↦ marked_keeps (slice_set marks p true) places q
      (subst (λ (k : ℕ). has (slice_set marks k true) q ≡ true) (sym (in_one q p x)) (set_here marks q l))
  | inr x ↦ marked_all (slice_set marks p true) places q (subst (λ (n : ℕ). q < n) (sym (length-set marks p true)) l) x
]

marked_only : (marks : List Bool) (places : List ℕ) (q : ℕ) → has (marked marks places) q ≡ true → (has marks q ≡ true) ⊎ (is_in q places ≡ true)
marked_only marks [] q h = inl h
marked_only marks (p ∷ places) q h = elim (marked_only (slice_set marks p true) places q h) [
  | inl x ↦ elim (set_only marks p q x) [
    | inl e ↦ inr (subst (λ (k : ℕ). is_in q (k ∷ places) ≡ true) e (in_itself q places))
    | inr y ↦ inl y
  ]
  | inr x ↦ inr (in_right q (p ∷ []) places x)
]

-- one place after another
pub next_marked : (now : List Bool) (places : List ℕ) (i : ℕ) → i < length places → marked now (drop i places) ≡ marked (slice_set now (get_or places i 0) true) (drop (i + 1) places)
next_marked now [] i l = absurd (omega (arith, l))
next_marked now (p ∷ places) zero l = refl
next_marked now (p ∷ places) (suc i) l =
    next_marked now places i (omega (arith, l)) ∙ ap (λ (n : ℕ). marked (slice_set now (get_or places i 0) true) (drop n (p ∷ places))) (let e : suc (i + 1) ≡ suc i + 1 = omega arith in e)

-- ---- the places of some records

module _ (P : StepRecord → Bool) where
  grown : (b : Bool) (i q : ℕ) (rest : List ℕ) → is_in q rest ≡ true → is_in q (cond b (i ∷ rest) rest) ≡ true
  grown true i q rest h = in_right q (i ∷ []) rest h
  grown false i q rest h = h

  among : (i : ℕ) (rs : List StepRecord) (k : ℕ) (s : StepRecord) → slice_get rs k ≡ Some s → P s ≡ true → is_in (i + k) (places_from P i rs) ≡ true
  among i [] k s h t = cc
  among i (r ∷ rs) zero s h t =
      let yes : P r ≡ true = ap P (same_Some r s h) ∙ t in
      let here : i + 0 ≡ i = omega arith in
      subst (λ (q : ℕ). is_in q (places_from P i (r ∷ rs)) ≡ true) (sym here)
      (ap (λ (b : Bool). is_in i (cond b (i ∷ places_from P (i + 1) rs) (places_from P (i + 1) rs))) yes ∙ in_itself i (places_from P (i + 1) rs))
  among i (r ∷ rs) (suc k) s h t =
      let there : (i + 1) + k ≡ i + suc k = omega arith in
      subst (λ (q : ℕ). is_in q (places_from P i (r ∷ rs)) ≡ true) there (grown (P r) i ((i + 1) + k) (places_from P (i + 1) rs) (among (i + 1) rs k s h t))

  found : (i : ℕ) (rs : List StepRecord) (q : ℕ) → is_in q (places_from P i rs) ≡ true → (k : ℕ) × (r : StepRecord) × (q ≡ i + k) × (slice_get rs k ≡ Some r) × (P r ≡ true)
  found i [] q h = absurd (cc)
  found i (r ∷ rs) q h = by (P r) refl (found (i + 1) rs q)
    where
      Found : ℕ → List StepRecord → Type 0
      Found j xs = (k : ℕ) × (s : StepRecord) × (q ≡ j + k) × (slice_get xs k ≡ Some s) × (P s ≡ true)

      later : Found (i + 1) rs → Found i (r ∷ rs)
      later f = (suc f.0, f.1, (let e = f.2 in omega (arith, e)), f.3, f.4)

      by : (b : Bool) → P r ≡ b → (is_in q (places_from P (i + 1) rs) ≡ true → Found (i + 1) rs) → Found i (r ∷ rs)
      by true e rest = elim (in_both q (i ∷ []) (places_from P (i + 1) rs) (sym (ap (λ (b : Bool). is_in q (cond b (i ∷ places_from P (i + 1) rs) (places_from P (i + 1) rs))) e) ∙ h)) [
        | inl x ↦ (zero, r, (let s = in_one q i x in omega (arith, s)), refl, e)
        | inr x ↦ later (rest x)
      ]
      by false e rest = later (rest (sym (ap (λ (b : Bool). is_in q (cond b (i ∷ places_from P (i + 1) rs) (places_from P (i + 1) rs))) e) ∙ h))

  module _ (rs : List StepRecord) (old : List Bool) (fits : length old ≡ length rs) where
    abbrev new : List Bool
    new = marked old (places_where P rs)

    marks_them : (q : ℕ) (s : StepRecord) → slice_get rs q ≡ Some s → P s ≡ true → has new q ≡ true
    marks_them q s is t = marked_all old (places_where P rs) q (let l = slice_get_within rs q s is in omega (arith, l, fits))
        (subst (λ (k : ℕ). is_in k (places_where P rs) ≡ true) (let e : 0 + q ≡ q = omega arith in e) (among 0 rs q s is t))

    marks_only : (q : ℕ) (s : StepRecord) → slice_get rs q ≡ Some s → has new q ≡ true → (has old q ≡ true) ⊎ (P s ≡ true)
    marks_only q s is h = elim (marked_only old (places_where P rs) q h) [
      | inl x ↦ inl x
      | inr x ↦
          let f = found 0 rs q x in
          let e : q ≡ f.0 = (let far = f.2 in omega (arith, far)) in
          let same : f.1 ≡ s = same_Some f.1 s (sym f.3 ∙ ap (slice_get rs) (sym e) ∙ is) in
          inr (ap P (sym same) ∙ f.4)
    ]

-- ---- one more step is opened

-- there is a record at each place
there : (rs : List StepRecord) (i : ℕ) → i < length rs → (r : StepRecord) × (slice_get rs i ≡ Some r)
there [] i l = absurd (omega (arith, l))
there (r ∷ rs) zero l = (r, refl)
there (r ∷ rs) (suc i) l = there rs i (omega (arith, l))

own_exec : (e : List ℕ) → bytes_eq e e ≡ true
own_exec e = (bytes_eq-Decides e e).1 refl

same_exec : (e f : List ℕ) → bytes_eq e f ≡ true → e ≡ f
same_exec e f h = (bytes_eq-Decides e f).0 h

accessed : (key : Key) (r : StepRecord) (x : Access) → r.fact.access ≡ Some x → accesses key r ≡ is_same_key x.key key
accessed key r x h = ap (is_access key) h

module _ (rs : List StepRecord) (opened : ℕ → Bool) (execs keys execs2 keys2 : List Bool) (was : AreOpen rs opened execs keys) (place : ℕ) (record_there : place < length rs)
    (by_execs : OpensExec rs place execs execs2) (by_keys : OpensKey rs place keys keys2) where
  abbrev own : StepRecord
  own = (there rs place record_there).0

  own_is : slice_get rs place ≡ Some own
  own_is = (there rs place record_there).1

  abbrev exec : List ℕ
  exec = own.fact.name.thread.exec

  abbrev Changed : Type 0
  Changed = ((has execs place ≡ true) × (execs2 ≡ execs)) ⊎ (execs2 ≡ marked execs (places_where (is_of_execution exec) rs))

  -- of executions
  module _ (k : execs2 ≡ marked execs (places_where (is_of_execution exec) rs)) where
    more_execs : (p q : ℕ) (r s : StepRecord) → slice_get rs p ≡ Some r → slice_get rs q ≡ Some s → r.fact.name.thread.exec ≡ s.fact.name.thread.exec → has (marked execs (places_where (is_of_execution exec) rs)) p ≡ true
        → has (marked execs (places_where (is_of_execution exec) rs)) q ≡ true
    more_execs p q r s a b e h = elim (marks_only (is_of_execution exec) rs execs was.execs_fit p r a h) [
      | inl x ↦ marked_keeps execs (places_where (is_of_execution exec) rs) q (was.by_exec p q r s a b e x)
      | inr x ↦ marks_them (is_of_execution exec) rs execs was.execs_fit q s b (ap (λ (f : List ℕ). bytes_eq f exec) (sym e) ∙ x)
    ]

  execs_fit : Changed → length execs2 ≡ length rs
  execs_fit (inl same) = ap length same.1 ∙ was.execs_fit
  execs_fit (inr k) = ap length k ∙ marked_fits execs (places_where (is_of_execution exec) rs) ∙ was.execs_fit

  execs_keep : Changed → (q : ℕ) → has execs q ≡ true → has execs2 q ≡ true
  execs_keep (inl same) q h = ap (λ (m : List Bool). has m q) same.1 ∙ h
  execs_keep (inr k) q h = ap (λ (m : List Bool). has m q) k ∙ marked_keeps execs (places_where (is_of_execution exec) rs) q h

  execs_own : Changed → has execs2 place ≡ true
  execs_own (inl same) = ap (λ (m : List Bool). has m place) same.1 ∙ same.0
  execs_own (inr k) = ap (λ (m : List Bool). has m place) k ∙ marks_them (is_of_execution exec) rs execs was.execs_fit place own own_is (own_exec exec)

  execs_closed : Changed → (p q : ℕ) (r s : StepRecord) → slice_get rs p ≡ Some r → slice_get rs q ≡ Some s → r.fact.name.thread.exec ≡ s.fact.name.thread.exec → has execs2 p ≡ true → has execs2 q ≡ true
  execs_closed (inl same) p q r s a b e h = ap (λ (m : List Bool). has m q) same.1 ∙ was.by_exec p q r s a b e (sym (ap (λ (m : List Bool). has m p) same.1) ∙ h)
  execs_closed (inr k) p q r s a b e h = ap (λ (m : List Bool). has m q) k ∙ more_execs k p q r s a b e (sym (ap (λ (m : List Bool). has m p) k) ∙ h)

  -- of keys
  abbrev KeysChanged : Type 0
  KeysChanged = ((own.fact.access ≡ None) × (keys2 ≡ keys)) ⊎ ((x : Access) × (own.fact.access ≡ Some x) × (((has keys place ≡ true) × (keys2 ≡ keys)) ⊎ (keys2 ≡ marked keys (places_where (accesses x.key) rs))))

  more_keys : (key : Key) (p q : ℕ) (r s : StepRecord) (x y : Access) → slice_get rs p ≡ Some r → slice_get rs q ≡ Some s → r.fact.access ≡ Some x → s.fact.access ≡ Some y → is_same_key x.key y.key ≡ true
      → has (marked keys (places_where (accesses key) rs)) p ≡ true → has (marked keys (places_where (accesses key) rs)) q ≡ true
  more_keys key p q r s x y a b c d e h = elim (marks_only (accesses key) rs keys was.keys_fit p r a h) [
    | inl z ↦ marked_keeps keys (places_where (accesses key) rs) q (was.by_key p q r s x y a b c d e z)
    | inr z ↦ marks_them (accesses key) rs keys was.keys_fit q s b
        (accessed key s y d ∙ ap (λ (k : Key). is_same_key k key) (sym (same_key x.key y.key e)) ∙ sym (accessed key r x c) ∙ z)
  ]

  keys_fit : KeysChanged → length keys2 ≡ length rs
  keys_fit (inl none) = ap length none.1 ∙ was.keys_fit
  keys_fit (inr (x, is, inl same)) = ap length same.1 ∙ was.keys_fit
  keys_fit (inr (x, is, inr k)) = ap length k ∙ marked_fits keys (places_where (accesses x.key) rs) ∙ was.keys_fit

  keys_keep : KeysChanged → (q : ℕ) → has keys q ≡ true → has keys2 q ≡ true
  keys_keep (inl none) q h = ap (λ (m : List Bool). has m q) none.1 ∙ h
  keys_keep (inr (x, is, inl same)) q h = ap (λ (m : List Bool). has m q) same.1 ∙ h
  keys_keep (inr (x, is, inr k)) q h = ap (λ (m : List Bool). has m q) k ∙ marked_keeps keys (places_where (accesses x.key) rs) q h

  keys_own : KeysChanged → (y : Access) → own.fact.access ≡ Some y → has keys2 place ≡ true
  keys_own (inl none) y h = absurd (let clash : None ≡ Some y = sym none.0 ∙ h in cc)
  keys_own (inr (x, is, inl same)) y h = ap (λ (m : List Bool). has m place) same.1 ∙ same.0
  keys_own (inr (x, is, inr k)) y h =
      ap (λ (m : List Bool). has m place) k ∙ marks_them (accesses x.key) rs keys was.keys_fit place own own_is (accessed x.key own x is ∙ key_laws.refl x.key)

  keys_closed : KeysChanged → (p q : ℕ) (r s : StepRecord) (x y : Access) → slice_get rs p ≡ Some r → slice_get rs q ≡ Some s → r.fact.access ≡ Some x → s.fact.access ≡ Some y → is_same_key x.key y.key ≡ true
      → has keys2 p ≡ true → has keys2 q ≡ true
  keys_closed (inl none) p q r s x y a b c d e h = ap (λ (m : List Bool). has m q) none.1 ∙ was.by_key p q r s x y a b c d e (sym (ap (λ (m : List Bool). has m p) none.1) ∙ h)
  keys_closed (inr (z, is, inl same)) p q r s x y a b c d e h = ap (λ (m : List Bool). has m q) same.1 ∙ was.by_key p q r s x y a b c d e (sym (ap (λ (m : List Bool). has m p) same.1) ∙ h)
  keys_closed (inr (z, is, inr k)) p q r s x y a b c d e h = ap (λ (m : List Bool). has m q) k ∙ more_keys z.key p q r s x y a b c d e (sym (ap (λ (m : List Bool). has m p) k) ∙ h)

  pub one_opened : AreOpen rs (and_one place opened) execs2 keys2
  one_opened = record {
    execs_fit = execs_fit (by_execs own own_is);
    keys_fit = keys_fit (by_keys own own_is);
    by_exec = execs_closed (by_execs own own_is);
    by_key = keys_closed (by_keys own own_is);
    of_exec = λ m r h is. elim (either (place == m) (opened m) h) [
      | inl e ↦ subst (λ (k : ℕ). has execs2 k ≡ true) (eqb-true place m e) (execs_own (by_execs own own_is))
      | inr o ↦ execs_keep (by_execs own own_is) m (was.of_exec m r o is)
    ];
    of_key = λ m r x h is acc. elim (either (place == m) (opened m) h) [
      | inl e ↦
          let same : own ≡ r = same_Some own r (sym own_is ∙ ap (slice_get rs) (eqb-true place m e) ∙ is) in
          subst (λ (k : ℕ). has keys2 k ≡ true) (eqb-true place m e) (keys_own (by_keys own own_is) x (ap (λ (s : StepRecord). s.fact.access) same ∙ acc))
      | inr o ↦ keys_keep (by_keys own own_is) m (was.of_key m r x o is acc)
    ];
  }

-- ---- none is open at first

pub none_marked : (n q : ℕ) → has (replicate n false) q ≡ false
none_marked n q = elim (cases_lt q n) [
  | inl l ↦ has_is (replicate n false) q ∙ get_or-replicate n q false false l
  | inr l ↦ rw (slice_get_past (replicate n false) q (let e = length-replicate n false in omega (arith, e, l))) refl
]

pub none_open : (rs : List StepRecord) (n : ℕ) (execs keys : List Bool) → n ≡ length rs → execs ≡ replicate n false → keys ≡ replicate n false → AreOpen rs (λ m. false) execs keys
none_open rs n execs keys count e k = record {
  execs_fit = ap length e ∙ length-replicate n false ∙ count;
  keys_fit = ap length k ∙ length-replicate n false ∙ count;
  by_exec = λ p q r s a b c h. absurd (let clash : false ≡ true = sym (none_marked n p) ∙ sym (ap (λ (m : List Bool). has m p) e) ∙ h in cc);
  by_key = λ p q r s x y a b c d f h. absurd (let clash : false ≡ true = sym (none_marked n p) ∙ sym (ap (λ (m : List Bool). has m p) k) ∙ h in cc);
  of_exec = λ m r h is. cc;
  of_key = λ m r x h is acc. cc;
}

-- other members
pub same_opened : (rs : List StepRecord) (was now : ℕ → Bool) (execs keys : List Bool) → ((m : ℕ) → now m ≡ true → was m ≡ true) → AreOpen rs was execs keys → AreOpen rs now execs keys
same_opened rs was now execs keys fewer o = record {
  execs_fit = o.execs_fit;
  keys_fit = o.keys_fit;
  by_exec = o.by_exec;
  by_key = o.by_key;
  of_exec = λ m r h is. o.of_exec m r (fewer m h) is;
  of_key = λ m r x h is acc. o.of_key m r x (fewer m h) is acc;
}

-- ---- no step elsewhere is needed

makes_alike : (a b : Fact) → makes a b.name.thread ≡ true → a.name.thread.exec ≡ b.name.thread.exec
makes_alike a b h =
    let u = and_parts (is_fork a.kind) (is_under b.name.thread a.name.thread a.name.no) h in
    sym ((under_Decides b.name.thread a.name.thread a.name.no).0 u.1).0

exec_alike : (a b : Fact) → names_need a b ≡ true → a.name.thread.exec ≡ b.name.thread.exec
exec_alike a b h =
    elim (either (is_same_thread a.name.thread b.name.thread) (begins a b.name.thread || (makes a b.name.thread || (closes b a.name.thread || awaits b a.name.thread))) h) [
      | inl x ↦ ap (λ (t : Thread). t.exec) (thread_alike a b x)
      | inr x ↦ elim (either (begins a b.name.thread) (makes a b.name.thread || (closes b a.name.thread || awaits b a.name.thread)) x) [
        | inl y ↦ begins_alike a b y
        | inr y ↦ elim (either (makes a b.name.thread) (closes b a.name.thread || awaits b a.name.thread) y) [
          | inl z ↦ makes_alike a b z
          | inr z ↦ elim (either (closes b a.name.thread) (awaits b a.name.thread) z) [ inl w ↦ (closes_alike a b w).1 | inr w ↦ (awaits_alike a b w).1 ]
        ]
      ]
    ]

module _ (rs : List StepRecord) (opened : ℕ → Bool) (execs keys : List Bool) (are : AreOpen rs opened execs keys) (place : ℕ) (no_exec : has execs place ≡ false) (no_key : has keys place ≡ false)
    (m : ℕ) (member : opened m ≡ true) where
  by_names : (x y : StepRecord) → slice_get rs place ≡ Some x → slice_get rs m ≡ Some y → names_need x.fact y.fact ≡ true → ⊥
  by_names x y a b h =
      let there = are.by_exec m place y x b a (sym (exec_alike x.fact y.fact h)) (are.of_exec m y member b) in
      let clash : false ≡ true = sym no_exec ∙ there in cc

  by_item : (x y : StepRecord) → slice_get rs place ≡ Some x → slice_get rs m ≡ Some y → (o : Option Access) → x.fact.access ≡ o → (u : Option Access) → y.fact.access ≡ u → conflicts o u ≡ true → ⊥
  by_item x y a b None e u f h = cc
  by_item x y a b (Some o) e None f h = cc
  by_item x y a b (Some o) e (Some u) f h =
      let alike = (and_parts (is_same_key o.key u.key) (is_write o.mode || is_write u.mode) h).0 in
      let back : is_same_key u.key o.key ≡ true = ap (λ (k : Key). is_same_key k o.key) (sym (same_key o.key u.key alike)) ∙ key_laws.refl o.key in
      let there = are.by_key m place y x u o b a f e back (are.of_key m y u member b f) in
      let clash : false ≡ true = sym no_key ∙ there in cc

  pub none_elsewhere : reason_at rs place m ≡ None
  none_elsewhere = by (slice_get rs place) refl (slice_get rs m) refl
    where
      by : (x : Option StepRecord) → slice_get rs place ≡ x → (y : Option StepRecord) → slice_get rs m ≡ y → reason_at rs place m ≡ None
      by None e y k = ap (λ o. option_and_then (λ r. option_and_then (λ s. reason_between r.fact s.fact) (slice_get rs m)) o) e
      by (Some x) e None k = ap (λ o. option_and_then (λ r. option_and_then (λ s. reason_between r.fact s.fact) (slice_get rs m)) o) e ∙ ap (λ o. option_and_then (λ s. reason_between x.fact s.fact) o) k
      by (Some x) e (Some y) k =
          ap (λ o. option_and_then (λ r. option_and_then (λ s. reason_between r.fact s.fact) (slice_get rs m)) o) e ∙ ap (λ o. option_and_then (λ s. reason_between x.fact s.fact) o) k
          ∙ none (reason_between x.fact y.fact) refl
        where
          none : (r : Option Reason) → reason_between x.fact y.fact ≡ r → reason_between x.fact y.fact ≡ None
          none None same = same
          none (Some reason) same =
              let needs : depends_directly x.fact y.fact ≡ true = sym (reasons_are_dependences x.fact y.fact) ∙ ap is_some same in
              absurd (elim (by_name_or_item x.fact y.fact needs) [
                | inl h ↦ by_names x y e k h
                | inr h ↦ by_item x y e k x.fact.access refl y.fact.access refl h
              ])

-- ---- small laws

pub neither : (a b : Bool) → (a || b) ≡ false → (a ≡ false) × (b ≡ false)
neither true b h = cc
neither false b h = (refl, h)

pub if_ok : {T E : Type 0} (r : Result T E) (P Q : Type 0) → (P → Q) → OnOk r P → OnOk r Q
if_ok (Ok x) P Q f h = f h
if_ok (Err e) P Q f h = tt

-- the members after one more cause is found
pub one_more_member : (at place : ℕ) (found : List ℕ) (m : ℕ) → is_in m (at ∷ (found ++ place ∷ [])) ≡ true → and_one place (λ k. is_in k (at ∷ found)) m ≡ true
one_more_member at place found m h = elim (in_both m (at ∷ found) (place ∷ []) h) [
  | inl x ↦ or_right (place == m) (is_in m (at ∷ found)) x
  | inr x ↦ or_left (place == m) (is_in m (at ∷ found)) (eq-eqb place m (in_one m place x))
]

pub first_member : (at m : ℕ) → is_in m (at ∷ []) ≡ true → and_one at (λ k. false) m ≡ true
first_member at m h = or_left (at == m) false (eq-eqb at m (in_one m at h))
