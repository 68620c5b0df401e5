-- The first step that is left on which a later one depends directly, found in the classes where they meet.
use Rattle.std.proofs.Common.{◌≡◌, ◌==◌, ◌<◌, ◌≤◌, ◌+◌, arith, ℕ, Bool, true, false, cond, List, ◌∷◌, length, take, Option, None, Some, refl, ap, ap₂, sym, ◌∙◌, inl, inr, ◌⊎◌}
use Rattle.std.specs.Prelude.{◌||◌, IfSome, nat_lt, not, option_map, slice_get}
use Rattle.std.proofs.Math.Seq.{take-append_seam, take-length}
use Rattle.std.proofs.lemmas.Bool.{and_parts, cases_lt}
use Rattle.std.proofs.lemmas.List.{length-append}
use Rattle.std.proofs.lemmas.Option.{IfSome_then}
use Rattle.item_store.specs.Condition.{is_text}
use Rattle.item_store.specs.Table.{is_same_key}
use Rattle.item_store.proofs.Slots.{same_key}
use Rattle.linked_classes.specs.Cells.{cell_at}
use Rattle.step_names.specs.Thread.{Thread, execution}
use Rattle.step_names.specs.Under.{is_under}
use Rattle.step_names.proofs.UnderLaws.{under_Decides}
use Rattle.saved_steps.specs.Steps.{closes, is_close, is_fork, is_write, makes}
use Rattle.saved_steps.specs.World.{is_same_thread}
use Rattle.saved_steps.specs.declared.fact.Access.{Access}
use Rattle.saved_steps.specs.declared.fact.Fact.{Fact}
use Rattle.saved_steps.specs.declared.fact.Kind.{Kind}
use Rattle.saved_steps.specs.declared.fact.Kind.TheVariants.{Start, Plain, Call, Fork, Join, Terminate}
use Rattle.saved_steps.specs.declared.record.StepRecord.{StepRecord}
use Rattle.depends.specs.Dependence.{awaits, begins, conflicts, is_start}
use Rattle.depends.proofs.Threads.{either}
use Rattle.step_index.specs.Buckets.{thread_at_depth, by_home, by_exec, by_key, by_write, written_bucket, is_gate, exec_bucket, key_bucket, thread_bucket}
use Rattle.step_index.specs.Held.{AreLeft, Held, IsLeftAt, LeftFor, classes_left}
use Rattle.step_index.specs.Walks.{IsFirstFrom, earlier, names_need, needed_by}
use Rattle.step_index.proofs.Firsts.{first_more, first_of_two}
use Rattle.step_index.proofs.Left.{class_where_left, left_where_class}
use Rattle.step_index.proofs.Meeting.{awaits_alike, begins_alike, by_name_or_item, closes_alike, meet_in_exec, meet_in_key, thread_alike}

-- where the later one reads, the earlier one wrote
pub written_before : (a b : Fact) (x : Access) → b.access ≡ Some x → is_write x.mode ≡ false → conflicts a.access b.access ≡ true → by_write a ≡ Some (key_bucket x.key)
written_before a b x has reads h = met a.access (sym (ap (conflicts a.access) has) ∙ h)
  where
    first_part : (u v : Bool) → v ≡ false → (u || v) ≡ true → u ≡ true
    first_part true v k l = refl
    first_part false v k l = absurd (let e : false ≡ true = sym k ∙ l in cc)

    met : (y : Option Access) → conflicts y (Some x) ≡ true → written_bucket y ≡ Some (key_bucket x.key)
    met None k = cc
    met (Some y) k =
        let p = and_parts (is_same_key y.key x.key) (is_write y.mode || is_write x.mode) k in
        let w : is_write y.mode ≡ true = first_part (is_write y.mode) (is_write x.mode) reads p.1 in
        rw w (ap (λ q. Some (key_bucket q)) (same_key y.key x.key p.0))

pub no_access : (o : Option Access) → conflicts o None ≡ false
no_access None = refl
no_access (Some x) = refl

-- ---- by the threads above

not_both : (x y : Bool) → (x || not y) ≡ false → (x ≡ false) × (y ≡ true)
not_both true y h = absurd (let e : true ≡ false = h in cc)
not_both false true h = (refl, refl)
not_both false false h = absurd (let e : true ≡ false = h in cc)

no_start : (k : Kind) → is_fork k ≡ true → is_start k ≡ false
no_start Fork h = refl
no_start Start h = absurd (let e : false ≡ true = h in cc)
no_start Plain h = refl
no_start Call h = refl
no_start Join h = refl
no_start Terminate h = refl

-- a step that is no gate depends by its name on one at home in its thread or in one above it
pub meet_above : (a b : Fact) → names_need a b ≡ true → is_gate b ≡ false → (depth : ℕ) × (depth ≤ length b.name.thread.path) × (by_home a ≡ Some (thread_bucket (thread_at_depth b.name.thread depth)))
meet_above a b h free =
    elim (either (is_same_thread a.name.thread b.name.thread) (begins a b.name.thread || (makes a b.name.thread || (closes b a.name.thread || awaits b a.name.thread))) h) [
      | inl x ↦ own (thread_alike a b x) (is_start a.kind) refl
      | inr x ↦ elim (either (begins a b.name.thread) (makes a b.name.thread || (closes b a.name.thread || awaits b a.name.thread)) x) [
        | inl y ↦ at_start (and_parts (is_start a.kind) (is_text a.name.thread.exec b.name.thread.exec) y).0 (begins_alike a b y)
        | inr y ↦ elim (either (makes a b.name.thread) (closes b a.name.thread || awaits b a.name.thread) y) [
          | inl z ↦ at_fork (and_parts (is_fork a.kind) (is_under b.name.thread a.name.thread a.name.no) z)
          | inr z ↦ elim (either (closes b a.name.thread) (awaits b a.name.thread) z) [
            | inl w ↦ absurd (let e : false ≡ true = sym (not_both (is_close b.kind) (b.bound == 0) free).0 ∙ (closes_alike a b w).0 in cc)
            | inr w ↦ absurd (let e : false ≡ true = sym (awaits_alike a b w).0 ∙ (not_both (is_close b.kind) (b.bound == 0) free).1 in cc)
          ]
        ]
      ]
    ]
  where
    homely : (s : Bool) (t : Thread) → is_start a.kind ≡ s → cond s (execution a.name.thread.exec) a.name.thread ≡ t → by_home a ≡ Some (thread_bucket t)
    homely s t e k = ap (λ (x : Bool). Some (thread_bucket (cond x (execution a.name.thread.exec) a.name.thread))) e ∙ ap (λ (x : Thread). Some (thread_bucket x)) k

    at_start : is_start a.kind ≡ true → a.name.thread.exec ≡ b.name.thread.exec → (depth : ℕ) × (depth ≤ length b.name.thread.path) × (by_home a ≡ Some (thread_bucket (thread_at_depth b.name.thread depth)))
    at_start e k = (0, omega arith, homely true (thread_at_depth b.name.thread 0) e (ap execution k))

    own : a.name.thread ≡ b.name.thread → (s : Bool) → is_start a.kind ≡ s → (depth : ℕ) × (depth ≤ length b.name.thread.path) × (by_home a ≡ Some (thread_bucket (thread_at_depth b.name.thread depth)))
    own k true e = at_start e (ap (λ (t : Thread). t.exec) k)
    own k false e = (
      length b.name.thread.path,
      omega arith,
      homely false (thread_at_depth b.name.thread (length b.name.thread.path)) e (k ∙ ap (λ (path : List (ℕ × ℕ)). let t : Thread = record { exec = b.name.thread.exec; path = path } in t) (sym (take-length b.name.thread.path))),
    )

    at_fork : (is_fork a.kind ≡ true) × (is_under b.name.thread a.name.thread a.name.no ≡ true) → (depth : ℕ) × (depth ≤ length b.name.thread.path) × (by_home a ≡ Some (thread_bucket (thread_at_depth b.name.thread depth)))
    at_fork f =
        let u = (under_Decides b.name.thread a.name.thread a.name.no).0 f.1 in
        let rest = (a.name.no, u.1.0) ∷ u.1.1 in
        let path = u.1.2 in
        let long : length b.name.thread.path ≡ length a.name.thread.path + length rest = ap length path ∙ length-append a.name.thread.path rest in
        let front : take (length a.name.thread.path) b.name.thread.path ≡ a.name.thread.path = ap (take (length a.name.thread.path)) path ∙ take-append_seam a.name.thread.path rest in (
          length a.name.thread.path,
          omega (arith, long),
          homely false (thread_at_depth b.name.thread (length a.name.thread.path)) (no_start a.kind f.0)
              (ap₂ (λ (exec : List ℕ) (path : List (ℕ × ℕ)). let t : Thread = record { exec = exec; path = path } in t) (sym u.0) (sym front)),
        )

-- the places of a class
abbrev pub Among : List (Option ℕ) → ℕ → ℕ → Type 0
Among classes c k = cell_at classes k ≡ Some c

abbrev pub ByName : Fact → List StepRecord → Held → ℕ → Type 0
ByName later = LeftFor (λ f. names_need f later)

abbrev pub ByAccess : Fact → List StepRecord → Held → ℕ → Type 0
ByAccess later = LeftFor (λ f. conflicts f.access later.access)

-- the places of the classes of the threads above that of a step, and of its own, up to a depth
abbrev pub Along : Held → Fact → ℕ → ℕ → Type 0
Along h later end k = (depth : ℕ) × (depth < end) × (cell_at h.threads k ≡ Some (thread_bucket (thread_at_depth later.name.thread depth)))

pub none_along : (rs : List StepRecord) (h : Held) (later : Fact) → IsFirstFrom (Along h later 0) (needed_by later) rs 0 None
none_along rs h later = λ k g there low n. absurd (let x = n.1 in omega (arith, x))

pub more_along : (rs : List StepRecord) (h : Held) (later : Fact) (depth c : ℕ) (a b : Option ℕ) → c ≡ thread_bucket (thread_at_depth later.name.thread depth)
    → IsFirstFrom (Along h later depth) (needed_by later) rs 0 a → IsFirstFrom (Among h.threads c) (needed_by later) rs 0 b → IsFirstFrom (Along h later (depth + 1)) (needed_by later) rs 0 (earlier a b)
more_along rs h later depth c a b e before here =
    first_more (λ k. Along h later depth k ⊎ Among h.threads c k) (Along h later (depth + 1)) (needed_by later) rs 0 (earlier a b)
    (λ k g there need n. elim (cases_lt n.0 depth) [
      | inl w ↦ inl (n.0, w, n.2)
      | inr w ↦
          let same : n.0 ≡ depth = (let x = n.1 in omega (arith, w, x)) in
          inr (n.2 ∙ ap (λ (d : ℕ). Some (thread_bucket (thread_at_depth later.name.thread d))) same ∙ ap Some (sym e))
    ])
    (first_of_two (Along h later depth) (Among h.threads c) (needed_by later) rs 0 a b before here)

module _ (rs : List StepRecord) (h : Held) (l : AreLeft rs h) where
  class_left : (by : Fact → Option ℕ) (classes : List (Option ℕ)) → classes ≡ classes_left by h.marks rs → (k : ℕ) (g : StepRecord) → IsLeftAt h k → slice_get rs k ≡ Some g → cell_at classes k ≡ by g.fact
  class_left by classes e k g left is = ap (λ cs. cell_at cs k) e ∙ class_where_left by h.marks rs k g left is

  pub is_left : (by : Fact → Option ℕ) (classes : List (Option ℕ)) → classes ≡ classes_left by h.marks rs → (c : ℕ) (r : Option ℕ) → IfSome r (Among classes c) → IfSome r (IsLeftAt h)
  is_left by classes e c r there = IfSome_then r there (λ k is. left_where_class by h.marks rs k c (sym (ap (λ cs. cell_at cs k) e) ∙ is))

  module _ (later : Fact) where
    pub first_by_name : (c : ℕ) (r : Option ℕ) → c ≡ exec_bucket later.name.thread.exec → IsFirstFrom (Among h.execs c) (needed_by later) rs 0 r → IsFirstFrom (ByName later rs h) (needed_by later) rs 0 r
    first_by_name c r e =
        first_more (Among h.execs c) (ByName later rs h) (needed_by later) rs 0 r
        (λ k g there need n. class_left by_exec h.execs l.run k n.1.0 n.0 n.1.1 ∙ sym (meet_in_exec n.1.0.fact later n.1.2) ∙ ap Some (sym e))

    -- the places of the classes of threads above, up to a depth
    pub first_above : (r : Option ℕ) → is_gate later ≡ false → IsFirstFrom (Along h later (length later.name.thread.path + 1)) (needed_by later) rs 0 r → IsFirstFrom (ByName later rs h) (needed_by later) rs 0 r
    first_above r free =
        first_more (Along h later (length later.name.thread.path + 1)) (ByName later rs h) (needed_by later) rs 0 r
        (λ k g there need n.
        let m = meet_above n.1.0.fact later n.1.2 free in
        (m.0, (let low = m.1 in omega (arith, low)), class_left by_home h.threads l.homed k n.1.0 n.0 n.1.1 ∙ m.2))

    pub first_of_key : (x : Access) (c : ℕ) (r : Option ℕ) → later.access ≡ Some x → c ≡ key_bucket x.key → IsFirstFrom (Among h.keys c) (needed_by later) rs 0 r → IsFirstFrom (ByAccess later rs h) (needed_by later) rs 0 r
    first_of_key x c r has e =
        first_more (Among h.keys c) (ByAccess later rs h) (needed_by later) rs 0 r
        (λ k g there need n.
        let m = meet_in_key n.1.0.fact later n.1.2 in
        class_left by_key h.keys l.keyed k n.1.0 n.0 n.1.1 ∙ m.1 ∙ sym m.2 ∙ ap (option_map (λ (a : Access). key_bucket a.key)) has ∙ ap Some (sym e))

    pub first_of_writes : (x : Access) (c : ℕ) (r : Option ℕ) → later.access ≡ Some x → is_write x.mode ≡ false → c ≡ key_bucket x.key → IsFirstFrom (Among h.writes c) (needed_by later) rs 0 r → IsFirstFrom (ByAccess later rs h) (needed_by later) rs 0 r
    first_of_writes x c r has reads e =
        first_more (Among h.writes c) (ByAccess later rs h) (needed_by later) rs 0 r
        (λ k g there need n. class_left by_write h.writes l.wrote k n.1.0 n.0 n.1.1 ∙ written_before n.1.0.fact later x has reads n.1.2 ∙ ap Some (sym e))

    pub first_of_none : later.access ≡ None → IsFirstFrom (ByAccess later rs h) (needed_by later) rs 0 None
    first_of_none none = λ k g there low n. absurd (let x : false ≡ true = sym (no_access n.1.0.fact.access) ∙ ap (conflicts n.1.0.fact.access) (sym none) ∙ n.1.2 in cc)

    pub first_of_both : (a b : Option ℕ) → IsFirstFrom (ByName later rs h) (needed_by later) rs 0 a → IsFirstFrom (ByAccess later rs h) (needed_by later) rs 0 b → IsFirstFrom (IsLeftAt h) (needed_by later) rs 0 (earlier a b)
    first_of_both a b named accessing =
        first_more (λ k. ByName later rs h k ⊎ ByAccess later rs h k) (IsLeftAt h) (needed_by later) rs 0 (earlier a b)
        (λ k g there need left. elim (by_name_or_item g.fact later need) [ inl x ↦ inl (left, (g, there, x)) | inr x ↦ inr (left, (g, there, x)) ])
        (first_of_two (ByName later rs h) (ByAccess later rs h) (needed_by later) rs 0 a b named accessing)

pub earlier_is : (P : ℕ → Type 0) (a b : Option ℕ) → IfSome a P → IfSome b P → IfSome (earlier a b) P
earlier_is P None b x y = y
earlier_is P (Some i) None x y = x
earlier_is P (Some i) (Some j) x y = by (nat_lt i j)
  where
    by : (t : Bool) → IfSome (cond t (Some i) (Some j)) P
    by true = x
    by false = y
