-- Steps of which the later depends directly on the earlier meet in a class.
use Rattle.std.proofs.Common.{◌≡◌, ◌==◌, ℕ, Bool, true, false, List, [], ◌∷◌, Option, None, Some, refl, ap, ap₂, sym, ◌∙◌, inl, inr, ◌⊎◌}
use Rattle.std.specs.Prelude.{◌||◌, not}
use Rattle.std.specs.Str.{bytes_eq}
use Rattle.std.proofs.lemmas.Bool.{and_parts, eqb-true}
use Rattle.std.proofs.lemmas.Slice.Eq.{bytes_eq-Decides}
use Rattle.item_store.specs.Condition.{is_text}
use Rattle.item_store.specs.Table.{is_same_key}
use Rattle.item_store.proofs.Slots.{same_key}
use Rattle.step_names.specs.Thread.{Thread}
use Rattle.step_names.specs.declared.step.StepName.{StepName}
use Rattle.step_names.specs.Under.{is_under}
use Rattle.step_names.proofs.OrderLaws.{thread_same}
use Rattle.step_names.proofs.UnderLaws.{under_Decides}
use Rattle.saved_steps.specs.Steps.{is_fork, is_close, makes, closes, is_write}
use Rattle.saved_steps.specs.World.{is_same_step, is_same_thread}
use Rattle.saved_steps.specs.declared.fact.Access.{Access}
use Rattle.saved_steps.specs.declared.fact.Fact.{Fact}
use Rattle.depends.specs.Dependence.{begins, is_start, conflicts, awaits, depends_directly}
use Rattle.depends.proofs.Threads.{either}
use Rattle.step_index.specs.Buckets.{by_thread, by_exec, by_gate, by_key, by_write, written_bucket, is_gate, exec_bucket, thread_bucket, key_bucket, name_bucket}
use Rattle.step_index.specs.Walks.{names_need}

text_same : (s t : List ℕ) → is_text s t ≡ true → s ≡ t
text_same [] [] h = refl
text_same [] (y ∷ t) h = cc
text_same (x ∷ s) [] h = cc
text_same (x ∷ s) (y ∷ t) h =
    let b = and_parts (x == y) (is_text s t) h in
    ap₂ (λ (z : ℕ) (zs : List ℕ). z ∷ zs) (eqb-true x y b.0) (text_same s t b.1)

-- two steps of one name are in one class of names
pub name_alike : (a b : StepName) → is_same_step a b ≡ true → name_bucket a ≡ name_bucket b
name_alike a b h =
    let k = and_parts (is_same_thread a.thread b.thread) (a.no == b.no) h in
    ap₂ (λ (t : Thread) (n : ℕ). let x : StepName = record { thread = t; no = n } in name_bucket x) (thread_same a.thread b.thread k.0) (eqb-true a.no b.no k.1)

-- ---- the reasons one by one

pub thread_alike : (a b : Fact) → is_same_thread a.name.thread b.name.thread ≡ true → a.name.thread ≡ b.name.thread
thread_alike a b h = thread_same a.name.thread b.name.thread h

pub begins_alike : (a b : Fact) → begins a b.name.thread ≡ true → a.name.thread.exec ≡ b.name.thread.exec
begins_alike a b h = text_same a.name.thread.exec b.name.thread.exec (and_parts (is_start a.kind) (is_text a.name.thread.exec b.name.thread.exec) h).1

makes_alike : (a b : Fact) → makes a b.name.thread ≡ true → a.name.thread.exec ≡ b.name.thread.exec
makes_alike a b h =
    let u = and_parts (is_fork a.kind) (is_under b.name.thread a.name.thread a.name.no) h in
    sym ((under_Decides b.name.thread a.name.thread a.name.no).0 u.1).0

pub closes_alike : (a b : Fact) → closes b a.name.thread ≡ true → (is_close b.kind ≡ true) × (a.name.thread.exec ≡ b.name.thread.exec)
closes_alike a b h =
    let u = and_parts (is_close b.kind) (is_under a.name.thread b.name.thread _) h in
    (u.0, ((under_Decides a.name.thread b.name.thread _).0 u.1).0)

pub awaits_alike : (a b : Fact) → awaits b a.name.thread ≡ true → ((b.bound == 0) ≡ false) × (a.name.thread.exec ≡ b.name.thread.exec)
awaits_alike a b h = bounded (b.bound == 0) refl
  where
    along : (e : Bool) → bytes_eq b.name.thread.exec a.name.thread.exec ≡ e → (b.bound == 0) ≡ false → b.name.thread.exec ≡ a.name.thread.exec
    along true e k = (bytes_eq-Decides b.name.thread.exec a.name.thread.exec).0 e
    along false e k = absurd (let x : awaits b a.name.thread ≡ false = rw (k, e) refl in let y : false ≡ true = sym x ∙ h in cc)

    bounded : (z : Bool) → (b.bound == 0) ≡ z → ((b.bound == 0) ≡ false) × (a.name.thread.exec ≡ b.name.thread.exec)
    bounded true k = absurd (let x : awaits b a.name.thread ≡ false = rw k refl in let y : false ≡ true = sym x ∙ h in cc)
    bounded false k = (k, sym (along (bytes_eq b.name.thread.exec a.name.thread.exec) refl k))

-- ---- by their names

-- one that depends for another reason than an item
pub by_name_or_item : (a b : Fact) → depends_directly a b ≡ true → (names_need a b ≡ true) ⊎ (conflicts a.access b.access ≡ true)
by_name_or_item a b h = sorted (is_same_thread a.name.thread b.name.thread) (begins a b.name.thread) (makes a b.name.thread) (closes b a.name.thread) (conflicts a.access b.access) (awaits b a.name.thread) h
  where
    sorted : (u v w x y z : Bool) → (u || (v || (w || (x || (y || z))))) ≡ true → ((u || (v || (w || (x || z)))) ≡ true) ⊎ (y ≡ true)
    sorted true v w x y z h = inl refl
    sorted false true w x y z h = inl refl
    sorted false false true x y z h = inl refl
    sorted false false false true y z h = inl refl
    sorted false false false false true z h = inr refl
    sorted false false false false false z h = inl h

module _ (a b : Fact) (h : names_need a b ≡ true) where
  exec_alike : a.name.thread.exec ≡ b.name.thread.exec
  exec_alike =
      elim (either (is_same_thread a.name.thread b.name.thread) (begins a b.name.thread || (makes a b.name.thread || (closes b a.name.thread || awaits b a.name.thread))) h) [
        | inl x ↦ ap (λ (t : Thread). t.exec) (thread_alike a b x)
        | inr x ↦ elim (either (begins a b.name.thread) (makes a b.name.thread || (closes b a.name.thread || awaits b a.name.thread)) x) [
          | inl y ↦ begins_alike a b y
          | inr y ↦ elim (either (makes a b.name.thread) (closes b a.name.thread || awaits b a.name.thread) y) [
            | inl z ↦ makes_alike a b z
            | inr z ↦ elim (either (closes b a.name.thread) (awaits b a.name.thread) z) [ inl w ↦ (closes_alike a b w).1 | inr w ↦ (awaits_alike a b w).1 ]
          ]
        ]
      ]

  pub meet_in_exec : by_exec b ≡ Some (exec_bucket a.name.thread.exec)
  meet_in_exec = ap (λ e. Some (exec_bucket e)) (sym exec_alike)

  gate_by : (b.bound == 0) ≡ false → is_gate b ≡ true
  gate_by k = gate (is_close b.kind) (b.bound == 0) k
    where
      gate : (x y : Bool) → y ≡ false → (x || not y) ≡ true
      gate true y k = refl
      gate false true k = cc
      gate false false k = refl

  gate_closes : is_close b.kind ≡ true → is_gate b ≡ true
  gate_closes k = ap (λ x. x || not (b.bound == 0)) k

  gate_is : is_gate b ≡ true → by_gate b ≡ Some (exec_bucket a.name.thread.exec)
  gate_is k = rw k meet_in_exec

  -- where the earlier one makes no threads, in its thread or at a gate
  pub meet_in_thread_or_gate : (is_start a.kind || is_fork a.kind) ≡ false → (by_thread b ≡ Some (thread_bucket a.name.thread)) ⊎ (by_gate b ≡ Some (exec_bucket a.name.thread.exec))
  meet_in_thread_or_gate none =
      elim (either (is_same_thread a.name.thread b.name.thread) (begins a b.name.thread || (makes a b.name.thread || (closes b a.name.thread || awaits b a.name.thread))) h) [
        | inl x ↦ inl (ap (λ t. Some (thread_bucket t)) (sym (thread_alike a b x)))
        | inr x ↦ elim (either (begins a b.name.thread) (makes a b.name.thread || (closes b a.name.thread || awaits b a.name.thread)) x) [
          | inl y ↦ absurd (no_start (is_start a.kind) (is_fork a.kind) none (and_parts (is_start a.kind) _ y).0)
          | inr y ↦ elim (either (makes a b.name.thread) (closes b a.name.thread || awaits b a.name.thread) y) [
            | inl z ↦ absurd (no_fork (is_start a.kind) (is_fork a.kind) none (and_parts (is_fork a.kind) _ z).0)
            | inr z ↦ elim (either (closes b a.name.thread) (awaits b a.name.thread) z) [ inl w ↦ inr (gate_is (gate_closes (closes_alike a b w).0)) | inr w ↦ inr (gate_is (gate_by (awaits_alike a b w).0)) ]
          ]
        ]
      ]
    where
      no_start : (x y : Bool) → (x || y) ≡ false → x ≡ true → ⊥
      no_start true y k l = cc
      no_start false y k l = cc

      no_fork : (x y : Bool) → (x || y) ≡ false → y ≡ true → ⊥
      no_fork true y k l = cc
      no_fork false true k l = cc
      no_fork false false k l = cc

-- ---- by an item

pub meet_in_key : (a b : Fact) → conflicts a.access b.access ≡ true → (c : ℕ) × (by_key a ≡ Some c) × (by_key b ≡ Some c)
meet_in_key a b h = met a.access b.access h
  where
    met : (x y : Option Access) → conflicts x y ≡ true → (c : ℕ) × (by_key (record { name = a.name; kind = a.kind; access = x; bound = a.bound }) ≡ Some c) × (by_key (record { name = b.name; kind = b.kind; access = y; bound = b.bound }) ≡ Some c)
    met None y h = cc
    met (Some x) None h = cc
    met (Some x) (Some y) h =
        let k = and_parts (is_same_key x.key y.key) (is_write x.mode || is_write y.mode) h in
        (key_bucket x.key, refl, ap (λ q. Some (key_bucket q)) (sym (same_key x.key y.key k.0)))

-- of a read by one that wrote
pub meet_in_write : (a b : Fact) (x : Access) → a.access ≡ Some x → is_write x.mode ≡ false → conflicts a.access b.access ≡ true → by_write b ≡ Some (key_bucket x.key)
meet_in_write a b x has reads h = met b.access (sym (ap (λ o. conflicts o b.access) has) ∙ h)
  where
    met : (y : Option Access) → conflicts (Some x) y ≡ true → written_bucket y ≡ Some (key_bucket x.key)
    met None k = cc
    met (Some y) k =
        let p = and_parts (is_same_key x.key y.key) (is_write x.mode || is_write y.mode) k in
        let w : is_write y.mode ≡ true = sym (ap (λ b. b || is_write y.mode) reads) ∙ p.1 in
        rw w (ap (λ q. Some (key_bucket q)) (sym (same_key x.key y.key p.0)))
