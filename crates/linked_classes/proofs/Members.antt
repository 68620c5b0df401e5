-- What is kept of members, as members come and go.
use Rattle.std.proofs.Common.{◌≡◌, ◌≢◌, ◌<◌, ◌≤◌, arith, ℕ, zero, suc, List, [], ◌∷◌, ◌++◌, Option, None, Some, length, map, refl, ap, sym, subst, ◌∙◌, inl, inr, length-append}
use Rattle.std.specs.Prelude.{replicate, slice_index_or, slice_set, IfSome, IfNone, IsSome}
use Rattle.std.proofs.lemmas.Bool.{cases_lt}
use Rattle.std.proofs.lemmas.List.{append-nil, append_assoc, get_or-set_same, get_or-set_other, get_or_default}
use Rattle.std.proofs.Math.ListN.{get_or-append, get_or-eq_default}
use Rattle.std.proofs.Math.Path.{fun_ext}
use Rattle.std.proofs.Math.Seq.{get_or-append_seam}
use Rattle.linked_classes.specs.Cells.{cell_at}
use Rattle.linked_classes.specs.Linked.{IsNearest, IsNext, IsBefore, IsFirst, IsLast, updated, relinked, reended, AreLinked}
use Rattle.linked_classes.specs.Members.{FitsAt, StandsAt, class_in, next_in, before_in, member_classes, nexts_in, befores_in, AreMembers}
use Rattle.linked_classes.specs.declared.member.Member.{Member}
use Rattle.linked_classes.proofs.Gets.{one_or_other}
use Rattle.linked_classes.proofs.Updates.{IsOrder}
use Rattle.linked_classes.proofs.Written.{updated_through, written, emptied}
use Rattle.linked_classes.proofs.Inserted.{inserted}
use Rattle.linked_classes.proofs.Removed.{removed}

-- the classes that contracts see are those of the members
class_at : (cells : List (Option Member)) (k : ℕ) → cell_at (map class_in cells) k ≡ member_classes (cell_at cells) k
class_at [] k = refl
class_at (m ∷ ms) zero = refl
class_at (m ∷ ms) (suc k) = class_at ms k

pub classes_are : (cells : List (Option Member)) → cell_at (map class_in cells) ≡ member_classes (cell_at cells)
classes_are cells = fun_ext (class_at cells)

-- ---- what is told of members and ends

pub stands : (cell : ℕ → Option Member) (first last : List (Option ℕ)) → AreMembers cell first last → (i : ℕ) (m : Member) → cell i ≡ Some m → StandsAt (member_classes cell) i m
stands cell first last h i m is = (
  ap class_in is,
  record {
    before = subst (IsBefore (member_classes cell) m.class i) (ap before_in is) (h.linked.befores i m.class (ap class_in is));
    next = subst (IsNext (member_classes cell) m.class i) (ap next_in is) (h.linked.nexts i m.class (ap class_in is));
  },
)

-- the same of f, the classes that contracts see
module _ (cell : ℕ → Option Member) (first last : List (Option ℕ)) (h : AreMembers cell first last) (f : ℕ → Option ℕ) (seen : f ≡ member_classes cell) where
  pub told : (i : ℕ) (r : Option Member) → r ≡ cell i → IfSome r (λ m. StandsAt f i m)
  told i None is = tt
  told i (Some m) is = subst (λ g. StandsAt g i m) (sym seen) (stands cell first last h i m (sym is))

  pub known : (i : ℕ) (r : Option Member) → r ≡ cell i → IfSome r (λ m. m.class < length first)
  known i None is = tt
  known i (Some m) is = h.linked.known i m.class (ap class_in (sym is))

  pub untold : (i : ℕ) (r : Option Member) → r ≡ cell i → IfNone r (f i ≡ None)
  untold i None is = ap (λ g. g i) seen ∙ ap class_in (sym is)
  untold i (Some m) is = tt

  pub next_told : (i : ℕ) (m : Member) → cell i ≡ Some m → (c : ℕ) → f i ≡ Some c → IsNext f c i m.next
  next_told i m is c class = subst (λ g. IsNext g c i m.next) (sym seen) (subst (IsNext (member_classes cell) c i) (ap next_in is) (h.linked.nexts i c (sym (ap (λ g. g i) seen) ∙ class)))

  pub before_told : (i : ℕ) (m : Member) → cell i ≡ Some m → (c : ℕ) → f i ≡ Some c → IsBefore f c i m.before
  before_told i m is c class = subst (λ g. IsBefore g c i m.before) (sym seen) (subst (IsBefore (member_classes cell) c i) (ap before_in is) (h.linked.befores i c (sym (ap (λ g. g i) seen) ∙ class)))

  pub first_told : (c : ℕ) (end : Option ℕ) → cell_at first c ≡ end → IsFirst f c end
  first_told c end is = subst (λ g. IsFirst g c end) (sym seen) (subst (IsFirst (member_classes cell) c) is (h.linked.firsts c))

  pub last_told : (c : ℕ) (end : Option ℕ) → cell_at last c ≡ end → IsLast f c end
  last_told c end is = subst (λ g. IsLast g c end) (sym seen) (subst (IsLast (member_classes cell) c) is (h.linked.lasts c))

-- an end as it is read
pub end_read : (ends : List (Option ℕ)) (c : ℕ) (end : Option ℕ) → c < length ends → end ≡ slice_index_or ends c end → cell_at ends c ≡ end
end_read ends c end within is = get_or_default ends c None end within ∙ sym is

-- a number behind all others fits as the last of a class
pub fits_last : (cells : List (Option Member)) (first last : List (Option ℕ)) (h : AreMembers (cell_at cells) first last) (f : ℕ → Option ℕ) → f ≡ member_classes (cell_at cells)
    → (i c : ℕ) (end : Option ℕ) → length cells ≤ i → cell_at last c ≡ end → FitsAt f i (record { class = c; before = end; next = None })
fits_last cells first last h f seen i c end beyond is = record {
  before = before end (subst (IsLast (member_classes (cell_at cells)) c) is (h.linked.lasts c));
  next = λ k above class. none_from k c (omega (arith, beyond, above)) (sym (ap (λ g. g k) seen) ∙ class);
}
  where
    none_from : (k d : ℕ) → length cells ≤ k → member_classes (cell_at cells) k ≡ Some d → ⊥
    none_from k d high class = let e : None ≡ Some d = sym (ap class_in (get_or-eq_default cells None high)) ∙ class in cc

    low : (k d : ℕ) → member_classes (cell_at cells) k ≡ Some d → k < i
    low k d class = elim (cases_lt k (length cells)) [ inl w ↦ omega (arith, w, beyond) | inr w ↦ absurd (none_from k d w class) ]

    before : (r : Option ℕ) → IsLast (member_classes (cell_at cells)) c r → IsBefore f c i r
    before None last_is = λ k below class. last_is k (sym (ap (λ g. g k) seen) ∙ class)
    before (Some j) last_is = (low j c last_is.0, ap (λ g. g j) seen ∙ last_is.0, λ k below above class. last_is.1 k above (sym (ap (λ g. g k) seen) ∙ class))

-- and is in none
pub none_beyond : (cells : List (Option Member)) (i : ℕ) → length cells ≤ i → member_classes (cell_at cells) i ≡ None
none_beyond cells i beyond = ap class_in (get_or-eq_default cells None beyond)

-- ---- one cell is written

module _ {A : Type 0} (in_cell : Option Member → A) (cells : List (Option Member)) (i : ℕ) (x : Option Member) where
  pub set_cell : i < length cells → in_cell (cell_at (slice_set cells i x) i) ≡ in_cell x
  set_cell within = ap in_cell (get_or-set_same cells i x None within)

  pub other_cell : (k : ℕ) → k ≢ i → in_cell (cell_at (slice_set cells i x) k) ≡ in_cell (cell_at cells k)
  other_cell k apart = ap in_cell (get_or-set_other cells i k x None apart)

pub classes_set : (cells : List (Option Member)) (i : ℕ) (x : Option Member) → i < length cells → member_classes (cell_at (slice_set cells i x)) ≡ updated i (member_classes (cell_at cells)) (class_in x)
classes_set cells i x within = ap member_classes (written cells i x within) ∙ updated_through class_in (cell_at cells) i x

pub classes_unset : (cells : List (Option Member)) (i : ℕ) → member_classes (cell_at (slice_set cells i None)) ≡ updated i (member_classes (cell_at cells)) None
classes_unset cells i = ap member_classes (emptied cells i) ∙ updated_through class_in (cell_at cells) i None

-- a member's neighbour is one
has_class : (x : Option Member) (c : ℕ) → class_in x ≡ Some c → IsSome x
has_class None c is = let e : None ≡ Some c = is in cc
has_class (Some m) c is = refl

pub neighbour_stands : (R : ℕ → ℕ → Type 0) → IsOrder R → (f : ℕ → Option ℕ) (c i : ℕ) (r : Option ℕ) → IsNearest R f c i r → (cell : ℕ → Option Member) → ((k : ℕ) → k ≢ i → member_classes cell k ≡ f k)
    → IfSome r (λ k. IsSome (cell k))
neighbour_stands R o f c i None h cell same = tt
neighbour_stands R o f c i (Some k) h cell same = has_class (cell k) c (same k (λ e. o.strict i (subst (R i) e h.0)) ∙ h.1)

-- ---- a number comes into a class

module _ (cells : List (Option Member)) (first last : List (Option ℕ)) (h : AreMembers (cell_at cells) first last) (i : ℕ) (m : Member) (within : i < length cells) where
  pub come : member_classes (cell_at cells) i ≡ None → m.class < length first → FitsAt (member_classes (cell_at cells)) i m
      → (let cell = cell_at (slice_set cells i (Some m)) in
      AreLinked (member_classes cell) (relinked m.before (nexts_in cell) (Some i)) (relinked m.next (befores_in cell) (Some i)) (reended m.before m.class (cell_at first) (Some i)) (reended m.next m.class (cell_at last) (Some i)) (length first))
  come absent known fits =
      let cell = cell_at (slice_set cells i (Some m)) in
      inserted (member_classes (cell_at cells)) (member_classes cell) (nexts_in (cell_at cells)) (nexts_in cell) (befores_in (cell_at cells)) (befores_in cell) (cell_at first) (cell_at last) i m.class (length first) m.before m.next
      absent (set_cell class_in cells i (Some m) within) (other_cell class_in cells i (Some m))
      (set_cell next_in cells i (Some m) within) (other_cell next_in cells i (Some m))
      (set_cell before_in cells i (Some m) within) (other_cell before_in cells i (Some m))
      known fits.before fits.next h.linked

-- ---- a number leaves its class

module _ (cells : List (Option Member)) (first last : List (Option ℕ)) (h : AreMembers (cell_at cells) first last) (i : ℕ) (m : Member) (is : cell_at cells i ≡ Some m) where
  pub member_within : i < length cells
  member_within = elim (cases_lt i (length cells)) [ inl w ↦ w | inr w ↦ absurd (let e : None ≡ Some m = sym (get_or-eq_default cells None w) ∙ is in cc) ]

  pub left : (let cell = cell_at (slice_set cells i None) in
      AreLinked (member_classes cell) (relinked m.before (nexts_in cell) m.next) (relinked m.next (befores_in cell) m.before) (reended m.before m.class (cell_at first) m.next) (reended m.next m.class (cell_at last) m.before) (length first))
  left =
      let cell = cell_at (slice_set cells i None) in
      let place = stands (cell_at cells) first last h i m is in
      removed (member_classes (cell_at cells)) (member_classes cell) (nexts_in (cell_at cells)) (nexts_in cell) (befores_in (cell_at cells)) (befores_in cell) (cell_at first) (cell_at last) i m.class (length first) m.before m.next
      place.0 (set_cell class_in cells i None member_within) (other_cell class_in cells i None) (other_cell next_in cells i None) (other_cell before_in cells i None)
      place.1.before place.1.next h.linked

-- ---- more classes, and more ends of nothing

pub wider : (f next before first last first' last' : ℕ → Option ℕ) (width width' : ℕ) → first' ≡ first → last' ≡ last → width ≤ width' → AreLinked f next before first last width → AreLinked f next before first' last' width'
wider f next before first last first' last' width width' same_first same_last more h = record {
  known = λ k c is. omega (arith, h.known k c is, more);
  nexts = h.nexts;
  befores = h.befores;
  firsts = λ c. subst (λ e. IsFirst f c (e c)) (sym same_first) (h.firsts c);
  lasts = λ c. subst (λ e. IsLast f c (e c)) (sym same_last) (h.lasts c);
}

pub more_ends : (ends : List (Option ℕ)) → cell_at (ends ++ None ∷ []) ≡ cell_at ends
more_ends ends = fun_ext (λ k. elim (one_or_other k (length ends)) [
  | inl w ↦ ap (cell_at (ends ++ None ∷ [])) w ∙ get_or-append_seam ends None [] None ∙ sym (get_or-eq_default ends None (omega (arith, w)))
  | inr w ↦ elim (cases_lt k (length ends)) [
    | inl low ↦ get_or-append ends (None ∷ []) None k low
    | inr high ↦ get_or-eq_default (ends ++ None ∷ []) None (elim (cases_lt (length ends) k) [ inl above ↦ omega (arith, above, length-append ends (None ∷ [])) | inr below ↦ absurd (w (omega (arith, below, high))) ]) ∙ sym (get_or-eq_default ends None high)
  ]
])

pub more_runs : (k : ℕ) (ends : List (Option ℕ)) → cell_at (ends ++ replicate k None) ≡ cell_at ends
more_runs zero ends = ap cell_at (append-nil ends)
more_runs (suc k) ends = ap cell_at (sym (append_assoc ends (None ∷ []) (replicate k None))) ∙ more_runs k (ends ++ None ∷ []) ∙ more_ends ends
