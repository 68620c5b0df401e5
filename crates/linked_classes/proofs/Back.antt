-- What was taken out fits again, and makes what there was.
use Rattle.std.proofs.Common.{◌≡◌, ◌≢◌, ℕ, Option, None, Some, ap, sym, subst, ◌∙◌, inl, inr}
use Rattle.std.proofs.Math.Path.{fun_ext}
use Rattle.linked_classes.specs.Linked.{IsNearest, Rises, Falls, updated}
use Rattle.linked_classes.specs.Members.{FitsAt}
use Rattle.linked_classes.specs.declared.member.Member.{Member}
use Rattle.linked_classes.proofs.Gets.{one_or_other}
use Rattle.linked_classes.proofs.Updates.{updated_here, updated_elsewhere, IsOrder, rising, falling}

nearest_still : (R : ℕ → ℕ → Type 0) → IsOrder R → (f g : ℕ → Option ℕ) (c i : ℕ) (r : Option ℕ) → ((k : ℕ) → k ≢ i → g k ≡ f k) → IsNearest R f c i r → IsNearest R g c i r
nearest_still R o f g c i None same h = λ k beyond is. h k beyond (sym (same k (λ e. o.strict i (subst (R i) e beyond))) ∙ is)
nearest_still R o f g c i (Some j) same h = (
  h.0,
  same j (λ e. o.strict i (subst (R i) e h.0)) ∙ h.1,
  λ k beyond below is. h.2 k beyond below (sym (same k (λ e. o.strict i (subst (R i) e beyond))) ∙ is),
)

-- where a number's own class alone changes, its neighbours stay
pub fits_still : (f g : ℕ → Option ℕ) (i : ℕ) (m : Member) → ((k : ℕ) → k ≢ i → g k ≡ f k) → FitsAt f i m → FitsAt g i m
fits_still f g i m same h = record { before = nearest_still Falls falling f g m.class i m.before same h.before; next = nearest_still Rises rising f g m.class i m.next same h.next }

pub fits_again : (f g : ℕ → Option ℕ) (i : ℕ) (m : Member) → g ≡ updated i f None → FitsAt f i m → FitsAt g i m
fits_again f g i m gone h = fits_still f g i m (λ k apart. ap (λ f. f k) gone ∙ updated_elsewhere f i None k apart) h

pub back_again : (f g k : ℕ → Option ℕ) (i c : ℕ) → f i ≡ Some c → g ≡ updated i f None → k ≡ updated i g (Some c) → k ≡ f
back_again f g k i c was gone back = fun_ext (λ j. ap (λ h. h j) back ∙ (elim (one_or_other j i) [
  | inl w ↦ updated_here g i (Some c) j w ∙ sym was ∙ ap f (sym w)
  | inr w ↦ updated_elsewhere g i (Some c) j w ∙ ap (λ h. h j) gone ∙ updated_elsewhere f i None j w
]))

-- what was in no class stays as it was
pub none_again : (f g : ℕ → Option ℕ) (i : ℕ) → f i ≡ None → g ≡ updated i f None → g ≡ f
none_again f g i was gone = fun_ext (λ j. ap (λ h. h j) gone ∙ (elim (one_or_other j i) [
  | inl w ↦ updated_here f i None j w ∙ sym was ∙ ap f (sym w)
  | inr w ↦ updated_elsewhere f i None j w
]))
