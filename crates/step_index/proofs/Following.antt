-- A pass forward over steps that finds those which depend directly on one that it found; and places that it may skip.
use Rattle.std.proofs.Common.{◌≡◌, ◌<◌, ◌≤◌, ◌-◌, arith, ℕ, zero, suc, Bool, true, false, List, [], ◌∷◌, ◌++◌, ◌+◌, All, cond, drop, get_or, length, map, Some, refl, ap, ap₂, sym, subst, ◌∙◌}
use Rattle.std.specs.Prelude.{slice_get, ◌||◌}
use Rattle.std.specs.List.{list_any}
use Rattle.std.proofs.lemmas.List.{append-nil, drop_all}
use Rattle.std.proofs.lemmas.List.Elements.{All-push}
use Rattle.std.proofs.lemmas.Option.{get_or_from_slice_get}
use Rattle.saved_steps.specs.declared.fact.Fact.{Fact}
use Rattle.saved_steps.specs.declared.record.StepRecord.{StepRecord}
use Rattle.depends.specs.Plans.{depends_on_some, consequences_behind, consequences_at}
use Rattle.depends.proofs.Searching.{as_many, is_marked_in, is_passed_in, passes}
use Rattle.step_index.specs.Finding.{IsFree}
use Rattle.step_index.proofs.Listed.{there}

abbrev pub facts : List StepRecord → List Fact
facts rs = map (λ (r : StepRecord). r.fact) rs

pub any_none : {A : Type 0} (p : A → Bool) (xs : List A) → ((i : ℕ) (x : A) → slice_get xs i ≡ Some x → p x ≡ false) → list_any p xs ≡ false
any_none p [] h = refl
any_none p (x ∷ xs) h = ap₂ (λ (a b : Bool). a || b) (h zero x refl) (any_none p xs (λ i y k. h (suc i) y k))

-- ---- the pass forward

pub record IsPassedOn (rs : List StepRecord) (at i : ℕ) (places : List ℕ) : Type 0 where
  pub all : places ++ consequences_behind (facts rs) places (i + 1) (drop (i + 1) (facts rs)) ≡ consequences_at (facts rs) at
  pub within : All (λ p. p < length rs) places

pub passed_on : (rs : List StepRecord) (at i : ℕ) (g : StepRecord) (places next : List ℕ) → i < length rs → slice_get rs i ≡ Some g → All (λ p. p < length rs) places
    → places ++ consequences_behind (facts rs) places i (drop i (facts rs)) ≡ consequences_at (facts rs) at → next ≡ cond (depends_on_some (facts rs) places g.fact) (places ++ i ∷ []) places → IsPassedOn rs at i next
passed_on rs at i g places next low is within all e = by (depends_on_some (facts rs) places g.fact) refl
  where
    same : get_or rs i g ≡ g
    same = get_or_from_slice_get rs i g g is

    there : (b : Bool) → depends_on_some (facts rs) places g.fact ≡ b → depends_on_some (facts rs) places (get_or rs i g).fact ≡ b
    there b k = ap (λ (r : StepRecord). depends_on_some (facts rs) places r.fact) same ∙ k

    by : (b : Bool) → depends_on_some (facts rs) places g.fact ≡ b → IsPassedOn rs at i next
    by true k =
        let n = e ∙ ap (λ b. cond b (places ++ i ∷ []) places) k in
        record {
          all = is_marked_in rs at i g places low all next n (there true k);
          within = subst (All (λ p. p < length rs)) (sym n) (All-push (λ p. p < length rs) places i within low);
        }
    by false k =
        let n = e ∙ ap (λ b. cond b (places ++ i ∷ []) places) k in
        record {
          all = is_passed_in rs at i g places low all next n (there false k);
          within = subst (All (λ p. p < length rs)) (sym n) within;
        }

-- ---- places at which no step depends directly on one that was found

-- what the pass finds from a place on
abbrev pub found_from : List StepRecord → List ℕ → ℕ → List ℕ
found_from rs places i = consequences_behind (facts rs) places i (drop i (facts rs))

skip : (n i : ℕ) (rs : List StepRecord) (places : List ℕ) → i + n ≤ length rs → ((k : ℕ) → i ≤ k → k < i + n → IsFree rs places k) → found_from rs places i ≡ found_from rs places (i + n)
skip zero i rs places low free = ap (found_from rs places) (let w : i ≡ i + 0 = omega arith in w)
skip (suc n) i rs places low free =
    let g = there rs i (omega (arith, low)) in
    let same = get_or_from_slice_get rs i g.0 g.0 g.1 in
    passes rs i g.0 (omega (arith, low)) places (ap (λ (r : StepRecord). depends_on_some (facts rs) places r.fact) same ∙ free i (omega arith) (omega arith) g.0 g.1)
    ∙ skip n (i + 1) rs places (omega (arith, low)) (λ k a b. free k (omega (arith, a)) (omega (arith, b)))
    ∙ ap (found_from rs places) (let w : (i + 1) + n ≡ i + suc n = omega arith in w)

pub skipped : (rs : List StepRecord) (at i place : ℕ) (places : List ℕ) → i ≤ place → place ≤ length rs → ((k : ℕ) → i ≤ k → k < place → IsFree rs places k)
    → places ++ found_from rs places i ≡ consequences_at (facts rs) at → places ++ found_from rs places place ≡ consequences_at (facts rs) at
skipped rs at i place places low within free all =
    let e : i + (place - i) ≡ place = omega (arith, low) in
    let through = skip (place - i) i rs places (omega (arith, low, within)) (λ k a b. free k a (omega (arith, low, b))) in
    ap (λ (l : List ℕ). places ++ l) (sym (through ∙ ap (found_from rs places) e)) ∙ all

pub finished : (rs : List StepRecord) (at i : ℕ) (places : List ℕ) → i ≤ length rs → ((k : ℕ) → i ≤ k → IsFree rs places k) → places ++ found_from rs places i ≡ consequences_at (facts rs) at → places ≡ consequences_at (facts rs) at
finished rs at i places low free all =
    let none = drop_all (length rs) (facts rs) (let e = as_many rs in omega (arith, e)) in
    sym (append-nil places)
    ∙ ap (λ (l : List Fact). places ++ consequences_behind (facts rs) places (length rs) l) (sym none)
    ∙ skipped rs at i (length rs) places low (omega arith) (λ k a b. free k a) all
