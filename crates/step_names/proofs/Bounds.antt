-- What is read keeps the bounds.
use Rattle.std.proofs.Common.{arith, zero, suc, ◌≤◌, ◌^◌, ◌≡◌, ℕ, Bool, true, false, cond, List, [], ◌∷◌, refl, sym, ap, ◌∙◌, subst, length, nat_le, ◌==◌, Option, Some, None}
use Rattle.std.specs.Option.{option_map, option_and_then}
use Rattle.std.specs.List.{slice_split, list_all}
use Rattle.std.proofs.lemmas.Bool.{leb-true, le-leb, lt-ltb}
use Rattle.step_names.specs.Thread.{Thread, IsThread, is_name, is_branch}
use Rattle.step_names.specs.Grammar.{read_step_number, read_branch, read_branch_parts, read_branches, read_path, read_thread, read_thread_parts}
use Rattle.step_names.proofs.Numbers.{number_parts}

number_then : (o : Option ℕ) (f : ℕ → Option (ℕ × ℕ)) (p : ℕ × ℕ) → option_and_then f o ≡ Some p → (n : ℕ) × (o ≡ Some n) × (f n ≡ Some p)
number_then None f p h = cc
number_then (Some n) f p h = (n, refl, h)

pub branch_then : (o : Option (ℕ × ℕ)) (f : ℕ × ℕ → Option (List (ℕ × ℕ))) (path : List (ℕ × ℕ)) → option_and_then f o ≡ Some path → (p : ℕ × ℕ) × (o ≡ Some p) × (f p ≡ Some path)
branch_then None f path h = cc
branch_then (Some p) f path h = (p, refl, h)

pub path_then : (o : Option (List (ℕ × ℕ))) (f : List (ℕ × ℕ) → List (ℕ × ℕ)) (path : List (ℕ × ℕ)) → option_map f o ≡ Some path → (q : List (ℕ × ℕ)) × (o ≡ Some q) × (f q ≡ path)
path_then None f path h = cc
path_then (Some q) f path h = (q, refl, cc)

-- the branch has both numbers
pub branch_parts : (fork branch : List ℕ) (p : ℕ × ℕ) → read_branch_parts (fork ∷ branch ∷ []) ≡ Some p → (read_step_number fork ≡ Some p.0) × (read_step_number branch ≡ Some p.1) × ((p.0 == 0) ≡ false)
branch_parts fork branch p h =
    let s = number_then (read_step_number fork) (λ n. option_and_then (λ i. cond (n == 0) None (Some (n, i))) (read_step_number branch)) p h in
    let t = number_then (read_step_number branch) (λ i. cond (s.0 == 0) None (Some (s.0, i))) p s.2 in
    let u = made (s.0 == 0) (s.0, t.0) p t.2 in
    (s.1 ∙ ap (λ (q : ℕ × ℕ). Some q.0) u.1, t.1 ∙ ap (λ (q : ℕ × ℕ). Some q.1) u.1, subst (λ (q : ℕ × ℕ). (q.0 == 0) ≡ false) u.1 u.0)
  where
    made : (r : Bool) (q p : ℕ × ℕ) → cond r None (Some q) ≡ Some p → (r ≡ false) × (q ≡ p)
    made true q p h = cc
    made false q p h = (refl, cc)

pub is_branch_from : (parts : List (List ℕ)) (p : ℕ × ℕ) → read_branch_parts parts ≡ Some p → is_branch p ≡ true
is_branch_from [] p h = cc
is_branch_from (fork ∷ []) p h = cc
is_branch_from (fork ∷ branch ∷ more ∷ parts) p h = cc
is_branch_from (fork ∷ branch ∷ []) p h =
    let s = branch_parts fork branch p h in
    let n = number_parts fork p.0 s.0 in
    let i = number_parts branch p.1 s.1 in
    rw (le-leb 1 p.0 (positive p.0 s.2), lt-ltb p.0 (2 ^ 32) n.2, lt-ltb p.1 (2 ^ 32) i.2)
  where
    positive : (n : ℕ) → (n == 0) ≡ false → 1 ≤ n
    positive zero h = cc
    positive (suc n) h = omega arith

pub are_branches : (texts : List (List ℕ)) (path : List (ℕ × ℕ)) → read_branches texts ≡ Some path → (list_all is_branch path ≡ true) × (length path ≡ length texts)
are_branches [] path h = let e : [] ≡ path = cc in subst (λ (q : List (ℕ × ℕ)). (list_all is_branch q ≡ true) × (length q ≡ 0)) e (refl, refl)
are_branches (text ∷ texts) path h =
    let s = branch_then (read_branch text) (λ branch. option_map (λ more. branch ∷ more) (read_branches texts)) path h in
    let t = path_then (read_branches texts) (λ more. s.0 ∷ more) path s.2 in
    let k = are_branches texts t.0 t.1 in
    let b : is_branch s.0 ≡ true = is_branch_from (slice_split (λ b. b == 46) text) s.0 s.1 in
    subst (λ (q : List (ℕ × ℕ)). (list_all is_branch q ≡ true) × (length q ≡ suc (length texts))) t.2 (rw (b, k.0), ap suc k.1)

pub path_if : (r : Bool) (o : Option (List (ℕ × ℕ))) (path : List (ℕ × ℕ)) → cond r o None ≡ Some path → (r ≡ true) × (o ≡ Some path)
path_if true o path h = (refl, h)
path_if false o path h = cc

pub path_bounds : (texts : List (List ℕ)) (path : List (ℕ × ℕ)) → read_path texts ≡ Some path → (list_all is_branch path ≡ true) × (length path ≤ 31)
path_bounds texts path h =
    let s = path_if (nat_le (length texts) 31) (read_branches texts) path h in
    let k = are_branches texts path s.1 in
    (k.0, omega (arith, leb-true (length texts) 31 s.0, k.1))

thread_if : (r : Bool) (o : Option Thread) (t : Thread) → cond r o None ≡ Some t → (r ≡ true) × (o ≡ Some t)
thread_if true o t h = (refl, h)
thread_if false o t h = cc

thread_then : (o : Option (List (ℕ × ℕ))) (f : List (ℕ × ℕ) → Thread) (t : Thread) → option_map f o ≡ Some t → (q : List (ℕ × ℕ)) × (o ≡ Some q) × (f q ≡ t)
thread_then None f t h = cc
thread_then (Some q) f t h = (q, refl, cc)

-- the parts of what is read
pub thread_parts : (exec : List ℕ) (texts : List (List ℕ)) (t : Thread) → read_thread_parts (exec ∷ texts) ≡ Some t → (is_name exec ≡ true) × (t.exec ≡ exec) × (read_path texts ≡ Some t.path)
thread_parts exec texts t h =
    let s = thread_if (is_name exec) (option_map (λ path. record { exec = exec; path = path }) (read_path texts)) t h in
    let k = thread_then (read_path texts) (λ path. record { exec = exec; path = path }) t s.1 in
    (s.0, sym (ap (λ (u : Thread). u.exec) k.2), k.1 ∙ ap (λ (u : Thread). Some u.path) k.2)

pub thread_bounds : (parts : List (List ℕ)) (t : Thread) → read_thread_parts parts ≡ Some t → IsThread t
thread_bounds [] t h = cc
thread_bounds (exec ∷ texts) t h =
    let s = thread_parts exec texts t h in
    let k = path_bounds texts t.path s.2 in
    record { named = subst (λ (bytes : List ℕ). is_name bytes ≡ true) (sym s.1) s.0; depth = k.1; branches = k.0 }

pub read_bounds : (text : List ℕ) (t : Thread) → read_thread text ≡ Some t → IsThread t
read_bounds text t h = thread_bounds (slice_split (λ b. b == 47) text) t h
