-- Equality of frames and of their parts: the counts and the places first, and the raw input last.
use Rattle.std.specs.Prelude.{◌≡◌, ℕ, Bool, true, false, ◌&&◌, List, ◌==◌}
use Rattle.std.proofs.Common.{ap, ap₂, refl}
use Rattle.std.specs.Cmp.{unsigned_Decides}
use Rattle.std.specs.Cmp.Derive.{both_true}
use lib.Pointwise.{pointwise}
use Rattle.asl_tree.specs.LevelSame.{same_level, level_exact}
use Rattle.asl_tree.specs.PathSame.{same_text, IsExact, exact, first_true, second_true, text_exact}
use Rattle.asl_tree.specs.StateSame.{same_json, json_exact}
use Rattle.asl_frames.specs.declared.frame.Fault.{Fault}
use Rattle.asl_frames.specs.declared.frame.Frame.{Frame}
use Rattle.asl_frames.specs.declared.frame.Origin.{Origin}
use Rattle.asl_frames.specs.declared.frame.Origin.TheVariants.{Call, Branch, Other}
use Rattle.asl_frames.specs.declared.frame.Phase.{Phase}
use Rattle.asl_frames.specs.declared.frame.Phase.TheVariants.{Ready, Parked, Done, Failed}

abbrev pub origin_number : Origin → ℕ
origin_number Call = 0
origin_number Branch = 1
origin_number Other = 2

abbrev pub same_origin : Origin → Origin → Bool
same_origin a b = origin_number a == origin_number b

abbrev pub same_fault : Fault → Fault → Bool
same_fault a b = same_origin a.origin b.origin && (same_text a.error b.error && same_text a.cause b.cause)

abbrev pub same_phase : Phase → Phase → Bool
same_phase Ready Ready = true
same_phase (Parked m k) (Parked n l) = m == n && k == l
same_phase (Done a) (Done b) = same_json a b
same_phase (Failed a) (Failed b) = same_fault a b
same_phase _ _ = false

abbrev pub same_counters : List ℕ → List ℕ → Bool
same_counters = pointwise ◌==◌

abbrev pub same_frame : Frame → Frame → Bool
same_frame f g =
    f.count == g.count && (same_phase f.phase g.phase && (same_level f.level g.level && (same_text f.state g.state && (same_counters f.retries g.retries && same_json f.raw g.raw))))

-- ---- they hold of equal values alone

origin_one : (a b : Origin) → same_origin a b ≡ true → a ≡ b
origin_one Call Call h = refl
origin_one Branch Branch h = refl
origin_one Other Other h = refl
origin_one _ _ h = cc

pub origin_exact : IsExact same_origin
origin_exact = exact same_origin origin_one (λ a. (unsigned_Decides (origin_number a) (origin_number a)).1 refl)

fault_one : (a b : Fault) → same_fault a b ≡ true → a ≡ b
fault_one a b h =
    let origin : a.origin ≡ b.origin = (origin_exact a.origin b.origin).0 (first_true _ _ h) in
    let h0 = second_true (same_origin a.origin b.origin) _ h in
    let error : a.error ≡ b.error = (text_exact a.error b.error).0 (first_true _ _ h0) in
    let cause : a.cause ≡ b.cause = (text_exact a.cause b.cause).0 (second_true (same_text a.error b.error) _ h0) in
    λ i. record { error = error i; cause = cause i; origin = origin i }

pub fault_exact : IsExact same_fault
fault_exact = exact same_fault fault_one (λ a. both_true ((origin_exact a.origin a.origin).1 refl) (both_true ((text_exact a.error a.error).1 refl) ((text_exact a.cause a.cause).1 refl)))

phase_one : (a b : Phase) → same_phase a b ≡ true → a ≡ b
phase_one Ready Ready h = refl
phase_one (Parked m k) (Parked n l) h =
    let branches : m ≡ n = (unsigned_Decides m n).0 (first_true _ _ h) in
    let bound : k ≡ l = (unsigned_Decides k l).0 (second_true (m == n) _ h) in
    ap₂ Parked branches bound
phase_one (Done a) (Done b) h = ap Done ((json_exact a b).0 h)
phase_one (Failed a) (Failed b) h = ap Failed ((fault_exact a b).0 h)
phase_one _ _ h = cc

phase_itself : (a : Phase) → same_phase a a ≡ true
phase_itself Ready = refl
phase_itself (Parked n k) = both_true ((unsigned_Decides n n).1 refl) ((unsigned_Decides k k).1 refl)
phase_itself (Done a) = (json_exact a a).1 refl
phase_itself (Failed a) = (fault_exact a a).1 refl

pub phase_exact : IsExact same_phase
phase_exact = exact same_phase phase_one phase_itself

pub counters_exact : IsExact same_counters
counters_exact = text_exact

frame_one : (f g : Frame) → same_frame f g ≡ true → f ≡ g
frame_one f g h =
    let count : f.count ≡ g.count = (unsigned_Decides f.count g.count).0 (first_true _ _ h) in
    let h0 = second_true (f.count == g.count) _ h in
    let phase : f.phase ≡ g.phase = (phase_exact f.phase g.phase).0 (first_true _ _ h0) in
    let h1 = second_true (same_phase f.phase g.phase) _ h0 in
    let level : f.level ≡ g.level = (level_exact f.level g.level).0 (first_true _ _ h1) in
    let h2 = second_true (same_level f.level g.level) _ h1 in
    let state : f.state ≡ g.state = (text_exact f.state g.state).0 (first_true _ _ h2) in
    let h3 = second_true (same_text f.state g.state) _ h2 in
    let retries : f.retries ≡ g.retries = (counters_exact f.retries g.retries).0 (first_true _ _ h3) in
    let raw : f.raw ≡ g.raw = (json_exact f.raw g.raw).0 (second_true (same_counters f.retries g.retries) _ h3) in
    λ i. record { level = level i; state = state i; raw = raw i; retries = retries i; count = count i; phase = phase i }

frame_itself : (f : Frame) → same_frame f f ≡ true
frame_itself f =
    both_true ((unsigned_Decides f.count f.count).1 refl)
    (both_true ((phase_exact f.phase f.phase).1 refl)
    (both_true ((level_exact f.level f.level).1 refl)
    (both_true ((text_exact f.state f.state).1 refl) (both_true ((counters_exact f.retries f.retries).1 refl) ((json_exact f.raw f.raw).1 refl)))))

pub frame_exact : IsExact same_frame
frame_exact = exact same_frame frame_one frame_itself
