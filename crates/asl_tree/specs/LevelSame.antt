-- Equality of levels, and of the steps that lead to them.
use Rattle.std.specs.Prelude.{◌≡◌, Bool, true, ◌&&◌, List, ◌==◌}
use Rattle.std.specs.Cmp.{unsigned_Decides}
use Rattle.std.specs.Cmp.Derive.{both_true}
use Rattle.std.proofs.Common.{refl}
use lib.Pointwise.{pointwise}
use Rattle.asl_states.specs.PathSame.{same_text, IsExact, exact, first_true, second_true, text_exact, list_exact}
use Rattle.asl_tree.specs.declared.level.Level.{Level}
use Rattle.asl_tree.specs.declared.level.LevelStep.{LevelStep}

abbrev pub same_level_step : LevelStep → LevelStep → Bool
same_level_step s t = s.branch == t.branch && same_text s.state t.state

abbrev pub same_level_path : List LevelStep → List LevelStep → Bool
same_level_path = pointwise same_level_step

abbrev pub same_level : Level → Level → Bool
same_level l m = same_text l.machine m.machine && same_level_path l.path m.path

-- ---- they hold of equal values alone

level_step_one : (s t : LevelStep) → same_level_step s t ≡ true → s ≡ t
level_step_one s t h =
    let branch : s.branch ≡ t.branch = (unsigned_Decides s.branch t.branch).0 (first_true _ _ h) in
    let state : s.state ≡ t.state = (text_exact s.state t.state).0 (second_true (s.branch == t.branch) _ h) in
    λ i. record { state = state i; branch = branch i }

pub level_step_exact : IsExact same_level_step
level_step_exact = exact same_level_step level_step_one (λ s. both_true ((unsigned_Decides s.branch s.branch).1 refl) ((text_exact s.state s.state).1 refl))

pub level_path_exact : IsExact same_level_path
level_path_exact = list_exact same_level_step level_step_exact

level_one : (l m : Level) → same_level l m ≡ true → l ≡ m
level_one l m h =
    let machine : l.machine ≡ m.machine = (text_exact l.machine m.machine).0 (first_true _ _ h) in
    let path : l.path ≡ m.path = (level_path_exact l.path m.path).0 (second_true (same_text l.machine m.machine) _ h) in
    λ i. record { machine = machine i; path = path i }

pub level_exact : IsExact same_level
level_exact = exact same_level level_one (λ l. both_true ((text_exact l.machine l.machine).1 refl) ((level_path_exact l.path l.path).1 refl))
