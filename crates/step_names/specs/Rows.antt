-- The grammar at some texts.
use Rattle.std.specs.Prelude.{◌≡◌, [], ◌∷◌, codes, Some, None, refl}
use Rattle.step_names.specs.Grammar.{read_thread, read_step}

row_execution : read_thread (codes "E") ≡ Some (record { exec = codes "E"; path = [] })
row_execution = refl

row_branch : read_thread (codes "a-1_/2.0/5.1") ≡ Some (record { exec = codes "a-1_"; path = (2, 0) ∷ (5, 1) ∷ [] })
row_branch = refl

row_greatest : read_thread (codes "E/4294967295.4294967295") ≡ Some (record { exec = codes "E"; path = (4294967295, 4294967295) ∷ [] })
row_greatest = refl

row_too_great : read_thread (codes "E/4294967296.0") ≡ None
row_too_great = refl

row_fork_zero : read_thread (codes "E/0.0") ≡ None
row_fork_zero = refl

row_leading_zero : read_thread (codes "E/02.0") ≡ None
row_leading_zero = refl

row_leading_zeros : read_thread (codes "E/2.00") ≡ None
row_leading_zeros = refl

row_no_branch : read_thread (codes "E/") ≡ None
row_no_branch = refl

row_no_point : read_thread (codes "E/2") ≡ None
row_no_point = refl

row_no_index : read_thread (codes "E/2.") ≡ None
row_no_index = refl

row_nothing : read_thread [] ≡ None
row_nothing = refl

row_start : read_step (codes "E#0") ≡ Some (record { thread = record { exec = codes "E"; path = [] }; no = 0 })
row_start = refl

row_step : read_step (codes "E/2.0#10") ≡ Some (record { thread = record { exec = codes "E"; path = (2, 0) ∷ [] }; no = 10 })
row_step = refl

row_step_leading_zero : read_step (codes "E#01") ≡ None
row_step_leading_zero = refl

row_no_number : read_step (codes "E#") ≡ None
row_no_number = refl

row_no_thread : read_step (codes "#1") ≡ None
row_no_thread = refl

row_no_mark : read_step (codes "E") ≡ None
row_no_mark = refl
