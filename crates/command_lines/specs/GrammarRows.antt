-- The grammar at some texts.
use Rattle.std.specs.Prelude.{◌≡◌, [], ◌∷◌, codes, Some, None, refl}
use Rattle.step_names.specs.Thread.{execution}
use Rattle.attr_values.specs.declared.key.KeyType.TheVariants.{S, N}
use Rattle.command_lines.specs.Grammar.{table, define, start, step, undo, plan, rollback, settle, hold, drive, work, show, items, history, held, text_command}

row_one_key : text_command (codes "table items id:S []")
    ≡ Some (table (codes "items") (record { partition = record { name = codes "id"; kind = S }; sort = None }) (codes "[]"))
row_one_key = refl

row_two_keys : text_command (codes "table i.t id:S no:N []")
    ≡ Some (table (codes "i.t") (record { partition = record { name = codes "id"; kind = S }; sort = Some (record { name = codes "no"; kind = N }) }) (codes "[]"))
row_two_keys = refl

row_no_second_key : text_command (codes "table t id:S a:b:N []")
    ≡ Some (table (codes "t") (record { partition = record { name = codes "id"; kind = S }; sort = None }) (codes "a:b:N []"))
row_no_second_key = refl

row_equal_keys : text_command (codes "table t id:S id:N []") ≡ None
row_equal_keys = refl

row_second_key_alone : text_command (codes "table t id:S no:N") ≡ None
row_second_key_alone = refl

row_no_items : text_command (codes "table t id:S ") ≡ Some (table (codes "t") (record { partition = record { name = codes "id"; kind = S }; sort = None }) [])
row_no_items = refl

row_bracket : text_command (codes "table t [id:S []") ≡ None
row_bracket = refl

row_define : text_command (codes "define p {\"a\": 1}") ≡ Some (define (codes "p") (codes "{\"a\": 1}"))
row_define = refl

row_start : text_command (codes "start a p {}") ≡ Some (start (execution (codes "a")) (codes "p") (codes "{}"))
row_start = refl

row_step : text_command (codes "step a") ≡ Some (step (execution (codes "a")))
row_step = refl

row_branch : text_command (codes "step a/1.0") ≡ Some (step (record { exec = codes "a"; path = (1, 0) ∷ [] }))
row_branch = refl

row_no_fork : text_command (codes "step a/0.1") ≡ None
row_no_fork = refl

row_start_of_a_branch : text_command (codes "start a/1.0 p {}") ≡ None
row_start_of_a_branch = refl

row_undo : text_command (codes "undo a#10") ≡ Some (undo (record { thread = execution (codes "a"); no = 10 }))
row_undo = refl

row_undo_branch : text_command (codes "undo a/2.10#3") ≡ Some (undo (record { thread = record { exec = codes "a"; path = (2, 10) ∷ [] }; no = 3 }))
row_undo_branch = refl

row_plan : text_command (codes "plan a#0") ≡ Some (plan (record { thread = execution (codes "a"); no = 0 }))
row_plan = refl

row_rollback : text_command (codes "rollback a#1") ≡ Some (rollback (record { thread = execution (codes "a"); no = 1 }))
row_rollback = refl

row_drive : text_command (codes "drive 65536") ≡ Some (drive 65536)
row_drive = refl

row_drive_nothing : text_command (codes "drive 0") ≡ None
row_drive_nothing = refl

row_drive_more : text_command (codes "drive 65537") ≡ None
row_drive_more = refl

row_work : text_command (codes "work 8 65536") ≡ Some (work 8 65536)
row_work = refl

row_work_one : text_command (codes "work 1 1") ≡ Some (work 1 1)
row_work_one = refl

row_no_workers : text_command (codes "work 0 1") ≡ None
row_no_workers = refl

row_workers_more : text_command (codes "work 9 1") ≡ None
row_workers_more = refl

row_work_nothing : text_command (codes "work 1 0") ≡ None
row_work_nothing = refl

row_work_more : text_command (codes "work 1 65537") ≡ None
row_work_more = refl

row_work_alone : text_command (codes "work 1") ≡ None
row_work_alone = refl

row_work_three : text_command (codes "work 1 2 3") ≡ None
row_work_three = refl

row_leading_zero : text_command (codes "undo a#01") ≡ None
row_leading_zero = refl

row_show : text_command (codes "show a") ≡ Some (show (execution (codes "a")))
row_show = refl

row_two_spaces : text_command (codes "show  a") ≡ None
row_two_spaces = refl

row_items : text_command (codes "items") ≡ Some items
row_items = refl

row_space_after : text_command (codes "items ") ≡ None
row_space_after = refl

row_history : text_command (codes "history") ≡ Some history
row_history = refl

row_settle : text_command (codes "settle") ≡ Some settle
row_settle = refl

row_settle_a_step : text_command (codes "settle a#1") ≡ None
row_settle_a_step = refl

row_hold : text_command (codes "hold e/1.1#2") ≡ Some (hold (record { thread = record { exec = codes "e"; path = (1, 1) ∷ [] }; no = 2 }))
row_hold = refl

row_hold_nothing : text_command (codes "hold") ≡ None
row_hold_nothing = refl

row_hold_a_thread : text_command (codes "hold e") ≡ None
row_hold_a_thread = refl

row_held : text_command (codes "held") ≡ Some held
row_held = refl

row_held_a_step : text_command (codes "held e#1") ≡ None
row_held_a_step = refl

row_nothing : text_command [] ≡ None
row_nothing = refl
