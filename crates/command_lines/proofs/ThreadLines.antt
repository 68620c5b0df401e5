-- The line of a thread's step is one line.
use Rattle.std.proofs.Common.{arith, ◌≡◌, ◌≤◌, refl, ℕ, nat_le, true, List, [], ◌∷◌, ◌++◌, ◌+◌, length, codes}
use Rattle.std.specs.List.{flat_map, list_all}
use Rattle.std.specs.Fmt.{decimal}
use Rattle.std.proofs.lemmas.Bool.{and_parts, and_from, le-leb}
use Rattle.step_names.specs.Thread.{Thread, IsThread, is_branch, is_name_byte}
use Rattle.step_names.specs.Written.{branch_text, thread_text}
use Rattle.step_names.proofs.Parts.{lacks, lacks-append, passing_lacks}
use Rattle.step_names.proofs.Spelling.{decimal_lacks, is_branch_parts, is_name_parts}
use Rattle.command_lines.specs.Grammar.{is_one_line}

branch_lacks : (branch : ℕ × ℕ) → is_branch branch ≡ true → lacks 10 (branch_text branch) ≡ true
branch_lacks branch h =
    let s = is_branch_parts branch h in
    lacks-append 10 (decimal branch.0) (46 ∷ decimal branch.1) (decimal_lacks 10 branch.0 refl s.1) (decimal_lacks 10 branch.1 refl s.2)

path_lacks : (path : List (ℕ × ℕ)) → list_all is_branch path ≡ true → lacks 10 (flat_map branch_text path) ≡ true
path_lacks [] h = refl
path_lacks (branch ∷ path) h =
    let s = and_parts (is_branch branch) (list_all is_branch path) h in
    lacks-append 10 (branch_text branch) (flat_map branch_text path) (branch_lacks branch s.0) (path_lacks path s.1)

thread_lacks : (thread : Thread) → IsThread thread → lacks 10 (thread_text thread) ≡ true
thread_lacks thread kept =
    lacks-append 10 thread.exec (flat_map branch_text thread.path)
    (passing_lacks is_name_byte 10 thread.exec refl (is_name_parts thread.exec kept.named).2) (path_lacks thread.path kept.branches)

pub step_one_line : (thread : Thread) → IsThread thread → length (thread_text thread) ≤ 746 → is_one_line (codes "step " ++ thread_text thread) ≡ true
step_one_line thread kept short =
    let size : length (codes "step " ++ thread_text thread) ≡ length (thread_text thread) + 5 = omega arith in
    and_from (nat_le (length (codes "step " ++ thread_text thread)) 1048576) (lacks 10 (codes "step " ++ thread_text thread))
    (le-leb (length (codes "step " ++ thread_text thread)) 1048576 (omega (arith, short, size))) (thread_lacks thread kept)
