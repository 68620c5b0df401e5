-- A thread as contracts see it, and the bounds that each name keeps.
use Rattle.std.specs.Prelude.{ℕ, ◌^◌, ◌<◌, ◌≤◌, Bool, ◌&&◌, ◌||◌, List, [], ◌∷◌, ◌++◌, length, IsTrue, nat_lt, nat_le, ◌==◌}
use Rattle.std.specs.Char.{is_ascii_alphanumeric}
use Rattle.std.specs.List.{list_all}

-- The execution's name as bytes, and the branches that lead to the thread, outermost first: each is the
-- number of the step that forked and the branch's index.
pub record Thread : Type 0 where
  pub exec : List ℕ
  pub path : List (ℕ × ℕ)

-- an ASCII letter or digit, `_` or `-`
abbrev pub is_name_byte : ℕ → Bool
is_name_byte c = is_ascii_alphanumeric c || (c == 95 || c == 45)

-- NAME: 1 to 64 such bytes
abbrev pub is_name : List ℕ → Bool
is_name bytes = nat_le 1 (length bytes) && (nat_le (length bytes) 64 && list_all is_name_byte bytes)

-- both numbers fit 32 bits; steps that fork are numbered from 1
abbrev pub is_branch : ℕ × ℕ → Bool
is_branch branch = nat_le 1 branch.0 && (nat_lt branch.0 (2 ^ 32) && nat_lt branch.1 (2 ^ 32))

-- what each name of a thread keeps
pub record IsThread (thread : Thread) : Type 0 where
  pub named : IsTrue (is_name thread.exec)
  pub depth : length thread.path ≤ 31
  pub branches : IsTrue (list_all is_branch thread.path)

-- what each name of a step keeps
pub record IsStep (thread : Thread) (no : ℕ) : Type 0 where
  pub thread_kept : IsThread thread
  pub number : no < 2 ^ 32

-- the execution's own thread
abbrev pub execution : List ℕ → Thread
execution exec = record { exec = exec; path = [] }

-- the branch of the fork that a step of the thread made
abbrev pub child_of : Thread → ℕ → ℕ → Thread
child_of thread fork branch = record { exec = thread.exec; path = thread.path ++ (fork, branch) ∷ [] }
