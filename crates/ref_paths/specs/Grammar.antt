-- Which texts are paths (a part of Amazon States Language's "Reference Paths"): `$`, and then `.name`, `['name']` and
-- `[n]` any number of times.
use Rattle.std.specs.Prelude.{◌≡◌, ◌≢◌, ℕ, ◌^◌, ◌<◌, ◌≤◌, ◌⊎◌, Bool, ◌||◌, not, List, [], ◌∷◌, ◌++◌, length, take, IsTrue, nat_le, ◌==◌}
use Rattle.std.specs.Char.{is_ascii_alphanumeric}
use Rattle.std.specs.Fmt.{decimal}
use Rattle.std.specs.List.{list_all}
use Rattle.ref_paths.specs.declared.path.PathStep.{PathStep}
use Rattle.ref_paths.specs.declared.path.PathStep.TheVariants.{Name, Index}

-- an ASCII letter or digit, `_`, `-`, or a byte of a character past ASCII
abbrev pub is_path_name_byte : ℕ → Bool
is_path_name_byte c = is_ascii_alphanumeric c || (c == 95 || (c == 45 || nat_le 128 c))

-- any byte but `'`
abbrev pub is_quotable : ℕ → Bool
is_quotable c = not (c == 39)

-- Either `.` and one or more such bytes, or `['`, any bytes but `'`, `']`. For an index `[`, the decimal numeral, which
-- has no leading zero, and `]`.
abbrev pub SpellsStep : PathStep → List ℕ → Type 0
SpellsStep (Name name) text =
    ((name ≢ []) × IsTrue (list_all is_path_name_byte name) × (text ≡ 46 ∷ name))
    ⊎ (IsTrue (list_all is_quotable name) × (text ≡ 91 ∷ 39 ∷ (name ++ 39 ∷ 93 ∷ [])))
SpellsStep (Index n) text = (n < 2 ^ 32) × (text ≡ 91 ∷ (decimal n ++ 93 ∷ []))

-- the steps, one after the other
abbrev pub SpellsSteps : List PathStep → List ℕ → Type 0
SpellsSteps [] text = text ≡ []
SpellsSteps (step ∷ path) text = (front : List ℕ) × (rest : List ℕ) × SpellsStep step front × SpellsSteps path rest × (text ≡ front ++ rest)

abbrev pub SpellsPath : List PathStep → List ℕ → Type 0
SpellsPath path text = (steps : List ℕ) × SpellsSteps path steps × (text ≡ 36 ∷ steps)

-- some path's text begins so
abbrev pub BeginsPath : List ℕ → Type 0
BeginsPath text = (more : List ℕ) × (path : List PathStep) × SpellsPath path (text ++ more)

-- The text is no path; its first n bytes begin some path, and no more of its bytes do.
pub record FailsAt (text : List ℕ) (n : ℕ) : Type 0 where
  pub no_path : (path : List PathStep) → SpellsPath path text → ⊥
  pub within : n ≤ length text
  pub begins : BeginsPath (take n text)
  pub longest : (k : ℕ) → n < k → k ≤ length text → BeginsPath (take k text) → ⊥
