-- What may come next in a path's steps, byte by byte, and what one step's text says to the reader of all.
use Rattle.std.specs.Prelude.{◌≡◌, ℕ, ◌+◌, ◌-◌, ◌*◌, ◌^◌, ◌<◌, ◌≤◌, Bool, true, false, List, [], ◌∷◌, ◌++◌, length, take, nat_lt, ◌==◌, if◌then◌else◌, Option, None, Some}
use Rattle.std.specs.Char.{is_ascii_digit}
use Rattle.std.specs.Fmt.{decimal}
use Rattle.std.specs.Option.{option_map, option_and_then}
use Rattle.ref_paths.specs.Grammar.{is_path_name_byte, SpellsStep, SpellsSteps}
use Rattle.ref_paths.specs.declared.path.PathStep.{PathStep}

pub data ScanPlace : Type 0 where
  between : ScanPlace
  dotted : ScanPlace
  in_name : ScanPlace
  bracketed : ScanPlace
  quoted : ScanPlace
  closing : ScanPlace
  indexed : ℕ → ScanPlace

-- an index with one digit more, where it has no leading zero and fits 32 bits
abbrev pub with_digit : Option ℕ → ℕ → Option ℕ
with_digit None d = Some d
with_digit (Some n) d = if n == 0 then None else (if nat_lt (n * 10 + d) (2 ^ 32) then Some (n * 10 + d) else None)

abbrev pub extended : Option ℕ → ℕ → Option ℕ
extended index c = if is_ascii_digit c then with_digit index (c - 48) else None

abbrev pub place_begun_by : ℕ → Option ScanPlace
place_begun_by c = if c == 46 then Some dotted else (if c == 91 then Some bracketed else None)

-- the place after one byte more, where some path goes on so
abbrev pub after : ℕ → ScanPlace → Option ScanPlace
after c between = place_begun_by c
after c dotted = if is_path_name_byte c then Some in_name else None
after c in_name = if is_path_name_byte c then Some in_name else place_begun_by c
after c bracketed = if c == 39 then Some quoted else option_map indexed (extended None c)
after c quoted = if c == 39 then Some closing else Some quoted
after c closing = if c == 93 then Some between else None
after c (indexed n) = if c == 93 then Some between else option_map indexed (extended (Some n) c)

abbrev pub scan : List ℕ → Option ScanPlace → Option ScanPlace
scan [] p = p
scan (c ∷ cs) p = scan cs (option_and_then (after c) p)

-- a path may end here
abbrev pub is_end : Option ScanPlace → Bool
is_end None = false
is_end (Some between) = true
is_end (Some in_name) = true
is_end (Some _) = false

-- what is read of the rest doesn't hang on what was read before it
abbrev pub ScanGoesOn : List ℕ → List ℕ → Type 0
ScanGoesOn front rest = (k : ℕ) → 0 < k → k ≤ length rest → scan (front ++ take k rest) (Some between) ≡ scan (take k rest) (Some between)

-- the text is one step's, and then the rest
pub record ReadsStep (text : List ℕ) (step : PathStep) (rest : List ℕ) : Type 0 where
  pub front : List ℕ
  pub joined : text ≡ front ++ rest
  pub spelled : SpellsStep step front
  pub goes_on : ScanGoesOn front rest
  pub shorter : length rest < length text

-- the first n bytes begin some steps, and no more do
pub record StopsAt (text : List ℕ) (n : ℕ) : Type 0 where
  pub within : n ≤ length text
  pub more : List ℕ
  pub path : List PathStep
  pub begins : SpellsSteps path (take n text ++ more)
  pub longest : (k : ℕ) → n < k → k ≤ length text → scan (take k text) (Some between) ≡ None
  pub no_end : is_end (scan text (Some between)) ≡ false

-- the digits are those of an index so far, and there are none yet where there is no index
abbrev pub IsIndexSoFar : Option ℕ → List ℕ → Type 0
IsIndexSoFar None digits = digits ≡ []
IsIndexSoFar (Some n) digits = (digits ≡ decimal n) × (n < 2 ^ 32)
