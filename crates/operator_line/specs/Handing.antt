-- Lines that are handed on one after another, and what each does to what stands before and after it.
use Rattle.std.specs.Prelude.{◌≡◌, ℕ, Bool, true, false, List, [], ◌∷◌, ◌++◌, Option, None, Some, Result, Ok, Err}
use Rattle.operator_line.specs.Lines.{kept_front}
use Rattle.operator_line.specs.Texts.{lines_after}
use Rattle.operator_line.specs.declared.serving.ServeFault.{ServeFault}

-- each of these lines does this, one after another
abbrev pub Runs : {X : Type 0} → (Option (List ℕ) → X → X → Type 0) → List (Option (List ℕ)) → X → X → Type 0
Runs {X} R [] old new = new ≡ old
Runs {X} R (line ∷ lines) old new = (between : X) × R line old between × Runs R lines between new

-- the lines before some that come later did
pub record RunsUntil {X : Type 0} (R : Option (List ℕ) → X → X → Type 0) (lines : List (Option (List ℕ))) (later : List (Option (List ℕ))) (old : X) (new : X) : Type 0 where
  pub front : List (Option (List ℕ))
  pub parted : lines ≡ front ++ later
  pub runs : Runs R front old new

-- the first so many of these lines did, and the others nothing
pub record RunsSome {X : Type 0} (R : Option (List ℕ) → X → X → Type 0) (lines : List (Option (List ℕ))) (old : X) (new : X) : Type 0 where
  pub later : List (Option (List ℕ))
  pub until : RunsUntil R lines later old new

-- each line did where serving ended well, and else the first so many
abbrev pub Hands : {X E : Type 0} → (Option (List ℕ) → X → X → Type 0) → Result Unit E → List (Option (List ℕ)) → X → X → Type 0
Hands R (Ok _) lines old new = Runs R lines old new
Hands R (Err e) lines old new = RunsSome R lines old new

-- ---- parts of an input, as serving answers them

-- the last line did, where there is one
abbrev pub HandsLast : {X : Type 0} → (Option (List ℕ) → X → X → Type 0) → Option (Option (List ℕ)) → X → X → Type 0
HandsLast R (Some line) old new = R line old new
HandsLast R None old new = new ≡ old

-- those did that end in a piece of the input, and the line at hand goes on with what stands behind them
abbrev pub HandsPiece : {X : Type 0} → (Option (List ℕ) → X → X → Type 0) → Result Unit ServeFault → List ℕ → List ℕ → Option (List ℕ) → X → X → Type 0
HandsPiece R (Ok _) front piece line old new =
    (tail : List ℕ) × (line ≡ kept_front tail) × ((more : List ℕ) → RunsUntil R (lines_after front (piece ++ more)) (lines_after tail more) old new)
HandsPiece R (Err e) front piece line old new = (more : List ℕ) → RunsSome R (lines_after front (piece ++ more)) old new

-- those did that end in what the reader gives
abbrev pub HandsRead : {X : Type 0} → (Option (List ℕ) → X → X → Type 0) → Result Bool ServeFault → List ℕ → List ℕ → Option (List ℕ) → Option (List ℕ) → X → X → Type 0
HandsRead R (Ok true) front text left line old new =
    (tail : List ℕ) × (rest : List ℕ) × (left ≡ Some rest) × (line ≡ kept_front tail) × RunsUntil R (lines_after front text) (lines_after tail rest) old new
HandsRead R (Ok false) front text left line old new = (text ≡ []) × (left ≡ Some []) × (line ≡ kept_front front) × (new ≡ old)
HandsRead R (Err e) front text left line old new = RunsSome R (lines_after front text) old new
