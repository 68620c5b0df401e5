-- What a call does that writes lines: if it succeeds it adds this text.
use Rattle.std.specs.Prelude.{◌≡◌, ℕ, List, ◌++◌, Result, OnOk}
use Rattle.std.specs.declared.alloc.AllocError.{AllocError}
use Rattle.question_text.specs.declared.lines.Lines.{Lines}

abbrev pub WritesLines : {T : Type 0} → Result T AllocError → Lines → Lines → List ℕ → Type 0
WritesLines result old new text = OnOk result (new.bytes.items ≡ old.bytes.items ++ text)
