-- What a call does that writes on a page: where it succeeds it adds this text.
use Rattle.std.specs.Prelude.{◌≡◌, ℕ, List, ◌++◌, Result, OnOk}
use Rattle.std.specs.declared.alloc.AllocError.{AllocError}
use Rattle.graph_text.specs.declared.page.Page.{Page}

abbrev pub WritesPage : {T : Type 0} → Result T AllocError → Page → Page → List ℕ → Type 0
WritesPage result old new text = OnOk result (new.bytes.items ≡ old.bytes.items ++ text)

-- the text that is on a page
abbrev pub text_on : Page → List ℕ
text_on page = page.bytes.items
