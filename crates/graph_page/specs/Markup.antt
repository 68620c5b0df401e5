-- What a call does that writes HTML: if it succeeds it adds this text.
use Rattle.std.specs.Prelude.{◌≡◌, ℕ, List, ◌++◌, Result, OnOk, codes}
use Rattle.std.specs.declared.alloc.AllocError.{AllocError}
use Rattle.graph_page.specs.declared.markup.Markup.{Markup}

abbrev pub AddsMarkup : {T : Type 0} → Result T AllocError → Markup → Markup → List ℕ → Type 0
AddsMarkup result old new text = OnOk result (new.bytes.items ≡ old.bytes.items ++ text)

-- what was there is there before what was added
pub record ExtendsText (old new : List ℕ) : Type 0 where
  pub text : List ℕ
  pub is_added : new ≡ old ++ text

-- if a call succeeds it only adds
abbrev pub GrowsText : {T : Type 0} → Result T AllocError → Markup → Markup → Type 0
GrowsText result old new = OnOk result (ExtendsText old.bytes.items new.bytes.items)

-- the text begins and ends as a page does
pub record IsWhole (text : List ℕ) : Type 0 where
  pub body : List ℕ
  pub whole : text ≡ codes "<!DOCTYPE html>\n<html lang=\"en\">\n" ++ (body ++ codes "</body>\n</html>\n")
