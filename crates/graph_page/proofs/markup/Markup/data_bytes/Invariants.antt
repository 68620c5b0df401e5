use Rattle.std.proofs.Common.{◌≡◌, ◌++◌, take}
use Rattle.graph_page.specs.Quoting.{data_text}
use Rattle.graph_page.proofs.markup.Markup.data_bytes.Given as goal

-- the bytes so far are quoted behind what was there
abbrev pub invariant-loop-byte : goal.invariant-loop-byte
invariant-loop-byte l = l.self.bytes.items ≡ l.initial.self.bytes.items ++ data_text (take l.byte-index l.text)
