-- What a function that writes a reply does.
use Rattle.std.specs.Prelude.{◌≡◌, ℕ, ◌+◌, ◌≤◌, List, ◌++◌, length, flat_map, Result, String, string_bytes, string_len, OnOk}
use Rattle.std.specs.String.{string_capacity}
use Rattle.std.specs.declared.alloc.Global.{Global}
use Rattle.std.specs.declared.alloc.AllocError.{AllocError}
use Rattle.reply_lines.specs.Replies.{with_feed}
use Rattle.reply_lines.specs.declared.lines.Lines.{Lines}
use Rattle.reply_lines.specs.declared.reply.Reply.{Reply}

-- where it succeeds, it adds this text
abbrev pub AppendsReply : {T : Type 0} → Result T AllocError → Reply → Reply → List ℕ → Type 0
AppendsReply result old new text = OnOk result (string_bytes new.text ≡ string_bytes old.text ++ text)

-- there is room for the line of one step
abbrev pub has_room_for_line : String Global → Type 0
has_room_for_line s = string_len s + 758 ≤ string_capacity s

-- and for so many bytes of lines, with their number before them
abbrev pub has_room_for_lines : String Global → ℕ → Type 0
has_room_for_lines s bytes = string_len s + bytes + 14 ≤ string_capacity s

-- these are the lines so far, and so many
pub record AreLines (lines : Lines) (texts : List (List ℕ)) : Type 0 where
  pub counted : lines.count ≡ length texts
  pub written : string_bytes lines.text ≡ flat_map with_feed texts
