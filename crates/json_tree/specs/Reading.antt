-- What is read: the value that `serde_json` reads, where each of its numbers is whole.
use Rattle.std.specs.Prelude.{ℕ, List, Option, Some, None, Bool, true, false, option_map, option_and_then, if◌then◌else◌}
use Rattle.std.specs.Str.{is_utf8}
use Rattle.serde_json.specs.Data as source
use Rattle.serde_json.specs.Find.{as_i64}
use Rattle.serde_json.specs.Read as source_text
use Rattle.json_tree.specs.Data.{Data, null, boolean, whole, text, list, fields, Items, no_items, item, Members, no_members, member}

-- what `serde_json` reads of some bytes: nothing of what is not UTF-8
abbrev pub source_of : List ℕ → Option source.Data
source_of bytes = if is_utf8 bytes then source_text.read bytes else None

-- the value of the same shape, if each number is an integer of 64 bits with a sign
abbrev mutual
  pub whole_of : source.Data → Option Data
  whole_of source.null = Some null
  whole_of (source.boolean b) = Some (boolean b)
  whole_of (source.number n) = option_map whole (as_i64 n)
  whole_of (source.string s) = Some (text s)
  whole_of (source.array ds) = option_map list (whole_items ds)
  whole_of (source.object ms) = option_map fields (whole_members ms)

  pub whole_items : source.Items → Option Items
  whole_items source.no_items = Some no_items
  whole_items (source.item d ds) = option_and_then (λ e. option_map (item e) (whole_items ds)) (whole_of d)

  pub whole_members : source.Members → Option Members
  whole_members source.no_members = Some no_members
  whole_members (source.member k d ms) = option_and_then (λ e. option_map (member k e) (whole_members ms)) (whole_of d)

-- the value that bytes are read as, if any
abbrev pub read_json : List ℕ → Option Data
read_json bytes = option_and_then whole_of (source_of bytes)

-- whether a value is a text, a list or an object: to make another takes no memory
abbrev pub holds_memory : source.Data → Bool
holds_memory source.null = false
holds_memory (source.boolean b) = false
holds_memory (source.number n) = false
holds_memory (source.string s) = true
holds_memory (source.array ds) = true
holds_memory (source.object ms) = true
