-- What the fields say that only some states have.
use Rattle.std.specs.Prelude.{ℕ, suc, nat_le, List, [], ◌∷◌, Bool, true, false, Option, Some, None, is_some, option_map, option_and_then, if◌then◌else◌, codes}
use Rattle.serde_json.specs.Data as source
use Rattle.serde_json.specs.Find.{get, as_str, as_bool, as_number, as_u64, as_object}
use Rattle.json_tree.specs.Data.{Data, null, boolean, whole, text, list, fields, Items, no_items, item, Members, no_members, member}
use Rattle.json_tree.specs.Reading.{whole_of}
use Rattle.json_tree.specs.declared.tree.Json.{Json}
use Rattle.json_tree.specs.declared.tree.Json.TheVariants.{Null, Bool as Boolean, Whole, Text, List as ListOf, Fields}
use Rattle.asl_fields.specs.Fields.{is_text}
use Rattle.asl_fields.specs.declared.fault.MachineFault.{MachineFault}
use Rattle.asl_fields.specs.declared.fault.MachineFault.TheVariants.{Unsupported, BadField}
use Rattle.asl_states.specs.declared.state.Resource.{Resource}
use Rattle.asl_states.specs.declared.state.Resource.TheVariants.{GetItem, PutItem, DeleteItem}
use Rattle.asl_states.specs.declared.state.Transition.{Transition}
use Rattle.asl_states.specs.declared.state.Transition.TheVariants.{Next, End}

-- a fork has at most this many branches
abbrev pub most_branches : ℕ
most_branches = 4096

-- ---- a value whose numbers are whole

abbrev pub item_list : Items → List Data
item_list no_items = []
item_list (item d ds) = d ∷ item_list ds

abbrev pub members_in : Members → List (List ℕ × Data)
members_in no_members = []
members_in (member k d ms) = (k, d) ∷ members_in ms

abbrev pub json_of : Data → Json
json_of null = Null
json_of (boolean b) = Boolean b
json_of (whole z) = Whole z
json_of (text s) = Text s
json_of (list ds) = ListOf (item_list ds)
json_of (fields ms) = Fields (members_in ms)

-- the value of the same shape, if each of its numbers is whole
abbrev pub whole_json : source.Data → Option Json
whole_json d = option_map json_of (whole_of d)

-- ---- a state

-- whether `End: true` stands; an `End` that is absent is `End: false`, and one that is no Boolean has no meaning
abbrev pub end_of_state : Option source.Data → Option Bool
end_of_state None = Some false
end_of_state (Some d) = as_bool d

-- exactly one of `End: true` and `Next` stands, and `Next` is a text ("Transitions")
abbrev pub goes_to : Option Bool → Option source.Data → Option Transition
goes_to None next = None
goes_to (Some true) None = Some End
goes_to (Some true) (Some next) = None
goes_to (Some false) None = None
goes_to (Some false) (Some next) = option_map Next (as_str next)

abbrev pub transition_of : source.Data → Option Transition
transition_of d = goes_to (end_of_state (get (codes "End") d)) (get (codes "Next") d)

-- a `Result` that is absent is none, and one that stands has whole numbers ("Pass State")
abbrev pub result_of : Option source.Data → Option (Option Json)
result_of None = Some None
result_of (Some d) = option_map Some (whole_json d)

-- the name of a state where a Choice goes by default, if it says so
abbrev pub default_of : Option source.Data → Option (Option (List ℕ))
default_of None = Some None
default_of (Some d) = option_map Some (as_str d)

-- the call that a resource is ("Task State")
abbrev pub resource_named : List ℕ → Option Resource
resource_named name =
    if is_text name (codes "arn:aws:states:::dynamodb:getItem") then Some GetItem
    else (if is_text name (codes "arn:aws:states:::dynamodb:putItem") then Some PutItem
    else (if is_text name (codes "arn:aws:states:::dynamodb:deleteItem") then Some DeleteItem
    else None))

abbrev pub resource_of : Option source.Data → Option Resource
resource_of d = option_and_then resource_named (option_and_then as_str d)

-- ---- a Map

-- the name of the field that stands, of a name and an older one of the same meaning; none where both stand, and the newer
-- where neither does
abbrev pub name_of_two : List ℕ → List ℕ → source.Data → Option (List ℕ)
name_of_two newer older d = if is_some (get older d) then (if is_some (get newer d) then None else Some older) else Some newer

abbrev pub mode_named_fault : Option (List ℕ) → Option MachineFault
mode_named_fault None = Some (BadField (codes "Mode"))
mode_named_fault (Some mode) =
    if is_text mode (codes "INLINE") then None
    else (if is_text mode (codes "DISTRIBUTED") then Some (Unsupported (codes "Mode")) else Some (BadField (codes "Mode")))

abbrev pub mode_fault : Option source.Data → Option MachineFault
mode_fault None = None
mode_fault (Some d) = mode_named_fault (as_str d)

abbrev pub config_object_fault : source.Data → Option source.Members → Option MachineFault
config_object_fault d None = Some (BadField (codes "ProcessorConfig"))
config_object_fault d (Some ms) = mode_fault (get (codes "Mode") d)

-- a processor runs inline, whether or not its `ProcessorConfig` says so
abbrev pub config_fault : Option source.Data → Option MachineFault
config_fault None = None
config_fault (Some d) = config_object_fault d (as_object d)

-- a bound of the branches that run at a time has 32 bits
abbrev pub bound_within : ℕ → Option ℕ
bound_within n = if nat_le n 4294967295 then Some n else None

-- how many branches of a Map may run at a time; 0, as where nothing is said, is no bound ("Map State")
abbrev pub concurrency_of : Option source.Data → Option ℕ
concurrency_of None = Some 0
concurrency_of (Some d) = option_and_then bound_within (option_and_then as_u64 (as_number d))

abbrev pub bound_fault : Option ℕ → Option MachineFault
bound_fault None = Some (BadField (codes "MaxConcurrency"))
bound_fault (Some n) = None

abbrev pub concurrency_fault : Option source.Data → Option MachineFault
concurrency_fault d = bound_fault (concurrency_of d)

abbrev pub count_items : source.Items → ℕ
count_items source.no_items = 0
count_items (source.item d ds) = suc (count_items ds)
