use Rattle.std.proofs.Common.{◌≡◌, ◌++◌, drop}
use Rattle.json_tree.specs.Data.{items_of, members_of}
use Rattle.json_tree.specs.Proper.{ItemsAreProper, MembersAreProper}
use Rattle.json_tree.specs.Tokens.{items_tokens, members_tokens}
use Rattle.json_tree.specs.View.{list_of, fields_of}
use Rattle.json_tree.proofs.writing.+write.Given as goal

-- what is left to write makes the whole
abbrev pub invariant-write_fields-loop-field : goal.invariant-write_fields-loop-field
invariant-write_fields-loop-field l =
    (l.out.before ≡ l.initial.out.before)
    × (l.out.tokens ++ members_tokens (members_of (fields_of (drop l.field-index l.field-items))) ≡ l.initial.out.tokens ++ members_tokens (members_of (fields_of l.field-items)))
    × (MembersAreProper (members_of (fields_of (drop l.field-index l.field-items))) → MembersAreProper (members_of (fields_of l.field-items)))

abbrev pub invariant-write_list-loop-item : goal.invariant-write_list-loop-item
invariant-write_list-loop-item l =
    (l.out.before ≡ l.initial.out.before)
    × (l.out.tokens ++ items_tokens (items_of (list_of (drop l.item-index l.item-items))) ≡ l.initial.out.tokens ++ items_tokens (items_of (list_of l.item-items)))
    × (ItemsAreProper (items_of (list_of (drop l.item-index l.item-items))) → ItemsAreProper (items_of (list_of l.item-items)))
