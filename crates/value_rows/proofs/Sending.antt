-- What a worker may keep of a table: a call and a store of items.
use denote.Param.Send.{IsSend, sendable}
use Rattle.attr_values.proofs.key.Key.TheSendSync as s_attr_values_Key
use Rattle.attr_values.proofs.key.KeyAttribute.TheSendSync as s_attr_values_KeyAttribute
use Rattle.attr_values.proofs.key_part.KeyPart.TheSendSync as s_attr_values_KeyPart
use Rattle.attr_values.proofs.key.KeySchema.TheSendSync as s_attr_values_KeySchema
use Rattle.attr_values.proofs.key_part.KeyText.TheSendSync as s_attr_values_KeyText
use Rattle.attr_values.proofs.key.KeyType.TheSendSync as s_attr_values_KeyType
use Rattle.attr_values.proofs.number.Number.TheSendSync as s_attr_values_Number
use Rattle.attr_values.proofs.value.NumberSet.TheSendSync as s_attr_values_NumberSet
use Rattle.attr_values.proofs.value.TextSet.TheSendSync as s_attr_values_TextSet
use Rattle.item_store.below.indexmap.proofs.index_table.Bucket.TheSendSync as s_indexmap_Bucket
use Rattle.item_store.below.indexmap.proofs.columns.Columns.TheSendSync as s_indexmap_Columns
use Rattle.item_store.below.indexmap.proofs.index_table.group.Group.TheSendSync as s_indexmap_Group
use Rattle.item_store.below.indexmap.proofs.map.IndexMap.TheSendSync as s_indexmap_IndexMap
use Rattle.item_store.below.indexmap.proofs.index_table.IndexTable.TheSendSync as s_indexmap_IndexTable
use Rattle.item_store.proofs.access.AccessMode.TheSendSync as s_item_store_AccessMode
use Rattle.item_store.proofs.call.Condition.TheSendSync as s_item_store_Condition
use Rattle.item_store.proofs.call.ConditionKind.TheSendSync as s_item_store_ConditionKind
use Rattle.item_store.proofs.call.ReturnValues.TheSendSync as s_item_store_ReturnValues
use Rattle.item_store.proofs.slot.SlotNo.TheSendSync as s_item_store_SlotNo
use Rattle.item_store.proofs.call.Terms.TheSendSync as s_item_store_Terms
use Rattle.json_tree.proofs.short.Short.TheSendSync as s_json_tree_Short
use Rattle.json_tree.proofs.text.Text.TheSendSync as s_json_tree_Text
use Rattle.json_tree.proofs.text.TextBytes.TheSendSync as s_json_tree_TextBytes
use Rattle.json_tree.proofs.told.Told.TheSendSync as s_json_tree_Told
use Rattle.std.proofs.sync.Arc.TheSendSync as s_std_Arc
use Rattle.std.proofs.collections.BTreeMap.TheSendSync as s_std_BTreeMap
use Rattle.std.proofs.collections.BTreeSet.TheSendSync as s_std_BTreeSet
use Rattle.std.proofs.boxed.Box.TheSendSync as s_std_Box
use Rattle.std.proofs.hash.BuildHasherDefault.TheSendSync as s_std_BuildHasherDefault
use Rattle.std.proofs.hash.FoldHasher.TheSendSync as s_std_FoldHasher
use Rattle.std.proofs.alloc.Global.TheSendSync as s_std_Global
use Rattle.std.proofs.rt.Memory.TheSendSync as s_std_Memory
use Rattle.std.below.std_collections.proofs.btree.node.Node.TheSendSync as s_std_Node
use Rattle.std.proofs.option.Option.TheSendSync as s_std_Option
use Rattle.std.below.std_collections.proofs.btree.node.root.Root.TheSendSync as s_std_Root
use Rattle.std.proofs.string.String.TheSendSync as s_std_String
use Rattle.std.below.std_collections.proofs.btree.tree.Tree.TheSendSync as s_std_Tree
use Rattle.std.proofs.vec.Vec.TheSendSync as s_std_Vec
use Rattle.attr_values.proofs.value.ValueList.TheLaws.TheKnot as k_attr_values_ValueList
use Rattle.json_tree.proofs.tree.JsonFields.TheLaws.TheKnot as k_json_tree_JsonFields
use Rattle.std.proofs.Crossing
use Rattle.std.proofs.MapsCrossing
use Rattle.json_tree.specs.contracts.tree.JsonFields as json_fields
use Rattle.attr_values.specs.contracts.value.ValueMap as value_map
use Rattle.attr_values.specs.contracts.item.Item as item
use Rattle.item_store.specs.contracts.call.Request as request
use Rattle.item_store.specs.contracts.call.Call as call
use Rattle.item_store.specs.contracts.store.ItemStore as item_store

pub ruleset base = (s_attr_values_Key.the_field_send, s_attr_values_Key.the_send, s_attr_values_Key.the_field_sync, s_attr_values_Key.the_sync, s_attr_values_KeyAttribute.the_field_send, s_attr_values_KeyAttribute.the_send, s_attr_values_KeyAttribute.the_field_sync, s_attr_values_KeyAttribute.the_sync, s_attr_values_KeySchema.the_field_send, s_attr_values_KeySchema.the_send, s_attr_values_KeySchema.the_field_sync, s_attr_values_KeySchema.the_sync, s_attr_values_KeyType.the_field_send, s_attr_values_KeyType.the_send, s_attr_values_KeyType.the_field_sync, s_attr_values_KeyType.the_sync, s_attr_values_KeyPart.the_field_send, s_attr_values_KeyPart.the_send, s_attr_values_KeyPart.the_field_sync, s_attr_values_KeyPart.the_sync, s_attr_values_KeyText.the_send, s_attr_values_KeyText.the_sync, s_attr_values_Number.the_send, s_attr_values_Number.the_sync, s_attr_values_NumberSet.the_send, s_attr_values_NumberSet.the_sync, s_attr_values_TextSet.the_send, s_attr_values_TextSet.the_sync, s_std_FoldHasher.the_field_send, s_std_FoldHasher.the_send, s_std_FoldHasher.the_field_sync, s_std_FoldHasher.the_sync, s_std_Memory.the_field_send, s_std_Memory.the_send, s_std_Memory.the_field_sync, s_std_Memory.the_sync, s_indexmap_Bucket.the_field_send, s_indexmap_Bucket.the_send, s_indexmap_Bucket.the_field_sync, s_indexmap_Bucket.the_sync, s_indexmap_Group.the_field_send, s_indexmap_Group.the_send, s_indexmap_Group.the_field_sync, s_indexmap_Group.the_sync, s_item_store_AccessMode.the_field_send, s_item_store_AccessMode.the_send, s_item_store_AccessMode.the_field_sync, s_item_store_AccessMode.the_sync, s_item_store_Condition.the_field_send, s_item_store_Condition.the_send, s_item_store_Condition.the_field_sync, s_item_store_Condition.the_sync, s_item_store_ConditionKind.the_field_send, s_item_store_ConditionKind.the_send, s_item_store_ConditionKind.the_field_sync, s_item_store_ConditionKind.the_sync, s_item_store_ReturnValues.the_field_send, s_item_store_ReturnValues.the_send, s_item_store_ReturnValues.the_field_sync, s_item_store_ReturnValues.the_sync, s_item_store_Terms.the_field_send, s_item_store_Terms.the_send, s_item_store_Terms.the_field_sync, s_item_store_Terms.the_sync, s_item_store_SlotNo.the_field_send, s_item_store_SlotNo.the_send, s_item_store_SlotNo.the_field_sync, s_item_store_SlotNo.the_sync, s_json_tree_Short.the_send, s_json_tree_Short.the_sync, s_json_tree_Text.the_send, s_json_tree_Text.the_sync, s_json_tree_TextBytes.the_field_send, s_json_tree_TextBytes.the_send, s_json_tree_TextBytes.the_field_sync, s_json_tree_TextBytes.the_sync, s_json_tree_Told.the_field_send, s_json_tree_Told.the_send, s_json_tree_Told.the_field_sync, s_json_tree_Told.the_sync, s_std_Box.the_sync, s_std_Vec.the_sync, s_std_Node.the_sync, s_std_Global.the_field_send, s_std_Global.the_send, s_std_Global.the_field_sync, s_std_Global.the_sync, s_std_BuildHasherDefault.the_field_send, s_std_BuildHasherDefault.the_send, s_std_BuildHasherDefault.the_field_sync, s_std_BuildHasherDefault.the_sync, s_std_Option.the_field_send, s_std_Option.the_send, s_std_Option.the_field_sync, s_std_Option.the_sync, s_indexmap_Columns.the_send, s_indexmap_Columns.the_sync, s_indexmap_IndexTable.the_send, s_indexmap_IndexTable.the_sync, s_indexmap_IndexMap.the_send, s_indexmap_IndexMap.the_sync, s_std_Arc.the_send, s_std_Arc.the_sync, s_std_Box.the_send, s_std_String.the_field_send, s_std_String.the_send, s_std_String.the_field_sync, s_std_String.the_sync, s_std_Vec.the_send, s_std_Node.the_send, s_std_Root.the_field_send, s_std_Root.the_send, s_std_Root.the_field_sync, s_std_Root.the_sync, s_std_Tree.the_field_send, s_std_Tree.the_send, s_std_Tree.the_field_sync, s_std_Tree.the_sync, s_std_BTreeMap.the_send, s_std_BTreeMap.the_sync, s_std_BTreeSet.the_send, s_std_BTreeSet.the_sync, MapsCrossing.crosses, Crossing.crosses, sendable)

pub json_fields_send : IsSend json_fields.the_row
json_fields_send = search (k_json_tree_JsonFields.crosses, base) depth 60 fits 20000

pub value_map_send : IsSend value_map.the_row
value_map_send = search (k_attr_values_ValueList.crosses, base) depth 60 fits 20000

pub item_send : IsSend item.the_row
item_send = search (value_map_send, json_fields_send, base) depth 60 fits 20000

pub request_field_send : IsSend (request.the_field).row
request_field_send = search (item_send, base) depth 60 fits 20000

pub call_send : IsSend call.the_row
call_send = search (request_field_send, base) depth 60 fits 20000

pub item_store_send : IsSend item_store.the_row
item_store_send = search (item_send, base) depth 60 fits 20000
