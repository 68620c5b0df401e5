-- What threads may send to each other and share.
use denote.Param.Send.{IsSend, IsSync, sendable}
use Rattle.asl_states.proofs.choice.Comparison.TheSendSync as s_asl_states_Comparison
use Rattle.asl_states.proofs.choice.InnerTest.TheLaws.TheKnot as k_asl_states_InnerTest
use Rattle.asl_states.proofs.choice.Relation.TheSendSync as s_asl_states_Relation
use Rattle.asl_errors.proofs.errors.Catcher.TheSendSync as s_asl_errors_Catcher
use Rattle.asl_errors.proofs.errors.Catchers.TheSendSync as s_asl_errors_Catchers
use Rattle.asl_errors.proofs.errors.ErrorHandling.TheSendSync as s_asl_errors_ErrorHandling
use Rattle.asl_errors.proofs.errors.ErrorNames.TheSendSync as s_asl_errors_ErrorNames
use Rattle.asl_errors.proofs.errors.Retrier.TheSendSync as s_asl_errors_Retrier
use Rattle.asl_errors.proofs.errors.Retriers.TheSendSync as s_asl_errors_Retriers
use Rattle.asl_frames.proofs.frame.Fault.TheSendSync as s_asl_frames_Fault
use Rattle.asl_frames.proofs.frame.Origin.TheSendSync as s_asl_frames_Origin
use Rattle.asl_frames.proofs.frame.Retries.TheSendSync as s_asl_frames_Retries
use Rattle.asl_states.proofs.state.Fail.TheSendSync as s_asl_states_Fail
use Rattle.asl_states.proofs.state.Resource.TheSendSync as s_asl_states_Resource
use Rattle.asl_states.proofs.state.Transition.TheSendSync as s_asl_states_Transition
use Rattle.asl_tree.proofs.level.Level.TheSendSync as s_asl_tree_Level
use Rattle.asl_tree.proofs.level.LevelPath.TheSendSync as s_asl_tree_LevelPath
use Rattle.asl_tree.proofs.level.LevelStep.TheSendSync as s_asl_tree_LevelStep
use Rattle.asl_tree.proofs.state.Branches.TheLaws.TheKnot as k_asl_tree_Branches
use Rattle.attr_values.proofs.key.Key.TheSendSync as s_attr_values_Key
use Rattle.attr_values.proofs.key.KeyAttribute.TheSendSync as s_attr_values_KeyAttribute
use Rattle.attr_values.proofs.key.KeySchema.TheSendSync as s_attr_values_KeySchema
use Rattle.attr_values.proofs.key.KeyType.TheSendSync as s_attr_values_KeyType
use Rattle.attr_values.proofs.key_part.KeyPart.TheSendSync as s_attr_values_KeyPart
use Rattle.attr_values.proofs.key_part.KeyText.TheSendSync as s_attr_values_KeyText
use Rattle.attr_values.proofs.number.Number.TheSendSync as s_attr_values_Number
use Rattle.attr_values.proofs.value.NumberSet.TheSendSync as s_attr_values_NumberSet
use Rattle.attr_values.proofs.value.TextSet.TheSendSync as s_attr_values_TextSet
use Rattle.attr_values.proofs.value.ValueList.TheLaws.TheKnot as k_attr_values_ValueList
use Rattle.book_log.below.indexmap.proofs.columns.Columns.TheSendSync as s_book_log_Columns
use Rattle.book_log.below.indexmap.proofs.index_table.Bucket.TheSendSync as s_book_log_Bucket
use Rattle.book_log.below.indexmap.proofs.index_table.IndexTable.TheSendSync as s_book_log_IndexTable
use Rattle.book_log.below.indexmap.proofs.index_table.group.Group.TheSendSync as s_book_log_Group
use Rattle.book_log.below.indexmap.proofs.map.IndexMap.TheSendSync as s_book_log_IndexMap
use Rattle.book_log.proofs.step_names_list.StepNames.TheSendSync as s_book_log_StepNames
use Rattle.branch_tree.proofs.counts.Counts.TheSendSync as s_branch_tree_Counts
use Rattle.item_store.proofs.access.AccessMode.TheSendSync as s_item_store_AccessMode
use Rattle.item_store.proofs.call.Condition.TheSendSync as s_item_store_Condition
use Rattle.item_store.proofs.call.ConditionKind.TheSendSync as s_item_store_ConditionKind
use Rattle.item_store.proofs.call.ReturnValues.TheSendSync as s_item_store_ReturnValues
use Rattle.item_store.proofs.call.Terms.TheSendSync as s_item_store_Terms
use Rattle.item_store.proofs.slot.SlotNo.TheSendSync as s_item_store_SlotNo
use Rattle.json_tree.proofs.short.Short.TheSendSync as s_json_tree_Short
use Rattle.json_tree.proofs.text.Text.TheSendSync as s_json_tree_Text
use Rattle.json_tree.proofs.text.TextBytes.TheSendSync as s_json_tree_TextBytes
use Rattle.json_tree.proofs.told.Told.TheSendSync as s_json_tree_Told
use Rattle.json_tree.proofs.tree.JsonFields.TheLaws.TheKnot as k_json_tree_JsonFields
use Rattle.ref_paths.proofs.path.PathStep.TheSendSync as s_ref_paths_PathStep
use Rattle.ref_paths.proofs.path.RefPath.TheSendSync as s_ref_paths_RefPath
use Rattle.ref_paths.proofs.template.NodeFields.TheLaws.TheKnot as k_ref_paths_NodeFields
use Rattle.saved_steps.proofs.fact.Access.TheSendSync as s_saved_steps_Access
use Rattle.saved_steps.proofs.fact.Fact.TheSendSync as s_saved_steps_Fact
use Rattle.saved_steps.proofs.fact.Kind.TheSendSync as s_saved_steps_Kind
use Rattle.std.below.std_collections.proofs.btree.node.Node.TheSendSync as s_std_Node
use Rattle.std.below.std_collections.proofs.btree.node.root.Root.TheSendSync as s_std_Root
use Rattle.std.below.std_collections.proofs.btree.tree.Tree.TheSendSync as s_std_Tree
use Rattle.std.proofs.Crossing
use Rattle.std.proofs.MapsCrossing
use Rattle.std.proofs.alloc.Global.TheSendSync as s_std_Global
use Rattle.std.proofs.boxed.Box.TheSendSync as s_std_Box
use Rattle.std.proofs.collections.BTreeMap.TheSendSync as s_std_BTreeMap
use Rattle.std.proofs.collections.BTreeSet.TheSendSync as s_std_BTreeSet
use Rattle.std.proofs.hash.BuildHasherDefault.TheSendSync as s_std_BuildHasherDefault
use Rattle.std.proofs.hash.FoldHasher.TheSendSync as s_std_FoldHasher
use Rattle.std.proofs.option.Option.TheSendSync as s_std_Option
use Rattle.std.proofs.rt.Memory.TheSendSync as s_std_Memory
use Rattle.std.proofs.string.String.TheSendSync as s_std_String
use Rattle.std.proofs.sync.Arc.TheSendSync as s_std_Arc
use Rattle.std.proofs.vec.Vec.TheSendSync as s_std_Vec
use Rattle.step_names.proofs.exec_name.ExecBytes.TheSendSync as s_step_names_ExecBytes
use Rattle.step_names.proofs.exec_name.ExecName.TheSendSync as s_step_names_ExecName
use Rattle.step_names.proofs.step.StepName.TheSendSync as s_step_names_StepName
use Rattle.step_names.proofs.thread.ThreadName.TheSendSync as s_step_names_ThreadName
use Rattle.json_tree.specs.contracts.tree.Json as json
use Rattle.json_tree.specs.contracts.tree.JsonFields as json_fields
use Rattle.json_tree.specs.contracts.tree.JsonList as json_list
use Rattle.ref_paths.specs.contracts.template.Node as node
use Rattle.ref_paths.specs.contracts.template.Template as template
use Rattle.asl_states.specs.contracts.state.Processing as processing
use Rattle.asl_states.specs.contracts.state.Pass as pass
use Rattle.asl_states.specs.contracts.state.Task as task
use Rattle.asl_states.specs.contracts.state.Succeed as succeed
use Rattle.asl_states.specs.contracts.state.Fail as fail
use Rattle.asl_states.specs.contracts.state.Choice as choice
use Rattle.asl_states.specs.contracts.state.Wait as wait
use Rattle.asl_states.specs.contracts.error_handling.ErrorHandling as error_handling
use Rattle.asl_tree.specs.contracts.state.Machine as machine
use Rattle.asl_tree.specs.contracts.shared.SharedMachine as shared_machine
use Rattle.asl_frames.specs.contracts.frame.Phase as phase
use Rattle.asl_frames.specs.contracts.frame.Frame as frame
use Rattle.attr_values.specs.contracts.value.ValueMap as value_map
use Rattle.attr_values.specs.contracts.item.Item as item
use Rattle.item_store.specs.contracts.call.Request as request
use Rattle.item_store.specs.contracts.call.Call as call
use Rattle.asl_forward.specs.contracts.frames.Frames as frames
use Rattle.asl_forward.specs.contracts.prepared.Outcome as outcome
use Rattle.asl_forward.specs.contracts.prepared.Prepared as prepared
use Rattle.book_log.specs.contracts.entry.Entry as entry
use Rattle.book_events.specs.contracts.ticket.Ticket as ticket
use Rattle.shared_book.specs.contracts.receipt.Receipt as receipt
use Rattle.shared_book.specs.contracts.refusal.SharedRefusal as refusal

pub ruleset base = (s_asl_states_Comparison.the_field_send, s_asl_states_Comparison.the_send, s_asl_states_Comparison.the_field_sync, s_asl_states_Comparison.the_sync, s_asl_states_Relation.the_field_send, s_asl_states_Relation.the_send, s_asl_states_Relation.the_field_sync, s_asl_states_Relation.the_sync, s_asl_errors_Catcher.the_field_send, s_asl_errors_Catcher.the_send, s_asl_errors_Catcher.the_field_sync, s_asl_errors_Catcher.the_sync, s_asl_errors_Catchers.the_send, s_asl_errors_Catchers.the_sync, s_asl_errors_ErrorHandling.the_field_send, s_asl_errors_ErrorHandling.the_send, s_asl_errors_ErrorHandling.the_field_sync, s_asl_errors_ErrorHandling.the_sync, s_asl_errors_ErrorNames.the_send, s_asl_errors_ErrorNames.the_sync, s_asl_errors_Retrier.the_field_send, s_asl_errors_Retrier.the_send, s_asl_errors_Retrier.the_field_sync, s_asl_errors_Retrier.the_sync, s_asl_errors_Retriers.the_send, s_asl_errors_Retriers.the_sync, s_asl_frames_Fault.the_field_send, s_asl_frames_Fault.the_send, s_asl_frames_Fault.the_field_sync, s_asl_frames_Fault.the_sync, s_asl_frames_Origin.the_field_send, s_asl_frames_Origin.the_send, s_asl_frames_Origin.the_field_sync, s_asl_frames_Origin.the_sync, s_asl_frames_Retries.the_send, s_asl_frames_Retries.the_sync, s_asl_states_Fail.the_field_send, s_asl_states_Fail.the_send, s_asl_states_Fail.the_field_sync, s_asl_states_Fail.the_sync, s_asl_states_Resource.the_field_send, s_asl_states_Resource.the_send, s_asl_states_Resource.the_field_sync, s_asl_states_Resource.the_sync, s_asl_states_Transition.the_field_send, s_asl_states_Transition.the_send, s_asl_states_Transition.the_field_sync, s_asl_states_Transition.the_sync, s_asl_tree_Level.the_field_send, s_asl_tree_Level.the_send, s_asl_tree_Level.the_field_sync, s_asl_tree_Level.the_sync, s_asl_tree_LevelPath.the_send, s_asl_tree_LevelPath.the_sync, s_asl_tree_LevelStep.the_field_send, s_asl_tree_LevelStep.the_send, s_asl_tree_LevelStep.the_field_sync, s_asl_tree_LevelStep.the_sync, s_attr_values_Key.the_field_send, s_attr_values_Key.the_send, s_attr_values_Key.the_field_sync, s_attr_values_Key.the_sync, s_attr_values_KeyAttribute.the_field_send, s_attr_values_KeyAttribute.the_send, s_attr_values_KeyAttribute.the_field_sync, s_attr_values_KeyAttribute.the_sync, s_attr_values_KeySchema.the_field_send, s_attr_values_KeySchema.the_send, s_attr_values_KeySchema.the_field_sync, s_attr_values_KeySchema.the_sync, s_attr_values_KeyType.the_field_send, s_attr_values_KeyType.the_send, s_attr_values_KeyType.the_field_sync, s_attr_values_KeyType.the_sync, s_attr_values_KeyPart.the_field_send, s_attr_values_KeyPart.the_send, s_attr_values_KeyPart.the_field_sync, s_attr_values_KeyPart.the_sync, s_attr_values_KeyText.the_send, s_attr_values_KeyText.the_sync, s_attr_values_Number.the_send, s_attr_values_Number.the_sync, s_attr_values_NumberSet.the_send, s_attr_values_NumberSet.the_sync, s_attr_values_TextSet.the_send, s_attr_values_TextSet.the_sync, s_book_log_StepNames.the_send, s_book_log_StepNames.the_sync, s_branch_tree_Counts.the_field_send, s_branch_tree_Counts.the_send, s_branch_tree_Counts.the_field_sync, s_branch_tree_Counts.the_sync, s_std_FoldHasher.the_field_send, s_std_FoldHasher.the_send, s_std_FoldHasher.the_field_sync, s_std_FoldHasher.the_sync, s_std_Memory.the_field_send, s_std_Memory.the_send, s_std_Memory.the_field_sync, s_std_Memory.the_sync, s_book_log_Bucket.the_field_send, s_book_log_Bucket.the_send, s_book_log_Bucket.the_field_sync, s_book_log_Bucket.the_sync, s_book_log_Group.the_field_send, s_book_log_Group.the_send, s_book_log_Group.the_field_sync, s_book_log_Group.the_sync, s_item_store_AccessMode.the_field_send, s_item_store_AccessMode.the_send, s_item_store_AccessMode.the_field_sync, s_item_store_AccessMode.the_sync, s_item_store_Condition.the_field_send, s_item_store_Condition.the_send, s_item_store_Condition.the_field_sync, s_item_store_Condition.the_sync, s_item_store_ConditionKind.the_field_send, s_item_store_ConditionKind.the_send, s_item_store_ConditionKind.the_field_sync, s_item_store_ConditionKind.the_sync, s_item_store_ReturnValues.the_field_send, s_item_store_ReturnValues.the_send, s_item_store_ReturnValues.the_field_sync, s_item_store_ReturnValues.the_sync, s_item_store_Terms.the_field_send, s_item_store_Terms.the_send, s_item_store_Terms.the_field_sync, s_item_store_Terms.the_sync, s_item_store_SlotNo.the_field_send, s_item_store_SlotNo.the_send, s_item_store_SlotNo.the_field_sync, s_item_store_SlotNo.the_sync, s_json_tree_Short.the_send, s_json_tree_Short.the_sync, s_json_tree_Text.the_send, s_json_tree_Text.the_sync, s_json_tree_TextBytes.the_field_send, s_json_tree_TextBytes.the_send, s_json_tree_TextBytes.the_field_sync, s_json_tree_TextBytes.the_sync, s_json_tree_Told.the_field_send, s_json_tree_Told.the_send, s_json_tree_Told.the_field_sync, s_json_tree_Told.the_sync, s_ref_paths_PathStep.the_field_send, s_ref_paths_PathStep.the_send, s_ref_paths_PathStep.the_field_sync, s_ref_paths_PathStep.the_sync, s_ref_paths_RefPath.the_send, s_ref_paths_RefPath.the_sync, s_saved_steps_Access.the_field_send, s_saved_steps_Access.the_send, s_saved_steps_Access.the_field_sync, s_saved_steps_Access.the_sync, s_saved_steps_Fact.the_field_send, s_saved_steps_Fact.the_send, s_saved_steps_Fact.the_field_sync, s_saved_steps_Fact.the_sync, s_saved_steps_Kind.the_field_send, s_saved_steps_Kind.the_send, s_saved_steps_Kind.the_field_sync, s_saved_steps_Kind.the_sync, s_std_Box.the_sync, s_std_Vec.the_sync, s_std_Node.the_sync, s_std_Global.the_field_send, s_std_Global.the_send, s_std_Global.the_field_sync, s_std_Global.the_sync, s_step_names_ExecBytes.the_field_send, s_step_names_ExecBytes.the_send, s_step_names_ExecBytes.the_field_sync, s_step_names_ExecBytes.the_sync, s_step_names_ExecName.the_send, s_step_names_ExecName.the_sync, s_step_names_StepName.the_field_send, s_step_names_StepName.the_send, s_step_names_StepName.the_field_sync, s_step_names_StepName.the_sync, s_step_names_ThreadName.the_send, s_step_names_ThreadName.the_sync, s_std_BuildHasherDefault.the_field_send, s_std_BuildHasherDefault.the_send, s_std_BuildHasherDefault.the_field_sync, s_std_BuildHasherDefault.the_sync, s_std_Option.the_field_send, s_std_Option.the_send, s_std_Option.the_field_sync, s_std_Option.the_sync, s_book_log_Columns.the_send, s_book_log_Columns.the_sync, s_book_log_IndexTable.the_send, s_book_log_IndexTable.the_sync, s_book_log_IndexMap.the_send, s_book_log_IndexMap.the_sync, s_std_Arc.the_send, s_std_Arc.the_sync, s_std_Box.the_send, s_std_String.the_field_send, s_std_String.the_send, s_std_String.the_field_sync, s_std_String.the_sync, s_std_Vec.the_send, s_std_Node.the_send, s_std_Root.the_field_send, s_std_Root.the_send, s_std_Root.the_field_sync, s_std_Root.the_sync, s_std_Tree.the_field_send, s_std_Tree.the_send, s_std_Tree.the_field_sync, s_std_Tree.the_sync, s_std_BTreeMap.the_send, s_std_BTreeMap.the_sync, s_std_BTreeSet.the_send, s_std_BTreeSet.the_sync, MapsCrossing.crosses, Crossing.crosses, sendable)

pub json_field_send : IsSend (json.the_field).row
json_field_send = search (k_json_tree_JsonFields.crosses, base) depth 60 fits 20000

pub json_send : IsSend json.the_row
json_send = search (k_json_tree_JsonFields.crosses, base) depth 60 fits 20000

pub json_field_sync : IsSync (json.the_field).row
json_field_sync = search (k_json_tree_JsonFields.crosses, base) depth 60 fits 20000

pub json_sync : IsSync json.the_row
json_sync = search (k_json_tree_JsonFields.crosses, base) depth 60 fits 20000

pub json_fields_field_send : IsSend (json_fields.the_field).row
json_fields_field_send = search (k_json_tree_JsonFields.crosses, base) depth 60 fits 20000

pub json_fields_send : IsSend json_fields.the_row
json_fields_send = search (k_json_tree_JsonFields.crosses, base) depth 60 fits 20000

pub json_fields_field_sync : IsSync (json_fields.the_field).row
json_fields_field_sync = search (k_json_tree_JsonFields.crosses, base) depth 60 fits 20000

pub json_fields_sync : IsSync json_fields.the_row
json_fields_sync = search (k_json_tree_JsonFields.crosses, base) depth 60 fits 20000

pub json_list_field_send : IsSend (json_list.the_field).row
json_list_field_send = search (k_json_tree_JsonFields.crosses, base) depth 60 fits 20000

pub json_list_send : IsSend json_list.the_row
json_list_send = search (k_json_tree_JsonFields.crosses, base) depth 60 fits 20000

pub json_list_field_sync : IsSync (json_list.the_field).row
json_list_field_sync = search (k_json_tree_JsonFields.crosses, base) depth 60 fits 20000

pub json_list_sync : IsSync json_list.the_row
json_list_sync = search (k_json_tree_JsonFields.crosses, base) depth 60 fits 20000

pub node_field_send : IsSend (node.the_field).row
node_field_send = search (json_send, json_sync, json_field_send, json_field_sync, k_ref_paths_NodeFields.crosses, base) depth 60 fits 20000

pub node_send : IsSend node.the_row
node_send = search (json_send, json_sync, json_field_send, json_field_sync, k_ref_paths_NodeFields.crosses, base) depth 60 fits 20000

pub node_field_sync : IsSync (node.the_field).row
node_field_sync = search (json_send, json_sync, json_field_send, json_field_sync, k_ref_paths_NodeFields.crosses, base) depth 60 fits 20000

pub node_sync : IsSync node.the_row
node_sync = search (json_send, json_sync, json_field_send, json_field_sync, k_ref_paths_NodeFields.crosses, base) depth 60 fits 20000

pub template_field_send : IsSend (template.the_field).row
template_field_send = search (node_send, node_sync, node_field_send, node_field_sync, base) depth 60 fits 20000

pub template_send : IsSend template.the_row
template_send = search (node_send, node_sync, node_field_send, node_field_sync, base) depth 60 fits 20000

pub template_field_sync : IsSync (template.the_field).row
template_field_sync = search (node_send, node_sync, node_field_send, node_field_sync, base) depth 60 fits 20000

pub template_sync : IsSync template.the_row
template_sync = search (node_send, node_sync, node_field_send, node_field_sync, base) depth 60 fits 20000

pub processing_field_send : IsSend (processing.the_field).row
processing_field_send = search (template_send, template_sync, template_field_send, template_field_sync, base) depth 60 fits 20000

pub processing_send : IsSend processing.the_row
processing_send = search (template_send, template_sync, template_field_send, template_field_sync, base) depth 60 fits 20000

pub processing_field_sync : IsSync (processing.the_field).row
processing_field_sync = search (template_send, template_sync, template_field_send, template_field_sync, base) depth 60 fits 20000

pub processing_sync : IsSync processing.the_row
processing_sync = search (template_send, template_sync, template_field_send, template_field_sync, base) depth 60 fits 20000

pub pass_field_send : IsSend (pass.the_field).row
pass_field_send = search (processing_send, processing_sync, json_send, json_sync, processing_field_send, processing_field_sync, json_field_send, json_field_sync, base) depth 60 fits 20000

pub pass_send : IsSend pass.the_row
pass_send = search (processing_send, processing_sync, json_send, json_sync, processing_field_send, processing_field_sync, json_field_send, json_field_sync, base) depth 60 fits 20000

pub pass_field_sync : IsSync (pass.the_field).row
pass_field_sync = search (processing_send, processing_sync, json_send, json_sync, processing_field_send, processing_field_sync, json_field_send, json_field_sync, base) depth 60 fits 20000

pub pass_sync : IsSync pass.the_row
pass_sync = search (processing_send, processing_sync, json_send, json_sync, processing_field_send, processing_field_sync, json_field_send, json_field_sync, base) depth 60 fits 20000

pub task_field_send : IsSend (task.the_field).row
task_field_send = search (processing_send, processing_sync, template_send, template_sync, processing_field_send, processing_field_sync, template_field_send, template_field_sync, base) depth 60 fits 20000

pub task_send : IsSend task.the_row
task_send = search (processing_send, processing_sync, template_send, template_sync, processing_field_send, processing_field_sync, template_field_send, template_field_sync, base) depth 60 fits 20000

pub task_field_sync : IsSync (task.the_field).row
task_field_sync = search (processing_send, processing_sync, template_send, template_sync, processing_field_send, processing_field_sync, template_field_send, template_field_sync, base) depth 60 fits 20000

pub task_sync : IsSync task.the_row
task_sync = search (processing_send, processing_sync, template_send, template_sync, processing_field_send, processing_field_sync, template_field_send, template_field_sync, base) depth 60 fits 20000

pub succeed_field_send : IsSend (succeed.the_field).row
succeed_field_send = search (processing_send, processing_sync, processing_field_send, processing_field_sync, base) depth 60 fits 20000

pub succeed_send : IsSend succeed.the_row
succeed_send = search (processing_send, processing_sync, processing_field_send, processing_field_sync, base) depth 60 fits 20000

pub succeed_field_sync : IsSync (succeed.the_field).row
succeed_field_sync = search (processing_send, processing_sync, processing_field_send, processing_field_sync, base) depth 60 fits 20000

pub succeed_sync : IsSync succeed.the_row
succeed_sync = search (processing_send, processing_sync, processing_field_send, processing_field_sync, base) depth 60 fits 20000

pub fail_field_send : IsSend (fail.the_field).row
fail_field_send = search (base) depth 60 fits 20000

pub fail_send : IsSend fail.the_row
fail_send = search (base) depth 60 fits 20000

pub fail_field_sync : IsSync (fail.the_field).row
fail_field_sync = search (base) depth 60 fits 20000

pub fail_sync : IsSync fail.the_row
fail_sync = search (base) depth 60 fits 20000

pub choice_field_send : IsSend (choice.the_field).row
choice_field_send = search (processing_send, processing_sync, json_send, json_sync, processing_field_send, processing_field_sync, json_field_send, json_field_sync, k_asl_states_InnerTest.crosses, base) depth 60 fits 20000

pub choice_send : IsSend choice.the_row
choice_send = search (processing_send, processing_sync, json_send, json_sync, processing_field_send, processing_field_sync, json_field_send, json_field_sync, k_asl_states_InnerTest.crosses, base) depth 60 fits 20000

pub choice_field_sync : IsSync (choice.the_field).row
choice_field_sync = search (processing_send, processing_sync, json_send, json_sync, processing_field_send, processing_field_sync, json_field_send, json_field_sync, k_asl_states_InnerTest.crosses, base) depth 60 fits 20000

pub choice_sync : IsSync choice.the_row
choice_sync = search (processing_send, processing_sync, json_send, json_sync, processing_field_send, processing_field_sync, json_field_send, json_field_sync, k_asl_states_InnerTest.crosses, base) depth 60 fits 20000

pub wait_field_send : IsSend (wait.the_field).row
wait_field_send = search (processing_send, processing_sync, processing_field_send, processing_field_sync, base) depth 60 fits 20000

pub wait_send : IsSend wait.the_row
wait_send = search (processing_send, processing_sync, processing_field_send, processing_field_sync, base) depth 60 fits 20000

pub wait_field_sync : IsSync (wait.the_field).row
wait_field_sync = search (processing_send, processing_sync, processing_field_send, processing_field_sync, base) depth 60 fits 20000

pub wait_sync : IsSync wait.the_row
wait_sync = search (processing_send, processing_sync, processing_field_send, processing_field_sync, base) depth 60 fits 20000

pub error_handling_field_send : IsSend (error_handling.the_field).row
error_handling_field_send = search (base) depth 60 fits 20000

pub error_handling_send : IsSend error_handling.the_row
error_handling_send = search (base) depth 60 fits 20000

pub error_handling_field_sync : IsSync (error_handling.the_field).row
error_handling_field_sync = search (base) depth 60 fits 20000

pub error_handling_sync : IsSync error_handling.the_row
error_handling_sync = search (base) depth 60 fits 20000

pub machine_field_send : IsSend (machine.the_field).row
machine_field_send = search (pass_send, pass_sync, task_send, task_sync, succeed_send, succeed_sync, fail_send, fail_sync, choice_send, choice_sync, wait_send, wait_sync, template_send, template_sync, processing_send, processing_sync, error_handling_send, error_handling_sync, pass_field_send, pass_field_sync, task_field_send, task_field_sync, succeed_field_send, succeed_field_sync, fail_field_send, fail_field_sync, choice_field_send, choice_field_sync, wait_field_send, wait_field_sync, template_field_send, template_field_sync, processing_field_send, processing_field_sync, error_handling_field_send, error_handling_field_sync, k_asl_tree_Branches.crosses, base) depth 60 fits 20000

pub machine_send : IsSend machine.the_row
machine_send = search (pass_send, pass_sync, task_send, task_sync, succeed_send, succeed_sync, fail_send, fail_sync, choice_send, choice_sync, wait_send, wait_sync, template_send, template_sync, processing_send, processing_sync, error_handling_send, error_handling_sync, pass_field_send, pass_field_sync, task_field_send, task_field_sync, succeed_field_send, succeed_field_sync, fail_field_send, fail_field_sync, choice_field_send, choice_field_sync, wait_field_send, wait_field_sync, template_field_send, template_field_sync, processing_field_send, processing_field_sync, error_handling_field_send, error_handling_field_sync, k_asl_tree_Branches.crosses, base) depth 60 fits 20000

pub machine_field_sync : IsSync (machine.the_field).row
machine_field_sync = search (pass_send, pass_sync, task_send, task_sync, succeed_send, succeed_sync, fail_send, fail_sync, choice_send, choice_sync, wait_send, wait_sync, template_send, template_sync, processing_send, processing_sync, error_handling_send, error_handling_sync, pass_field_send, pass_field_sync, task_field_send, task_field_sync, succeed_field_send, succeed_field_sync, fail_field_send, fail_field_sync, choice_field_send, choice_field_sync, wait_field_send, wait_field_sync, template_field_send, template_field_sync, processing_field_send, processing_field_sync, error_handling_field_send, error_handling_field_sync, k_asl_tree_Branches.crosses, base) depth 60 fits 20000

pub machine_sync : IsSync machine.the_row
machine_sync = search (pass_send, pass_sync, task_send, task_sync, succeed_send, succeed_sync, fail_send, fail_sync, choice_send, choice_sync, wait_send, wait_sync, template_send, template_sync, processing_send, processing_sync, error_handling_send, error_handling_sync, pass_field_send, pass_field_sync, task_field_send, task_field_sync, succeed_field_send, succeed_field_sync, fail_field_send, fail_field_sync, choice_field_send, choice_field_sync, wait_field_send, wait_field_sync, template_field_send, template_field_sync, processing_field_send, processing_field_sync, error_handling_field_send, error_handling_field_sync, k_asl_tree_Branches.crosses, base) depth 60 fits 20000

pub shared_machine_field_send : IsSend (shared_machine.the_field).row
shared_machine_field_send = search (machine_send, machine_sync, machine_field_send, machine_field_sync, base) depth 60 fits 20000

pub shared_machine_send : IsSend shared_machine.the_row
shared_machine_send = search (machine_send, machine_sync, machine_field_send, machine_field_sync, base) depth 60 fits 20000

pub shared_machine_field_sync : IsSync (shared_machine.the_field).row
shared_machine_field_sync = search (machine_send, machine_sync, machine_field_send, machine_field_sync, base) depth 60 fits 20000

pub shared_machine_sync : IsSync shared_machine.the_row
shared_machine_sync = search (machine_send, machine_sync, machine_field_send, machine_field_sync, base) depth 60 fits 20000

pub phase_field_send : IsSend (phase.the_field).row
phase_field_send = search (json_send, json_sync, json_field_send, json_field_sync, base) depth 60 fits 20000

pub phase_send : IsSend phase.the_row
phase_send = search (json_send, json_sync, json_field_send, json_field_sync, base) depth 60 fits 20000

pub phase_field_sync : IsSync (phase.the_field).row
phase_field_sync = search (json_send, json_sync, json_field_send, json_field_sync, base) depth 60 fits 20000

pub phase_sync : IsSync phase.the_row
phase_sync = search (json_send, json_sync, json_field_send, json_field_sync, base) depth 60 fits 20000

pub frame_field_send : IsSend (frame.the_field).row
frame_field_send = search (json_send, json_sync, phase_send, phase_sync, json_field_send, json_field_sync, phase_field_send, phase_field_sync, base) depth 60 fits 20000

pub frame_send : IsSend frame.the_row
frame_send = search (json_send, json_sync, phase_send, phase_sync, json_field_send, json_field_sync, phase_field_send, phase_field_sync, base) depth 60 fits 20000

pub frame_field_sync : IsSync (frame.the_field).row
frame_field_sync = search (json_send, json_sync, phase_send, phase_sync, json_field_send, json_field_sync, phase_field_send, phase_field_sync, base) depth 60 fits 20000

pub frame_sync : IsSync frame.the_row
frame_sync = search (json_send, json_sync, phase_send, phase_sync, json_field_send, json_field_sync, phase_field_send, phase_field_sync, base) depth 60 fits 20000

pub value_map_field_send : IsSend (value_map.the_field).row
value_map_field_send = search (k_attr_values_ValueList.crosses, base) depth 60 fits 20000

pub value_map_send : IsSend value_map.the_row
value_map_send = search (k_attr_values_ValueList.crosses, base) depth 60 fits 20000

pub value_map_field_sync : IsSync (value_map.the_field).row
value_map_field_sync = search (k_attr_values_ValueList.crosses, base) depth 60 fits 20000

pub value_map_sync : IsSync value_map.the_row
value_map_sync = search (k_attr_values_ValueList.crosses, base) depth 60 fits 20000

pub item_field_send : IsSend (item.the_field).row
item_field_send = search (value_map_send, value_map_sync, json_fields_send, json_fields_sync, value_map_field_send, value_map_field_sync, json_fields_field_send, json_fields_field_sync, base) depth 60 fits 20000

pub item_send : IsSend item.the_row
item_send = search (value_map_send, value_map_sync, json_fields_send, json_fields_sync, value_map_field_send, value_map_field_sync, json_fields_field_send, json_fields_field_sync, base) depth 60 fits 20000

pub item_field_sync : IsSync (item.the_field).row
item_field_sync = search (value_map_send, value_map_sync, json_fields_send, json_fields_sync, value_map_field_send, value_map_field_sync, json_fields_field_send, json_fields_field_sync, base) depth 60 fits 20000

pub item_sync : IsSync item.the_row
item_sync = search (value_map_send, value_map_sync, json_fields_send, json_fields_sync, value_map_field_send, value_map_field_sync, json_fields_field_send, json_fields_field_sync, base) depth 60 fits 20000

pub request_field_send : IsSend (request.the_field).row
request_field_send = search (item_send, item_sync, item_field_send, item_field_sync, base) depth 60 fits 20000

pub request_send : IsSend request.the_row
request_send = search (item_send, item_sync, item_field_send, item_field_sync, base) depth 60 fits 20000

pub request_field_sync : IsSync (request.the_field).row
request_field_sync = search (item_send, item_sync, item_field_send, item_field_sync, base) depth 60 fits 20000

pub request_sync : IsSync request.the_row
request_sync = search (item_send, item_sync, item_field_send, item_field_sync, base) depth 60 fits 20000

pub call_field_send : IsSend (call.the_field).row
call_field_send = search (request_send, request_sync, request_field_send, request_field_sync, base) depth 60 fits 20000

pub call_send : IsSend call.the_row
call_send = search (request_send, request_sync, request_field_send, request_field_sync, base) depth 60 fits 20000

pub call_field_sync : IsSync (call.the_field).row
call_field_sync = search (request_send, request_sync, request_field_send, request_field_sync, base) depth 60 fits 20000

pub call_sync : IsSync call.the_row
call_sync = search (request_send, request_sync, request_field_send, request_field_sync, base) depth 60 fits 20000

pub frames_field_send : IsSend (frames.the_field).row
frames_field_send = search (frame_send, frame_sync, frame_field_send, frame_field_sync, base) depth 60 fits 20000

pub frames_send : IsSend frames.the_row
frames_send = search (frame_send, frame_sync, frame_field_send, frame_field_sync, base) depth 60 fits 20000

pub frames_field_sync : IsSync (frames.the_field).row
frames_field_sync = search (frame_send, frame_sync, frame_field_send, frame_field_sync, base) depth 60 fits 20000

pub frames_sync : IsSync frames.the_row
frames_sync = search (frame_send, frame_sync, frame_field_send, frame_field_sync, base) depth 60 fits 20000

pub outcome_field_send : IsSend (outcome.the_field).row
outcome_field_send = search (frame_send, frame_sync, call_send, call_sync, frames_send, frames_sync, frame_field_send, frame_field_sync, call_field_send, call_field_sync, frames_field_send, frames_field_sync, base) depth 60 fits 20000

pub outcome_send : IsSend outcome.the_row
outcome_send = search (frame_send, frame_sync, call_send, call_sync, frames_send, frames_sync, frame_field_send, frame_field_sync, call_field_send, call_field_sync, frames_field_send, frames_field_sync, base) depth 60 fits 20000

pub outcome_field_sync : IsSync (outcome.the_field).row
outcome_field_sync = search (frame_send, frame_sync, call_send, call_sync, frames_send, frames_sync, frame_field_send, frame_field_sync, call_field_send, call_field_sync, frames_field_send, frames_field_sync, base) depth 60 fits 20000

pub outcome_sync : IsSync outcome.the_row
outcome_sync = search (frame_send, frame_sync, call_send, call_sync, frames_send, frames_sync, frame_field_send, frame_field_sync, call_field_send, call_field_sync, frames_field_send, frames_field_sync, base) depth 60 fits 20000

pub prepared_field_send : IsSend (prepared.the_field).row
prepared_field_send = search (frame_send, frame_sync, shared_machine_send, shared_machine_sync, outcome_send, outcome_sync, frame_field_send, frame_field_sync, shared_machine_field_send, shared_machine_field_sync, outcome_field_send, outcome_field_sync, base) depth 60 fits 20000

pub prepared_send : IsSend prepared.the_row
prepared_send = search (frame_send, frame_sync, shared_machine_send, shared_machine_sync, outcome_send, outcome_sync, frame_field_send, frame_field_sync, shared_machine_field_send, shared_machine_field_sync, outcome_field_send, outcome_field_sync, base) depth 60 fits 20000

pub prepared_field_sync : IsSync (prepared.the_field).row
prepared_field_sync = search (frame_send, frame_sync, shared_machine_send, shared_machine_sync, outcome_send, outcome_sync, frame_field_send, frame_field_sync, shared_machine_field_send, shared_machine_field_sync, outcome_field_send, outcome_field_sync, base) depth 60 fits 20000

pub prepared_sync : IsSync prepared.the_row
prepared_sync = search (frame_send, frame_sync, shared_machine_send, shared_machine_sync, outcome_send, outcome_sync, frame_field_send, frame_field_sync, shared_machine_field_send, shared_machine_field_sync, outcome_field_send, outcome_field_sync, base) depth 60 fits 20000

pub entry_field_send : IsSend (entry.the_field).row
entry_field_send = search (shared_machine_send, shared_machine_sync, json_send, json_sync, shared_machine_field_send, shared_machine_field_sync, json_field_send, json_field_sync, base) depth 60 fits 20000

pub entry_send : IsSend entry.the_row
entry_send = search (shared_machine_send, shared_machine_sync, json_send, json_sync, shared_machine_field_send, shared_machine_field_sync, json_field_send, json_field_sync, base) depth 60 fits 20000

pub entry_field_sync : IsSync (entry.the_field).row
entry_field_sync = search (shared_machine_send, shared_machine_sync, json_send, json_sync, shared_machine_field_send, shared_machine_field_sync, json_field_send, json_field_sync, base) depth 60 fits 20000

pub entry_sync : IsSync entry.the_row
entry_sync = search (shared_machine_send, shared_machine_sync, json_send, json_sync, shared_machine_field_send, shared_machine_field_sync, json_field_send, json_field_sync, base) depth 60 fits 20000

pub ticket_field_send : IsSend (ticket.the_field).row
ticket_field_send = search (frame_send, frame_sync, shared_machine_send, shared_machine_sync, frame_field_send, frame_field_sync, shared_machine_field_send, shared_machine_field_sync, base) depth 60 fits 20000

pub ticket_send : IsSend ticket.the_row
ticket_send = search (frame_send, frame_sync, shared_machine_send, shared_machine_sync, frame_field_send, frame_field_sync, shared_machine_field_send, shared_machine_field_sync, base) depth 60 fits 20000

pub ticket_field_sync : IsSync (ticket.the_field).row
ticket_field_sync = search (frame_send, frame_sync, shared_machine_send, shared_machine_sync, frame_field_send, frame_field_sync, shared_machine_field_send, shared_machine_field_sync, base) depth 60 fits 20000

pub ticket_sync : IsSync ticket.the_row
ticket_sync = search (frame_send, frame_sync, shared_machine_send, shared_machine_sync, frame_field_send, frame_field_sync, shared_machine_field_send, shared_machine_field_sync, base) depth 60 fits 20000

pub receipt_field_send : IsSend (receipt.the_field).row
receipt_field_send = search (entry_send, entry_sync, entry_field_send, entry_field_sync, base) depth 60 fits 20000

pub receipt_send : IsSend receipt.the_row
receipt_send = search (entry_send, entry_sync, entry_field_send, entry_field_sync, base) depth 60 fits 20000

pub receipt_field_sync : IsSync (receipt.the_field).row
receipt_field_sync = search (entry_send, entry_sync, entry_field_send, entry_field_sync, base) depth 60 fits 20000

pub receipt_sync : IsSync receipt.the_row
receipt_sync = search (entry_send, entry_sync, entry_field_send, entry_field_sync, base) depth 60 fits 20000

pub refusal_field_send : IsSend (refusal.the_field).row
refusal_field_send = search (entry_send, entry_sync, entry_field_send, entry_field_sync, base) depth 60 fits 20000

pub refusal_send : IsSend refusal.the_row
refusal_send = search (entry_send, entry_sync, entry_field_send, entry_field_sync, base) depth 60 fits 20000

pub refusal_field_sync : IsSync (refusal.the_field).row
refusal_field_sync = search (entry_send, entry_sync, entry_field_send, entry_field_sync, base) depth 60 fits 20000

pub refusal_sync : IsSync refusal.the_row
refusal_sync = search (entry_send, entry_sync, entry_field_send, entry_field_sync, base) depth 60 fits 20000
