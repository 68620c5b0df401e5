-- The items of a beginning, one after another.
use Rattle.std.proofs.Common.{◌≡◌, ◌⊎◌, inl, inr, List, ◌∷◌, ap, sym, ◌∙◌, Ok, Err, Result, Some}
use Rattle.json_tree.specs.Data.{Data}
use Rattle.json_tree.specs.View.{data_of, list_of}
use Rattle.json_tree.specs.declared.tree.Json.{Json}
use Rattle.attr_values.specs.Datum.{attributes_of}
use Rattle.attr_values.specs.Faults.{result_and_then, result_map}
use Rattle.attr_values.specs.Key.{key_of}
use Rattle.attr_values.specs.Reading.{read_item}
use Rattle.attr_values.specs.declared.fault.ItemFault.{ItemFault}
use Rattle.attr_values.specs.declared.fault.ItemFault.TheVariants.{Memory}
use Rattle.attr_values.specs.declared.key.Key.{Key}
use Rattle.attr_values.specs.declared.key.KeySchema.{KeySchema}
use Rattle.item_store.specs.Calls.{attribute_pairs}
use Rattle.item_store.specs.Deciding.{ItemAttributes}
use Rattle.item_store.specs.Table.{Table, with_item}
use Rattle.item_store.proofs.Shapes.{attributes_again}
use Rattle.book_log.specs.Beginning.{with_key, keyed_item, filled}

item_with : (schema : KeySchema) (d : Data) (item : ItemAttributes) → read_item d ≡ Ok (attributes_of item) → keyed_item schema d ≡ with_key schema item
item_with schema d item h = ap (result_and_then (λ i. with_key schema (attribute_pairs i))) h ∙ ap (with_key schema) (attributes_again item)

pub item_keyed : (schema : KeySchema) (d : Data) (item : ItemAttributes) (key : Key) → read_item d ≡ Ok (attributes_of item) → key_of schema item ≡ Ok key → keyed_item schema d ≡ Ok (key, item)
item_keyed schema d item key h k = item_with schema d item h ∙ ap (result_map (λ (x : Key). (x, item))) k

pub key_refused : (schema : KeySchema) (d : Data) (item : ItemAttributes) (fault : ItemFault) → read_item d ≡ Ok (attributes_of item) → (fault ≡ Memory) ⊎ (key_of schema item ≡ Err fault)
    → (fault ≡ Memory) ⊎ (keyed_item schema d ≡ Err fault)
key_refused schema d item fault h (inl e) = inl e
key_refused schema d item fault h (inr k) = inr (item_with schema d item h ∙ ap (result_map (λ (x : Key). (x, item))) k)

abbrev next_filled : KeySchema → Table → List Json → Key × ItemAttributes → Result Table ItemFault
next_filled schema items rest e = filled schema (with_item items e.0 (Some e.1)) (list_of rest)

pub filled_on : (schema : KeySchema) (items new : Table) (e : Key × ItemAttributes) (object : Json) (rest : List Json) → keyed_item schema (data_of object) ≡ Ok e → new ≡ with_item items e.0 (Some e.1)
    → filled schema items (list_of (object ∷ rest)) ≡ filled schema new (list_of rest)
filled_on schema items new e object rest h k = ap (result_and_then (next_filled schema items rest)) h ∙ ap (λ (t : Table). filled schema t (list_of rest)) (sym k)

pub filled_refused : (schema : KeySchema) (items : Table) (fault : ItemFault) (object : Json) (rest : List Json) → keyed_item schema (data_of object) ≡ Err fault → filled schema items (list_of (object ∷ rest)) ≡ Err fault
filled_refused schema items fault object rest h = ap (result_and_then (next_filled schema items rest)) h
