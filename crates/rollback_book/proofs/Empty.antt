-- A book without entries.
use Rattle.std.proofs.Common.{◌≡◌, arith, ℕ, List, [], length, map, refl, ap, sym, subst, ◌∙◌, None, Option, Ok, Result}
use Rattle.std.specs.Prelude.{vec_capacity}
use Rattle.std.specs.Global.{Vec}
use Rattle.std.specs.BTreeMap.{BTreeMap}
use Rattle.attr_values.specs.declared.fault.ItemFault.{ItemFault}
use Rattle.asl_tree.specs.Definition.{Definition}
use Rattle.item_store.specs.Store.{Store, stored_items}
use Rattle.item_store.specs.Table.{Table}
use Rattle.saved_steps.specs.Steps.{name_of}
use Rattle.saved_steps.specs.World.{Setting, World}
use Rattle.step_history.specs.SettledNames.{SettledNamesView}
use Rattle.step_history.specs.History.{IsHistory, nothing_over, history_items, history_records}
use Rattle.step_history.specs.declared.history.History.{History}
use Rattle.step_history.proofs.Left.{as_many}
use Rattle.book_log.specs.Beginning.{begun_table, or_empty}
use Rattle.book_log.specs.Legal.{IsLegal}
use Rattle.book_log.specs.Log.{Log, base_in, base_of, first_world, settled, step_on_hold, setting_in, nothing, remainder, run_in, world_after}
use Rattle.book_log.specs.declared.begin.Begin.{Begin}
use Rattle.book_log.specs.declared.entry.Entry.{Entry}
use Rattle.book_log.proofs.Standing.{StandsAt}
use Rattle.rollback_book.specs.Book.{BookInvariant, book_view, Places, machine_place, placed_machine}
use Rattle.rollback_book.proofs.Tied.{tied_by}

abbrev beginning : Begin → Log
beginning begin = record { begin = begin; entries = [] }

legal_empty : (begin : Begin) (items : Table) → begun_table begin ≡ Ok items → IsLegal (beginning begin)
unfolding IsLegal
legal_empty begin items e = ((items, e), tt)

stands_empty : (begin : Begin) → StandsAt (beginning begin) (setting_in begin nothing) (first_world begin) []
unfolding remainder run_in base_in world_after
stands_empty begin = record { setting = refl; before = []; leads = refl; runs = refl }

base_empty : (begin : Begin) → base_of (beginning begin) ≡ first_world begin
unfolding remainder base_in world_after
base_empty begin = refl

none_settled : (begin : Begin) → map name_of (settled (beginning begin)) ≡ []
unfolding remainder
none_settled begin = refl

none_held : (begin : Begin) → step_on_hold (beginning begin) ≡ None
unfolding remainder
none_held begin = refl

no_place : (places : Places) → places ≡ [] → (name : List ℕ) → placed_machine (machine_place places name) ≡ None
no_place places e name = ap (λ (l : Places). placed_machine (machine_place l name)) e

-- the items of the store are those of the beginning
base_is : (begin : Begin) (items : Store) → begun_table begin ≡ Ok (stored_items items) → nothing_over items ≡ first_world begin
base_is begin items e = ap (λ (t : Result Table ItemFault). let w : World = record { frames = λ t. None; items = or_empty t } in w) (sym e)

pub tied_empty : (begin : Begin) (machines : BTreeMap (List ℕ) (Option Definition)) (h : History) (entries : Vec Entry) (names : SettledNamesView) (items : Store) → machines.entries ≡ [] → entries.items ≡ []
    → begun_table begin ≡ Ok (stored_items items) → items.table ≡ begin.table → items.schema ≡ begin.schema
    → ((s : Setting) → s.table ≡ items.table → s.schema ≡ items.schema → IsHistory s (nothing_over items) [] h) → names.items ≡ [] → BookInvariant (book_view begin machines h entries names None)
tied_empty begin machines h entries names items no_machines no_entries table name schema new none =
    let s = setting_in begin nothing in
    let is : IsHistory s (first_world begin) [] h = subst (λ (w : World). IsHistory s w [] h) (base_is begin items table) (new s (sym name) (sym schema)) in
    let n : length (history_records h) ≡ 0 = as_many (history_items h) (history_records h) [] is.records in
    subst (λ (l : List Entry). BookInvariant (record { log = record { begin = begin; entries = l }; history = h; places = machines.entries; capacity = vec_capacity entries; settled = names; held = None })) (sym no_entries)
    (tied_by (record { log = beginning begin; history = h; places = machines.entries; capacity = vec_capacity entries; settled = names; held = None }) s (first_world begin) (first_world begin) [] (legal_empty begin (stored_items items) table)
    (stands_empty begin) (base_empty begin) is (no_place machines.entries no_machines) (none ∙ sym (none_settled begin)) (none_held begin) (omega (arith, n)) (omega (arith, n)) (omega (arith, n)))
