-- What the four statements do to a database that has the journal's table, or none.
use Rattle.std.proofs.Common.{◌≡◌, ◌⊎◌, inl, inr, ℕ, ℤ, List, [], ◌∷◌, ◌++◌, codes, Bool, true, false, cond, not, ◌&&◌, None, Ok, Err, Result, OnOk, refl, sym, ap, subst, ◌∙◌}
use Rattle.std.specs.List.Sorted.{IsPermutation}
use Rattle.std.proofs.lemmas.List.{map-append}
use Rattle.std.proofs.lemmas.List.Sorted.{IsPermutation-map}
use Rattle.sqlite.specs.declared.types.Value.{Value}
use Rattle.sqlite.specs.declared.types.Value.TheVariants.{Null, Int, Text}
use Rattle.sqlite.specs.Order.{Row}
use Rattle.sqlite.specs.Ops.{unary}
use Rattle.sqlite.specs.Term.{Term, lit, col}
use Rattle.sqlite.specs.Source.TheVariants.{Values}
use Rattle.sqlite.specs.Command.TheVariants.{Insert, CreateTable}
use Rattle.sqlite.specs.Compile.{table_defined_by}
use Rattle.sqlite.specs.Edit.{edit_of, edited}
use Rattle.sqlite.specs.Kind.TheVariants.{Integer}
use Rattle.sqlite.specs.Cast.{cast}
use Rattle.sqlite.specs.Rowids.TheVariants.{Chosen}
use Rattle.sqlite.specs.Change.{created, next_tree}
use Rattle.sqlite.specs.Does.{Tally, Does, lacks_sequence}
use Rattle.sqlite.specs.Rows.{Written}
use Rattle.sqlite.specs.Tree.{Trees}
use Rattle.sqlite_tied.specs.Compute.{everything}
use Rattle.sqlite.specs.declared.error.Error.{Error}
use Rattle.sqlite.specs.Listing.{understood}
use Rattle.sqlite.specs.Effect.{Database}
use Rattle.sqlite.specs.State.{State, mode_of, Writes, Executes}
use Rattle.sqlite.proofs.Callers.{IsPlain, command_of, statement_of, runs_as, one_step}
use Rattle.book_journal.specs.Table.{entry_table, journal_schema, no_schema}
use Rattle.book_journal.specs.Entries.{entries, entry, shown}
use Rattle.book_journal.proofs.Lists.{put_last}

abbrev pub create_text : List ℕ
create_text = codes "CREATE TABLE entry(no INTEGER PRIMARY KEY, line TEXT NOT NULL) STRICT"

abbrev pub insert_text : List ℕ
insert_text = codes "INSERT INTO entry (no, line) VALUES (?1, ?2)"

abbrev terms : List Term
terms = col 0 0 ∷ lit Null ∷ col 0 1 ∷ []

create_is : (command_of (understood no_schema create_text) ≡ CreateTable) × (statement_of create_text (understood no_schema create_text) ≡ create_text) × (table_defined_by create_text ≡ Ok entry_table)
unfolding understood everything
create_is = (refl, refl, refl)

insert_is : command_of (understood journal_schema insert_text) ≡ Insert 0 (Values terms 3)
unfolding understood everything
insert_is = refl

create_plain : IsPlain (understood no_schema create_text)
unfolding understood everything
create_plain = (refl, refl)

insert_plain : IsPlain (understood journal_schema insert_text)
unfolding understood everything
insert_plain = (refl, refl)

either : (b : Bool) (x : Value) → cond b x x ≡ x
either true x = refl
either false x = refl

-- a part that gave a value did not stop on the way
went : {B E R : Type 0} {b : B} {Stops : E → Type 0} → ((stop : E) × Stops stop × (Ok b ≡ Err stop)) ⊎ R → R
went (inl stopped) = absurd (let e = stopped.2 in cc)
went (inr on) = on

same_value : {B E : Type 0} {a b : B} → ◌≡◌ {A = Result B E} (Ok a) (Ok b) → a ≡ b
same_value e = cc

pub creates : (old new : State) (r : Result ℕ Error) → old.now.schema ≡ no_schema → Executes create_text [] old new r → OnOk r (new.now.schema ≡ journal_schema) × OnOk r (new.now.trees 0 ≡ [])
creates old new (Err e) has h = (tt, tt)
creates old new (Ok count) has h =
    let w = subst (λ t. Writes old new None CreateTable t [] count) create_is.1 (runs_as create_text [] old new no_schema has CreateTable create_is.0 create_plain count h) in
    let all = went w.changed in
    let first = went all.1 in
    let made = first.1 in
    let both : Ok made.table ≡ Ok entry_table = sym made.defined ∙ create_is.2 in
    let same : made.table ≡ entry_table = cc in
    let schema : first.0.schema ≡ journal_schema = made.is ∙ ap (λ s. created s made.table) has ∙ ap (created no_schema) same in
    let plain : lacks_sequence first.0.schema ≡ false = ap lacks_sequence schema in
    let now : new.now ≡ first.0 = ap (λ (p : Tally × Database). p.1) (same_value all.2) ∙ same_value (rw plain at first.2) in
    (ap (λ (d : Database). d.schema) now ∙ schema, ap (λ (d : Database). d.trees 0) now ∙ subst (λ s. first.0.trees (next_tree s) ≡ []) has made.empty)

cast_null : cast Integer Null ≡ Null
unfolding unary
cast_null = either _ Null

cast_int : (n : ℤ) → cast Integer (Int n) ≡ Int n
unfolding unary
cast_int n = either _ (Int n)

abbrev stored : ℤ → List ℕ → Row
stored n line = Int n ∷ Null ∷ Text line ∷ []

not_taken : (b : Bool) → (not b && true) ≡ true → b ≡ false
not_taken true h = absurd cc
not_taken false h = refl

pub inserts : (old new : State) (n : ℤ) (line : List ℕ) (r : Result ℕ Error) → old.now.schema ≡ journal_schema → Executes insert_text (Int n ∷ Text line ∷ []) old new r
    → OnOk r ((new.now.schema ≡ journal_schema) × IsPermutation (entries old.now.trees ++ entry n line ∷ []) (entries new.now.trees))
inserts old new n line (Err e) has h = tt
inserts old new n line (Ok count) has h =
    let params = Int n ∷ Text line ∷ [] in
    let db = old.now.trees in
    let command = Insert 0 (Values terms 3) in
    let w = runs_as insert_text params old new journal_schema has command insert_is insert_plain count h in
    let text = statement_of insert_text (understood journal_schema insert_text) in
    let done = went (subst (λ s. Does old.step_limit (mode_of old) params (record old.now { schema = s }) text None command (Ok (w.tally, new.now))) has w.changed) in
    let now = ap (λ (p : Tally × Database). p.1) (same_value (went (went done.2).2).2) in
    let given = went done.1 in
    let written = went (went given.2).2 in
    let counted = went written.2 in
    let trees : done.0.trees ≡ written.0 = ap (λ (it : Written). it.trees) (same_value counted.2) ∙ same_value counted.1 in
    let step = one_step journal_schema _ db written.0 (edit_of db entry_table [] Chosen 0 given.0) refl written.1 in
    let edit = edit_of db entry_table [] Chosen 0 given.0 in
    let news : edit.news ≡ stored n line ∷ [] = ap (λ all. (edit_of db entry_table [] Chosen 0 all).news) given.1.1 ∙ rw (cast_int n, cast_null) in
    let rows : new.now.trees 0 ≡ edited db edit = ap (λ (d : Database). d.trees 0) now ∙ ap (λ (t : Trees). t 0) trees ∙ step.rows in
    let fresh = not_taken _ (rw news at step.fresh) in
    let put = IsPermutation-map shown _ _ (put_last (stored n line) (db 0) fresh) in
    (ap (λ (d : Database). d.schema) now, rw (rows, news) (rw (map-append shown (db 0) (stored n line ∷ [])) at put))
