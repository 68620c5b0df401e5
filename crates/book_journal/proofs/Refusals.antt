-- Why a query of the journal's table is refused.
use Rattle.std.proofs.Common.{◌≡◌, ◌≢◌, ◌≤◌, ◌<◌, ◌⊎◌, inl, inr, ℕ, zero, suc, Contains, Bool, true, false, List, [], ◌∷◌, length, codes, map, get_or, Result, Ok, Err, None, refl, sym, ap, subst, ◌∙◌, arith}
use Rattle.sqlite.specs.declared.error.Error.{Error}
use Rattle.sqlite.specs.declared.error.Error.TheVariants.{SqliteFailure, InvalidColumnIndex}
use Rattle.sqlite.specs.declared.error.ErrorCode.TheVariants.{OutOfMemory as NoRoom}
use Rattle.sqlite.specs.declared.types.Value.{Value}
use Rattle.sqlite.specs.declared.types.Value.TheVariants.{Null}
use Rattle.sqlite.specs.Reading.{IsReadError}
use Rattle.sqlite.specs.Values.{IsInt}
use Rattle.book_journal.specs.Entries.{entries, row_number, row_numbers, pair, AreInOrder}
use Rattle.sqlite_trees.specs.declared.error.StoreError.TheVariants.{OutOfMemory, Io, Corrupt, Full, Broken, Unstorable}
use Rattle.sqlite_resolve.specs.declared.compiled.Compiled.{Compiled}
use Rattle.sqlite_resolve.specs.declared.error.CompileError.{CompileError}
use Rattle.sqlite.specs.Program.{ProgramOverflows}
use Rattle.sqlite_typing.specs.Types.{accepts_program}
use Rattle.sqlite.specs.Order.{Row, column}
use Rattle.sqlite.specs.Tree.{Trees}
use Rattle.sqlite.specs.Query.{Query}
use Rattle.sqlite.specs.Command.{Command}
use Rattle.sqlite.specs.Command.TheVariants.{Select}
use Rattle.sqlite.specs.Schema.{Schema}
use Rattle.sqlite.specs.Effect.{Database, RefusesToRead}
use Rattle.sqlite.specs.Listing.{understood, reads_listing, IsSourceOf}
use Rattle.sqlite.specs.State.{State, IsNoStatement, IsNotRun, Fails, FailsToShow, FailsToQuery}
use Rattle.sqlite_tied.specs.Compute.{everything}
use Rattle.book_journal.specs.declared.fault.JournalFault.TheVariants.{Store}
use Rattle.book_journal.specs.Table.{journal_schema}
use Rattle.book_journal.specs.Faults.{journal_fault_of, HasReadCause, HaveUnreadable, IsUnreadable, RefusesRows}
use Rattle.std.proofs.lemmas.List.{get_or-map, length-map}
use Rattle.std.proofs.lemmas.List.Sorted.{IsPermutation-sym, Contains-permutation}
use Rattle.book_journal.proofs.Keeping.{read_pairs}
use Rattle.book_journal.proofs.Queries.{last_text, all_text, last_query, all_query}

-- the text is one query with no parameter
record IsAsked (sql : List ℕ) (body : Query) (names : List (List ℕ)) (c : Compiled) : Type 0 where
  pub command : c.command ≡ Select (record { lets = []; body = body }) names
  pub returning : c.returning ≡ None
  pub names_none : c.names ≡ []
  pub formats : c.formats ≡ []
  pub tail : c.tail ≡ length sql

abbrev Asks : List ℕ → Query → List (List ℕ) → Result Compiled CompileError → Type 0
Asks sql body names (Ok c) = IsAsked sql body names c
Asks sql body names (Err e) = ⊥

last_asks : Asks last_text last_query (codes "no" ∷ []) (understood journal_schema last_text)
unfolding understood everything
last_asks = record { command = refl; returning = refl; names_none = refl; formats = refl; tail = refl }

all_asks : Asks all_text all_query (codes "no" ∷ codes "line" ∷ []) (understood journal_schema all_text)
unfolding understood everything
all_asks = record { command = refl; returning = refl; names_none = refl; formats = refl; tail = refl }

last_unlisted : reads_listing journal_schema last_text ≡ false
unfolding understood everything
last_unlisted = refl

all_unlisted : reads_listing journal_schema all_text ≡ false
unfolding understood everything
all_unlisted = refl

last_typed : accepts_program journal_schema [] last_query [] ≡ true
unfolding everything
last_typed = refl

all_typed : accepts_program journal_schema [] all_query [] ≡ true
unfolding everything
all_typed = refl

store_cause : (old new : State) (e : Error) → Fails old new ⊥ e → HasReadCause old new e
store_cause old new e (OutOfMemory, is, h, back, blame) = inl is
store_cause old new e (Io, is, more, back, blame) = inr (inl (rw is refl, more))
store_cause old new e (Corrupt, is, more, back, blame) = inr (inl (rw is refl, more))
store_cause old new e (Full, is, more, back, blame) = inr (inl (rw is refl, more))
store_cause old new e (Broken, is, shut, back, blame) = inr (inr (inl (is, shut)))
store_cause old new e (Unstorable, is, none, back, blame) = absurd none

module _ (sql : List ℕ) (body : Query) (names : List (List ℕ)) (asks : Asks sql body names (understood journal_schema sql)) (unlisted : reads_listing journal_schema sql ≡ false)
    (typed : accepts_program journal_schema [] body [] ≡ true) (calm : (db : Trees) → ProgramOverflows db [] [] [] body → ⊥) (old new : State) (has : old.now.schema ≡ journal_schema) where
  known : Asks sql body names (understood old.now.schema sql)
  known = subst (λ (s : Schema). Asks sql body names (understood s sql)) (sym has) asks

  asked : (c : Compiled) → understood old.now.schema sql ≡ Ok c → IsAsked sql body names c
  asked c is = subst (Asks sql body names) is known

  is_statement : (e : Error) → IsNoStatement old sql [] e → ⊥
  is_statement e (inl (fault, is, told)) = subst (Asks sql body names) is known
  is_statement e (inr (c, is, inl (longer, told))) = longer (omega (arith, (asked c is).tail))
  is_statement e (inr (c, is, inr (inl (given, told)))) = given (sym (ap length (asked c is).names_none))
  is_statement e (inr (c, is, inr (inr (dated, told)))) = dated (asked c is).formats

  refused : (e : Error) (db : Database) → db ≡ old.now → RefusesToRead old.step_limit (Select (record { lets = []; body = body }) names) db [] e → HasReadCause old new e
  refused e db source (inl (told, other)) =
      let schema : db.schema ≡ journal_schema = ap (λ (d : Database). d.schema) source ∙ has in
      absurd (let f = sym typed ∙ subst (λ (s : Schema). accepts_program s [] body [] ≡ false) schema other in cc)
  refused e db source (inr (inl (told, over))) = absurd (calm db.trees over)
  refused e db source (inr (inr h)) = inr (inr (inr h))

  refused_by : (command : Command) (e : Error) (db : Database) → command ≡ Select (record { lets = []; body = body }) names → db ≡ old.now → RefusesToRead old.step_limit command db [] e → HasReadCause old new e
  refused_by command e db is source h = refused e db source (subst (λ (k : Command). RefusesToRead old.step_limit k db [] e) is h)

  read_cause : (e : Error) → FailsToQuery sql [] old new e → HasReadCause old new e
  unfolding FailsToQuery IsNotRun
  read_cause e (inl (inl h)) = absurd (is_statement e h.0)
  read_cause e (inl (inr h)) = store_cause old new e h
  read_cause e (inr (c, it, h)) =
      let a = asked c it.is in
      let shown : FailsToShow old new sql c [] e None = rw (a.returning, a.formats) at h in
      let source : shown.0 ≡ old.now = subst (λ (b : Bool). IsSourceOf b old.now shown.0) (ap (λ (s : Schema). reads_listing s sql) has ∙ unlisted) shown.1 in
      refused_by c.command e shown.0 a.command source shown.2

last_calm : (db : Trees) → ProgramOverflows db [] [] [] last_query → ⊥
last_calm db (inl none) = none
last_calm db (inr h) = h.4

all_calm : (db : Trees) → ProgramOverflows db [] [] [] all_query → ⊥
all_calm db (inl none) = none
all_calm db (inr h) = h.4

pub last_cause : (old new : State) (e : Error) → old.now.schema ≡ journal_schema → FailsToQuery last_text [] old new e → HasReadCause old new e
last_cause old new e has = read_cause last_text last_query (codes "no" ∷ []) last_asks last_unlisted last_typed last_calm old new has e

pub all_cause : (old new : State) (e : Error) → old.now.schema ≡ journal_schema → FailsToQuery all_text [] old new e → HasReadCause old new e
all_cause old new e has = read_cause all_text all_query (codes "no" ∷ codes "line" ∷ []) all_asks all_unlisted all_typed all_calm old new has e

-- a number that was read of an entry
pub numbered_entry : (rows : List Row) (v : Value) → Contains (row_numbers rows) v → (row : Row) × Contains rows row × (row_number row ≡ v)
numbered_entry [] v (k, low, is) = absurd (omega (arith, low))
numbered_entry (r ∷ rows) v (zero, low, is) = (r, (0, omega arith, refl), is)
numbered_entry (r ∷ rows) v (suc k, low, is) =
    let rest = numbered_entry rows v (k, omega (arith, low), is) in (rest.0, (suc rest.1.0, omega (arith, rest.1.1), rest.1.2), rest.2)

past_end : (row : Row) (at : ℕ) → length row ≤ at → column row at ≡ Null
past_end [] at h = refl
past_end (v ∷ row) zero h = absurd (omega (arith, h))
past_end (v ∷ row) (suc at) h = past_end row at (omega (arith, h))

-- a number that can't be read is no integer
pub no_integer : (row : Row) (e : Error) → (e ≡ InvalidColumnIndex 0 → length row ≤ 0) → (e ≢ SqliteFailure NoRoom → 0 < length row → ¬ IsInt (column row 0)) → IsReadError 0 (column row 0) e
    → (e ≡ SqliteFailure NoRoom) ⊎ (¬ IsInt (column row 0))
no_integer row e index kind (inl h) = inr (λ is. let null = past_end row 0 (index h) in let same = sym null ∙ is.1 in cc)
no_integer [] e index kind (inr h) = inr (λ is. let same = is.1 in cc)
no_integer (v ∷ row) e index kind (inr (inl h)) = inr (kind (λ f. let same = sym h ∙ f in cc) (omega arith))
no_integer (v ∷ row) e index kind (inr (inr (inl h))) = inr (kind (λ f. let same = sym h ∙ f in cc) (omega arith))
no_integer (v ∷ row) e index kind (inr (inr (inr (inl h)))) = inr (kind (λ f. let same = sym h ∙ f in cc) (omega arith))
no_integer (v ∷ row) e index kind (inr (inr (inr (inr h)))) = inl h

pub no_last : (old new : State) (rows : List Row) (row : Row) (e : Error) → Contains (row_numbers rows) (row_number row) → (e ≡ SqliteFailure NoRoom) ⊎ (¬ IsInt (column row 0)) → RefusesRows old new rows e
no_last old new rows row e held (inl h) = inl (inl h)
no_last old new rows row e held (inr h) =
    let it = numbered_entry rows (row_number row) held in inr (it.0, it.1, inl (subst (λ (v : Value). ¬ IsInt v) (sym it.2) h))

pub unreadable_at : (at : ℕ) (rows : List Row) (row : Row) → at < length rows → get_or rows at row ≡ row → IsUnreadable (pair row) → HaveUnreadable (map pair rows)
unreadable_at at rows row low item h =
    (pair row, (at, rw length-map low, get_or-map pair rows at row (pair row) low ∙ ap pair item), h)

pub unreadable_entries : (trees : Trees) (rows : List Row) → AreInOrder (entries trees) rows → HaveUnreadable (map pair rows) → HaveUnreadable (entries trees)
unreadable_entries trees rows order h =
    let among : Contains rows h.0 = subst (λ (rs : List Row). Contains rs h.0) (read_pairs trees rows order) h.1 in
    (h.0, Contains-permutation _ _ h.0 (IsPermutation-sym _ _ order.same) among, h.2)

pub told_as_cause : (e cause : Error) → journal_fault_of e ≡ Store cause → e ≡ cause
told_as_cause (SqliteFailure NoRoom) cause h = absurd cc
told_as_cause e cause h = cc
