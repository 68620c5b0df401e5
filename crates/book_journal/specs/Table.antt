-- The journal's table.
use Rattle.std.specs.Prelude.{◌≡◌, ℕ, Bool, true, false, List, [], ◌∷◌, Some, codes}
use Rattle.sqlite.specs.Collation.TheVariants.{Binary}
use Rattle.sqlite.specs.declared.types.Value.TheVariants.{Null}
use Rattle.sqlite.specs.Kind.{Kind}
use Rattle.sqlite_schema.specs.declared.schema.Column.{Column}
use Rattle.sqlite.specs.Kind.TheVariants.{Integer, Text}
use Rattle.sqlite.specs.Table.{Table}
use Rattle.sqlite.specs.Schema.{Schema}

abbrev pub strict_column : List ℕ → Kind → Bool → Column
strict_column name kind not_null = record { name = name; kind = kind; is_strict = true; not_null = not_null; default = Null; collation = Binary }

-- CREATE TABLE entry(no INTEGER PRIMARY KEY, line TEXT NOT NULL) STRICT
abbrev pub entry_table : Table
entry_table = record {
  name = codes "entry";
  tree = 0;
  columns = strict_column (codes "no") Integer false ∷ strict_column (codes "line") Text true ∷ [];
  key = Some 0;
  primary = 0 ∷ [];
  uniques = [];
  orders = [];
  checks = [];
  references = [];
  computed = [];
  stamps = record { places = []; terms = []; formats = [] };
  is_counted = false;
}

-- a database with this table and nothing else
abbrev pub journal_schema : Schema
journal_schema = record { tables = entry_table ∷ []; indexes = []; views = [] }

abbrev pub no_schema : Schema
no_schema = record { tables = []; indexes = []; views = [] }

-- no rule but those of its columns
pub record HasNoRule (table : Table) : Type 0 where
  pub uniques : table.uniques ≡ []
  pub orders : table.orders ≡ []
  pub checks : table.checks ≡ []
  pub references : table.references ≡ []
  pub computed : table.computed ≡ []
  pub stamps : table.stamps ≡ record { places = []; terms = []; formats = [] }
