-- What CREATE TABLE makes where nothing has the name of the table of records.
use Rattle.std.proofs.Common.{◌≡◌, ◌≢◌, ◌⊎◌, ◌||◌, inl, inr, ℕ, codes, List, [], ◌∷◌, ◌++◌, Bool, true, false, is_some, Option, Some, None, slice_get, slice_range, Result, Ok, Err, IsTrue, length, refl, sym, ap, subst, ◌∙◌, arith}
use Rattle.std.proofs.lemmas.Bool.{or_parts, true≢false}
use Rattle.sqlite_value.specs.Order.{Row}
use Rattle.sqlite_schema.specs.declared.schema.Table.{Table}
use Rattle.sqlite_schema.specs.declared.schema.Schema.{Schema}
use Rattle.sqlite_schema.specs.Names.{same_name, table_named, index_named, view_named}
use Rattle.sqlite_schema.specs.declared.command.Command.TheVariants.{CreateTable}
use Rattle.sqlite_rules.specs.Lists.{Has}
use Rattle.sqlite_rules.proofs.ListLemmas.{all_has, has_left, has_right, has_either, has_got}
use Rattle.sqlite_resolve.specs.Compile.{first, table_defined_by}
use Rattle.sqlite_resolve.specs.declared.error.CompileError.{CompileError}
use Rattle.sqlite_catalog.specs.Change.{is_used, next_tree, created}
use Rattle.sqlite_catalog.specs.Calls.{CreatesTable}
use Rattle.sqlite_catalog.proofs.ListFacts.{none_placed}
use Rattle.sqlite_tied.specs.Compute.{everything}
use Rattle.sqlite.specs.Effect.{Database, IsDatabase}
use Rattle.sqlite.specs.Does.{Tally, lacks_sequence, sequence_text, MakesSequence}
use Rattle.sqlite.specs.State.{State, HasCleanDisk, Survives, Writes, Executes, CommitsBy}
use Rattle.sqlite.proofs.Callers.{statement_of, runs_as}
use Rattle.cs_store_sql.specs.Records.{records_table, records_tree, record_rows, table_name, LacksRecords, IsDeclaredOtherwise, DeclaresRecords, HoldsRecords, AreNumbered, Adds, Makes, IsOther, with_records, AddsAlone, AddsCounts, AddsRecords, IsUnsupported, KeepsOthers, by_one, by_each, GoesOn, KeepsCrash}
use Rattle.cs_store_sql.specs.declared.layout.Declaration.{Declaration}
use Rattle.cs_store_sql.specs.declared.layout.Declaration.TheVariants as declared
use Rattle.cs_store_sql.specs.Layout.{IsDeclaration}
use Rattle.cs_store_sql.specs.Statements.{create_text, Creates}
use Rattle.cs_store_sql.proofs.PlaceLemmas.{found_passes}
use Rattle.cs_store_sql.proofs.QueryTexts.{understood_is, plainly, commands}
use Rattle.cs_store_sql.proofs.StatementLemmas.{went, same_value, inside_keeps_crash, write_goes_on}

-- the statement writes as its command says
-- the whole text is that of the statement
whole_text : (start end : ℕ) → start ≡ 0 → end ≡ length create_text → slice_range create_text start end ≡ create_text
whole_text start end first last = rw (first, last) refl

writes : (old new : State) (count : ℕ) → Creates old.now.schema → Executes create_text [] old new (Ok count) → Writes old new None CreateTable create_text [] count
writes old new count makes h =
    let schema = old.now.schema in
    let it = makes.0 in
    let text = ap (statement_of create_text) (understood_is schema create_text it makes.1.is) ∙ whole_text it.start it.end makes.2.start makes.2.end in
    subst (λ t. Writes old new None CreateTable t [] count) text
    (runs_as create_text [] old new schema refl CreateTable (commands schema create_text it makes.1 ∙ makes.2.command) (plainly schema create_text it makes.1) count h)

-- ---- what is added

-- a table that is made is added
adds : (text : List ℕ) (old new : Database) → CreatesTable old.schema text old.trees new.schema new.trees → Adds text old new
adds text old new made = record { table = made.table; defined = made.defined; free = made.free; schema = made.is; empty = made.empty; others = made.others }

-- and one in which SQL counts, where a table wants it and there is none
counted : (first new : Database) (lacks : Bool) → lacks_sequence first.schema ≡ lacks → MakesSequence first (Ok new)
    → ((lacks_sequence first.schema ≡ false) × (new ≡ first)) ⊎ (IsTrue (lacks_sequence first.schema) × Adds sequence_text first new)
counted first new true lacks h = inr (lacks, adds sequence_text first new (rw lacks at h))
counted first new false has h = inl (has, same_value (rw has at h))

-- so the text makes the table
pub makes : (old new : State) (count : ℕ) → Creates old.now.schema → Executes create_text [] old new (Ok count) → Makes old.now new.now
makes old new count creates h =
    let w = writes old new count creates h in
    let all = went w.changed in
    let parts = went all.1 in
    let now : all.0 ≡ new.now = sym (ap (λ (p : Tally × Database). p.1) (same_value all.2)) in
    record {
      sound = w.sound;
      first = parts.0;
      adds = adds create_text old.now parts.0 parts.1;
      counts = subst (λ (d : Database). ((lacks_sequence parts.0.schema ≡ false) × (d ≡ parts.0)) ⊎ (IsTrue (lacks_sequence parts.0.schema) × Adds sequence_text parts.0 d)) now (counted parts.0 all.0 (lacks_sequence parts.0.schema) refl parts.2);
      frozen = w.frozen;
    }

-- the transaction goes on
pub make_goes_on : (old new : State) (count : ℕ) → Creates old.now.schema → IsTrue old.in_transaction → Executes create_text [] old new (Ok count) → GoesOn old new
make_goes_on old new count creates inside h = write_goes_on old new _ _ _ _ count inside (writes old new count creates h)

-- inside a transaction it commits nothing
pub make_keeps_crash : (old new : State) → Creates old.now.schema → (HasCleanDisk old → IsTrue old.in_transaction) → Survives old new (CommitsBy create_text [] old) → KeepsCrash old new
make_keeps_crash old new creates = inside_keeps_crash create_text [] old new (λ clean. record {
  command = CreateTable;
  is = commands old.now.schema create_text creates.0 creates.1 ∙ creates.2.command;
  plain = plainly old.now.schema create_text creates.0 creates.1;
  commits = λ same. absurd (cc);
  releases = λ name same. absurd (cc);
})

-- ---- what the texts define

-- the name of the table that a text defines
abbrev name_of : Result Table CompileError → List ℕ
name_of (Ok table) = table.name
name_of (Err e) = []

-- the text of the table makes it
pub create_defines : table_defined_by create_text ≡ Ok (records_table 0)
unfolding table_defined_by first everything
create_defines = refl

create_is : (table : Table) → table_defined_by create_text ≡ Ok table → table ≡ records_table 0
create_is table defined = let both = sym create_defines ∙ defined in cc

sequence_name : (table : Table) → table_defined_by sequence_text ≡ Ok table → table.name ≡ codes "sqlite_sequence"
unfolding table_defined_by first everything
sequence_name table defined = sym (ap name_of defined)

-- ---- all else stays

module _ (text : List ℕ) (old new : Database) (added : Adds text old new) where
  -- each table is declared as it was, and has its rows
  table_stays : (table : Table) → Has old.schema.tables table → Has new.schema.tables table × (new.trees table.tree ≡ old.trees table.tree)
  table_stays table has = (
    subst (λ (s : Schema). Has s.tables table) (sym added.schema) (has_left old.schema.tables _ table has),
    all_has (λ t. new.trees t.tree ≡ old.trees t.tree) old.schema.tables table added.others has,
  )

-- ---- the table has no row

-- the table in which SQL counts has another name
other_name : (table : Table) → table_defined_by sequence_text ≡ Ok table → table_name ≡ table.name → ⊥
other_name table defined same = absurd (let e : 3 ≡ 15 = ap length (same ∙ sequence_name table defined) in omega arith)

-- where no table has its name, it is not listed
nothing_there : (o : Option ℕ) → is_some o ≡ false → o ≡ None
nothing_there None h = refl
nothing_there (Some at) h = absurd (cc)

lacking_named : (schema : Schema) → LacksRecords schema → table_named schema table_name ≡ None
lacking_named schema lacks =
    let parts = or_parts (is_some (table_named schema table_name) || is_some (index_named schema table_name)) (is_some (view_named schema table_name)) lacks in
    nothing_there (table_named schema table_name) (or_parts (is_some (table_named schema table_name)) (is_some (index_named schema table_name)) parts.0).0

unlisted : (schema : Schema) (table : Table) → LacksRecords schema → table.name ≡ table_name → Has schema.tables table → ⊥
unfolding same_name
unlisted schema table lacks is has =
    let other = none_placed (λ t. same_name t.name table_name) schema.tables 0 table (lacking_named schema lacks) has in
    true≢false (sym (ap (λ n. same_name n table_name) is) ∙ other)

-- a schema that declares the table does not lack it
pub not_lacking : (schema : Schema) → LacksRecords schema → DeclaresRecords schema → ⊥
not_lacking schema lacks declares = unlisted schema _ lacks refl (has_got schema.tables declares.index _ declares.table)

-- all else stays
made_schema : (old new : Database) → Adds create_text old new → (LacksRecords old.schema) × (new.schema ≡ with_records old.schema)
made_schema old new added =
    let is = create_is added.table added.defined in (
      subst (λ (t : Table). is_used old.schema t.name ≡ false) is added.free,
      added.schema ∙ ap (created old.schema) is,
    )

made_adds : (old new : Database) → Makes old new → AddsRecords old new
made_adds old new made =
    let one = made_schema old made.first made.adds in
    record {
      lacks = one.0;
      adds = elim made.counts [
        | inl same ↦ inl (subst (λ (s : Schema). AddsAlone s new) one.1 (record { has = same.0; is = ap (λ (d : Database). d.schema) same.1 }))
        | inr more ↦ inr (subst (λ (s : Schema). AddsCounts s new) one.1 (record {
          lacks = more.0;
          table = more.1.table;
          defined = more.1.defined;
          is = more.1.schema;
          empty = more.1.empty;
        }))
      ];
    }

pub made_keeps : (old new : Database) → Makes old new → KeepsOthers old new
made_keeps old new made =
    record {
      rows = λ table has other. elim made.counts [
        | inl same ↦ subst (λ (d : Database). d.trees table.tree ≡ old.trees table.tree) (sym same.1) (table_stays create_text old made.first made.adds table has).1
        | inr more ↦
            let first = table_stays create_text old made.first made.adds table has in
            (table_stays sequence_text made.first new more.1 table first.0).1 ∙ first.1
      ];
      schema = inr (made_adds old new made);
      frozen = by_one old new made.frozen;
    }

-- ---- one call after another

-- a table that was declared is declared
pub tables_stay : (old new : Database) → KeepsOthers old new → (table : Table) → Has old.schema.tables table → Has new.schema.tables table
tables_stay old new keeps table has = elim keeps.schema [
  | inl same ↦ subst (λ (s : Schema). Has s.tables table) (sym same) has
  | inr added ↦
      let more : Has (with_records old.schema).tables table = has_left old.schema.tables _ table has in
      elim added.adds [
        | inl one ↦ subst (λ (s : Schema). Has s.tables table) (sym one.is) more
        | inr two ↦ subst (λ (s : Schema). Has s.tables table) (sym two.is) (has_left (with_records old.schema).tables _ table more)
      ]
]

-- the table of records that is added has its name
added_once_named : (old new : Database) → AddsRecords old new → table_named new.schema table_name ≡ None → ⊥
unfolding same_name
added_once_named old new added none = true≢false (none_placed (λ t. same_name t.name table_name) new.schema.tables 0 made none (elim added.adds [
  | inl one ↦ subst (λ (s : Schema). Has s.tables made) (sym one.is) listed
  | inr two ↦ subst (λ (s : Schema). Has s.tables made) (sym two.is) (has_left (with_records old.schema).tables _ made listed)
]))
  where
    made : Table
    made = records_table (next_tree old.schema)

    listed : Has (with_records old.schema).tables made
    listed = has_right old.schema.tables (made ∷ []) made (inl refl)

-- so it is not added twice
added_once : (old new : Database) → AddsRecords old new → LacksRecords new.schema → ⊥
added_once old new added lacks = added_once_named old new added (lacking_named new.schema lacks)

-- the table in which SQL counts is another one than that of records
counts_other : (table : Table) → table_defined_by sequence_text ≡ Ok table → IsOther table
unfolding same_name
counts_other table defined = rw (sequence_name table defined) refl

-- and still has no row
counts_stay : (old mid new : Database) → AddsCounts (with_records old.schema) mid → KeepsOthers mid new → mid.schema ≡ new.schema → AddsCounts (with_records old.schema) new
counts_stay old mid new counts keeps same = record {
  lacks = counts.lacks;
  table = counts.table;
  defined = counts.defined;
  is = sym same ∙ counts.is;
  empty = keeps.rows made (subst (λ (s : Schema). Has s.tables made) (sym counts.is) listed) (counts_other counts.table counts.defined) ∙ counts.empty;
}
  where
    made : Table
    made = record counts.table { tree = next_tree (with_records old.schema) }

    listed : Has (created (with_records old.schema) counts.table).tables made
    listed = has_right (with_records old.schema).tables (made ∷ []) made (inl refl)

schema_then : (old mid new : Database) → KeepsOthers old mid → KeepsOthers mid new → (new.schema ≡ old.schema) ⊎ AddsRecords old new
schema_then old mid new one two = elim one.schema [
  | inl same ↦ elim two.schema [
    | inl still ↦ inl (still ∙ same)
    | inr added ↦ inr (record {
      lacks = subst LacksRecords same added.lacks;
      adds = subst (λ s. AddsAlone (with_records s) new ⊎ AddsCounts (with_records s) new) same added.adds;
    })
  ]
  | inr added ↦ elim two.schema [
    | inl still ↦ inr (record {
      lacks = added.lacks;
      adds = elim added.adds [
        | inl alone ↦ inl (record { has = alone.has; is = still ∙ alone.is })
        | inr counts ↦ inr (counts_stay old mid new counts two (sym still))
      ];
    })
    | inr again ↦ absurd (added_once old mid added again.lacks)
  ]
]

pub others_then : (old mid new : Database) → IsDatabase mid → KeepsOthers old mid → KeepsOthers mid new → KeepsOthers old new
others_then old mid new sound one two = record {
  rows = λ table has other. two.rows table (tables_stay old mid one table has) other ∙ one.rows table has other;
  schema = schema_then old mid new one two;
  frozen = by_each old mid new one.frozen sound two.frozen;
}

-- and doing nothing keeps all
pub others_itself : (db : Database) → KeepsOthers db db
others_itself db = record {
  rows = λ table has other. refl;
  schema = inl refl;
  frozen = by_one db db (record { rows = λ t catalog version frozen. refl; texts = λ row has foreign. has; version = refl });
}

-- ---- what is declared otherwise

-- what is declared otherwise is not that table, and does not lack its name
pub not_declared : (schema : Schema) → IsDeclaredOtherwise schema → DeclaresRecords schema → ⊥
not_declared schema (inl it) declares =
    let index : it.0 ≡ declares.index = (let both = sym it.2 ∙ declares.named in cc) in
    let same : it.1 ≡ records_table (records_tree schema) = (let both = sym it.3 ∙ ap (slice_get schema.tables) index ∙ declares.table in cc) in
    it.4 (same ∙ ap (λ (t : Table). records_table t.tree) (sym same))
not_declared schema (inr it) declares = absurd (let none = sym it.0 ∙ declares.named in cc)

pub otherwise_used : (schema : Schema) → IsDeclaredOtherwise schema → LacksRecords schema → ⊥
otherwise_used schema otherwise lacks =
    let parts = or_parts (is_some (table_named schema table_name) || is_some (index_named schema table_name)) (is_some (view_named schema table_name)) lacks in
    let named = nothing_there (table_named schema table_name) (or_parts (is_some (table_named schema table_name)) (is_some (index_named schema table_name)) parts.0).0 in
    let viewed = nothing_there (view_named schema table_name) parts.1 in
    elim otherwise [ inl it ↦ absurd (let e = sym named ∙ it.2 in cc) | inr it ↦ absurd (let e = sym viewed ∙ it.3 in cc) ]

-- the table that is added is the one of its name
added_is : (old new : Database) → AddsRecords old new → (table : Table) → same_name table.name table_name ≡ true → Has new.schema.tables table → table ≡ records_table table.tree
added_is old new added table named has = elim added.adds [
  | inl alone ↦ of_records (subst (λ (s : Schema). Has s.tables table) alone.is has)
  | inr two ↦ elim (has_either (with_records old.schema).tables _ table (subst (λ (s : Schema). Has s.tables table) two.is has)) [
    | inl before ↦ of_records before
    | inr here ↦ elim here [
      | inl same ↦ absurd (true≢false (sym named ∙ ap (λ (t : Table). same_name t.name table_name) same ∙ counts_other two.table two.defined))
      | inr nothing ↦ absurd nothing
    ]
  ]
]
  where
    of_records : Has (with_records old.schema).tables table → table ≡ records_table table.tree
    of_records there = elim (has_either old.schema.tables _ table there) [
      | inl before ↦ absurd (true≢false (sym named ∙ none_placed (λ t. same_name t.name table_name) old.schema.tables 0 table (lacking_named old.schema added.lacks) before))
      | inr here ↦ elim here [
        | inl same ↦ same ∙ ap (λ (t : Table). records_table t.tree) (sym same)
        | inr nothing ↦ absurd nothing
      ]
    ]

-- so it is not declared otherwise
added_not_otherwise : (old new : Database) → AddsRecords old new → IsDeclaredOtherwise new.schema → ⊥
added_not_otherwise old new added (inl it) =
    let named = found_passes (λ t. same_name t.name table_name) new.schema.tables 0 it.0 it.1 (subst (λ n. table_named new.schema table_name ≡ Some n) (omega arith) it.2) it.3 in
    it.4 (added_is old new added it.1 named (has_got new.schema.tables it.0 it.1 it.3))
added_not_otherwise old new added (inr it) = added_once_named old new added it.0

-- where the table was made, and is not declared, the statements on records are not used
pub made_unsupported : (old new : Database) (it : Declaration) → Makes old new → IsDeclaration new.schema it → (it ≢ declared.Records) → IsUnsupported new.schema
made_unsupported old new declared.Missing made is other = absurd (added_once old new (made_adds old new made) is)
made_unsupported old new declared.Records made is other = absurd (other refl)
made_unsupported old new declared.Other made is other = absurd (added_not_otherwise old new (made_adds old new made) is)
made_unsupported old new declared.Unsupported made is other = is

-- the last of the tables, where it is none of those before
last_is : (tables : List Table) (last table : Table) → (Has tables table → ⊥) → Has (tables ++ last ∷ []) table → table ≡ last
last_is tables last table none has = elim (has_either tables (last ∷ []) table has) [
  | inl before ↦ absurd (none before)
  | inr here ↦ elim here [ inl same ↦ same | inr nothing ↦ absurd nothing ]
]

-- so it is the one that was made, which has no row
first_empty : (old new : Database) → Adds create_text old new → LacksRecords old.schema → (table : Table) → table.name ≡ table_name → Has new.schema.tables table → new.trees table.tree ≡ []
first_empty old new added lacks table is has =
    let made = last_is old.schema.tables _ table (unlisted old.schema table lacks is) (subst (λ (s : Schema). Has s.tables table) added.schema has) in
    ap (λ (t : Table). new.trees t.tree) made ∙ added.empty

made_empty : (old new : Database) → Makes old new → LacksRecords old.schema → (table : Table) → table.name ≡ table_name → Has new.schema.tables table → new.trees table.tree ≡ []
made_empty old new made lacks table is has = elim made.counts [
  | inl same ↦ subst (λ (d : Database). d.trees table.tree ≡ []) (sym same.1) (first_empty old made.first made.adds lacks table is (subst (λ (d : Database). Has d.schema.tables table) same.1 has))
  | inr more ↦ of_two more.1
]
  where
    of_two : Adds sequence_text made.first new → new.trees table.tree ≡ []
    of_two more =
        let there : Has made.first.schema.tables table = elim (has_either made.first.schema.tables _ table (subst (λ (s : Schema). Has s.tables table) more.schema has)) [
          | inl before ↦ before
          | inr here ↦ elim here [
            | inl same ↦ absurd (other_name more.table more.defined (sym is ∙ ap (λ (t : Table). t.name) same))
            | inr nothing ↦ absurd nothing
          ]
        ] in
        (table_stays sequence_text made.first new more table there).1 ∙ first_empty old made.first made.adds lacks table is there

-- no rows are numbered
none_numbered : (rows : List Row) → rows ≡ [] → AreNumbered rows
none_numbered rows none = rw none (record { each = tt; once = λ i j d less most. absurd (omega arith) })

-- and the database holds it
pub made_holds : (old new : Database) → Makes old new → LacksRecords old.schema → DeclaresRecords new.schema → HoldsRecords new × (record_rows new ≡ [])
made_holds old new made lacks declares =
    let none = made_empty old new made lacks (records_table (records_tree new.schema)) refl (has_got new.schema.tables declares.index _ declares.table) in
    (record { declares = declares; sound = made.sound; numbered = none_numbered _ none }, none)
