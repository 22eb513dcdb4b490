-- What is known of a table, once its rows were written or read.
use Rattle.std.proofs.Common.{◌≡◌, Bool, true, false, List, ℕ, Option, Some, None, option_map, refl, sym, ap, subst, ◌∙◌, true≢false}
use Rattle.std.specs.Prelude.{IsSome}
use Rattle.std.specs.FinMap.{get, insert}
use Rattle.cs_value.specs.declared.value.OwnedValue.{OwnedValue}
use Rattle.cs_value.specs.State.{TableData, RowMap, State, rows_at, schema_at, with_rows}
use Rattle.cs_rows.specs.Rows.{Adds}
use Rattle.cs_rows.proofs.WrittenRows.{same_schemas}
use Rattle.sqlite.specs.Effect.{Database}
use Rattle.sqlite.specs.State.{State as Connection, HasCleanDisk}
use Rattle.cs_store_tables.specs.Store.{IsKnown, KnownData, Knows, tables_in, without_key}

-- a table that is known is so after its rows were written, but for the key
pub knows_written : (old new : Connection) (known : Option KnownData) (table : List ℕ) (rows : RowMap) → (HasCleanDisk new → HasCleanDisk old) → (HasCleanDisk old → IsSome (get (tables_in old.now) table))
    → (HasCleanDisk new → tables_in new.now ≡ with_rows (tables_in old.now) table rows) → Knows old known → Knows new (without_key known)
knows_written old new None table rows was declared wrote knows clean = tt
knows_written old new (Some k) table rows was declared wrote knows clean = at (get (tables_in old.now) table) refl (declared (was clean))
  where
    at : (o : Option TableData) → get (tables_in old.now) table ≡ o → IsSome o → IsKnown new.now (k.0, k.1, None)
    at None none is = absurd (true≢false (sym is))
    at (Some found) is some = record { schema = ap (λ (s : State). schema_at s k.0) (wrote clean) ∙ same_schemas (tables_in old.now) table found rows is k.0 ∙ (knows (was clean)).schema; placed = tt }

-- and after a row was added, or one had its key, and where a transaction begins or is committed
pub knows_still : (old new : Connection) (known : Option KnownData) → (HasCleanDisk new → HasCleanDisk old) → (HasCleanDisk new → tables_in new.now ≡ tables_in old.now) → Knows old known → Knows new (without_key known)
knows_still old new None was same knows clean = tt
knows_still old new (Some k) was same knows clean = record { schema = ap (λ (s : State). schema_at s k.0) (same clean) ∙ (knows (was clean)).schema; placed = tt }

pub knows_added : (old new : Connection) (known : Option KnownData) (table key : List ℕ) (row : List OwnedValue) (added : Bool) → (HasCleanDisk new → HasCleanDisk old) → (HasCleanDisk old → IsSome (get (tables_in old.now) table))
    → (HasCleanDisk new → Adds (tables_in old.now) table key row added (tables_in new.now)) → Knows old known → Knows new (without_key known)
knows_added old new known table key row true was declared adds = knows_written old new known table (insert (rows_at (tables_in old.now) table) key row) was declared (λ clean. (adds clean).1)
knows_added old new known table key row false was declared adds = knows_still old new known was (λ clean. (adds clean).1)

-- and where nothing was written
pub knows_same : (old new : Connection) (known : Option KnownData) → (HasCleanDisk new → HasCleanDisk old) → (HasCleanDisk new → new.now ≡ old.now) → Knows old known → Knows new known
knows_same old new None was same knows clean = tt
knows_same old new (Some k) was same knows clean = subst (λ (db : Database). IsKnown db k) (sym (same clean)) (knows (was clean))

-- the schema that is known of a name is that of the table
pub known_found : (s : Connection) (known : Option KnownData) (name : List ℕ) → option_map (λ (t : KnownData). t.0) known ≡ Some name → Knows s known → HasCleanDisk s
    → option_map (λ (t : KnownData). t.1) known ≡ schema_at (tables_in s.now) name
known_found s None name named knows clean = absurd (cc)
known_found s (Some k) name named knows clean = let same : k.0 ≡ name = cc in sym (rw (← same) (knows clean).schema)
