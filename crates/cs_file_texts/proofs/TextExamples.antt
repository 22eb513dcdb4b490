-- The readable texts of changesets, on a table `t` of two columns, with the first as its key.
use Rattle.std.proofs.Common.{◌≡◌, negsuc, true, false, List, [], ◌∷◌, ◌++◌, codes, refl}
use Rattle.std.specs.Fmt.{digits}
use Rattle.hex.specs.Hex.{encode_with}
use Rattle.cs_value.specs.declared.value.OwnedValue.{OwnedValue}
use Rattle.cs_value.specs.declared.value.OwnedValue.TheVariants.{Int, Text, Blob, Null}
use Rattle.cs_wire_entries.specs.declared.entry.Change.TheVariants.{Insert, Delete}
use Rattle.cs_wire.proofs.Examples.{one_change, x, y, row, update, idle_update}
use Rattle.cs_value.specs.Quoting.{doubled}
use Rattle.cs_file_texts.specs.Texts.{literal, separated, field_text, header_text, entry_text, group_text, dump_of}
use Rattle.cs_file_texts.specs.Texts.{assignment, condition, statement, sql_of}

computing : Unit {0}
unfolding digits encode_with doubled literal separated field_text header_text entry_text group_text assignment condition statement
computing = tt

-- literals

literals :
    (literal (Text (codes "it's")) ≡ codes "'it''s'")
    × (literal (Text []) ≡ codes "''")
    × (literal (Blob (0 ∷ 171 ∷ 255 ∷ [])) ≡ codes "X'00abff'")
    × (literal (Int (negsuc 9223372036854775807)) ≡ codes "-9223372036854775808")
unfolding computing
literals = (refl, refl, refl, refl)

-- what the entries are

-- the row of the least integer and NULL
least_row : List OwnedValue
least_row = Int (negsuc 9223372036854775807) ∷ Null ∷ []

entries_are_dumped :
    (dump_of (one_change (Insert least_row))
    ≡ codes "table 't' columns 2 flags 1,0\n" ++ codes "insert 0 new -9223372036854775808,NULL\n")
    × (entry_text false (update x y) ≡ codes "update 0 old 1,'x' new -,'y'\n")
    × (entry_text true (Delete row) ≡ codes "delete 1 old 1,'x'\n")  -- made indirectly
    × (dump_of [] ≡ [])
unfolding computing least_row
entries_are_dumped = (refl, refl, refl, refl)

-- the same as SQL

entries_are_sql :
    (sql_of (one_change (Insert row)) ≡ codes "INSERT INTO \"t\" VALUES(1, 'x');\n")
    × (sql_of (one_change (Delete row)) ≡ codes "DELETE FROM \"t\" WHERE c1=1 AND c2='x';\n")
    × (sql_of (one_change (update x y)) ≡ codes "UPDATE \"t\" SET c2='y' WHERE c1=1 AND c2='x';\n")
    -- an update that modifies no column
    × (sql_of (one_change idle_update) ≡ codes "UPDATE \"t\" SET c1=1 WHERE c1=1;\n")
    -- an update from NULL, and one to NULL
    × (sql_of (one_change (update Null y)) ≡ codes "UPDATE \"t\" SET c2='y' WHERE c1=1 AND c2 IS NULL;\n")
    × (sql_of (one_change (update x Null)) ≡ codes "UPDATE \"t\" SET c2=NULL WHERE c1=1 AND c2='x';\n")
    -- a quote in the name of a table is doubled
    × (statement (codes "a\"b") (Insert row) ≡ codes "INSERT INTO \"a\"\"b\" VALUES(1, 'x');\n")
unfolding computing
entries_are_sql = (refl, refl, refl, refl, refl, refl, refl)
