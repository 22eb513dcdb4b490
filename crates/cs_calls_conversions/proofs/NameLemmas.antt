-- The names of columns, as a schema has them.
use Rattle.std.proofs.Common.{◌≡◌, ◌≤◌, ◌<◌, ℕ, List, length, map, get_or, slice_get, Some, sym, string_bytes, String, Global, refl}
use Rattle.std.specs.List.{AllByRecursion}
use Rattle.std.proofs.lemmas.List.{length-map}
use Rattle.std.proofs.lemmas.Option.{slice_get_read}
use Rattle.cs_value.proofs.ListLemmas.{AllByRecursion-at, get_or_map_at}
use Rattle.cs_value.specs.declared.TheConstants.{MAX_CONTENT_LEN}
use Rattle.cs_value.specs.State.{SchemaData, IsColumnName, IsSchema}

-- a column's name is short enough for a text
pub name_short : (names : List (String Global)) (schema : SchemaData) (i : ℕ) (name : String Global) → map string_bytes names ≡ schema.columns → IsSchema schema → i < length names → name ≡ get_or names i name → length (string_bytes name) ≤ MAX_CONTENT_LEN
name_short names schema i name same is within here =
    let all : AllByRecursion IsColumnName (map string_bytes names) = rw same is.named in
    let lt : i < length (map string_bytes names) = rw (length-map names string_bytes) within in
    (AllByRecursion-at IsColumnName (map string_bytes names) i (string_bytes name) lt (sym (get_or_map_at names i name within here string_bytes)) all).short

-- the name at an index
pub name_at : (names : List (String Global)) (columns : List (List ℕ)) (i : ℕ) (name : String Global) → map string_bytes names ≡ columns → i < length names → name ≡ get_or names i name → string_bytes name ≡ get_or columns i (string_bytes name)
name_at names columns i name same within here = rw (← same) (sym (get_or_map_at names i name within here string_bytes))

pub name_found : (names : List (String Global)) (columns : List (List ℕ)) (i : ℕ) (name : String Global) → map string_bytes names ≡ columns → i < length names → name ≡ get_or names i name → slice_get columns i ≡ Some (string_bytes name)
name_found names columns i name same within here =
    let lt : i < length columns = rw (← same, length-map names string_bytes) within in
    slice_get_read columns (length columns) i (string_bytes name) refl lt (name_at names columns i name same within here)

-- nor is what is read of it
pub short_text : (names : List (String Global)) (schema : SchemaData) (i : ℕ) (name : String Global) (text : List ℕ) → map string_bytes names ≡ schema.columns → IsSchema schema → i < length names → name ≡ get_or names i name → text ≡ string_bytes name → length text ≤ MAX_CONTENT_LEN
short_text names schema i name text same is within here read = rw read (name_short names schema i name same is within here)
