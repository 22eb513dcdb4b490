-- What is checked of the records of a store: that they are those of tables.
use Rattle.std.proofs.Common.{◌≡◌, ◌≢◌, ◌≤◌, ℕ, length, get_or, arith, List, [], ◌∷◌, ◌++◌, Option, Some, None, Bool, true, false, cond, inl, inr, refl, sym, ap, subst, ◌∙◌}
use Rattle.std.specs.Option.{IsSome}
use Rattle.std.specs.List.{AllByRecursion}
use Rattle.std.specs.FinMap as map
use Rattle.std.specs.Cmp.{tied_itself}
use Rattle.std.specs.Cmp.Lexicographic.{slice_cmp, nat_list_cmp_total}
use Rattle.std.specs.Ordering.{nat_cmp, is_eq}
use Rattle.std.specs.declared.cmp.Ordering.TheVariants.{Less}
use Rattle.std.proofs.lemmas.Bool.{cases_Bool}
use Rattle.sqlite_rules.specs.Lists.{Has}
use Rattle.sqlite_rules.proofs.ListLemmas.{all_from, has_left, has_either, has_last}
use Rattle.cs_value.specs.Table.{IsName}
use Rattle.cs_value.specs.State.{SchemaData, IsSchema, IsRowAt}
use Rattle.cs_value.proofs.ByteMaps.{tied_bytes}
use Rattle.cs_store_sql.specs.Records.{Records, RecordData, ListsTable}
use Rattle.cs_store_encoding.specs.declared.version.Version.{Version}
use Rattle.cs_store_encoding.specs.declared.version.Version.TheVariants.{Current, Former}
use Rattle.cs_store_encoding.specs.Declaration.{declaration_bytes, IsFormer}
use Rattle.cs_store_encoding.specs.Stored.{former_version, IsVersion}
use Rattle.cs_store_encoding.specs.Versions.{bytes_of}
use Rattle.cs_store_encoding.specs.Valid.{IsDeclarationIn, IsStoredRow, AreValid, DeclaresTable, IsGoodTable, Schemas, AreDeclared, IsGoodRow}
use Rattle.cs_store_sql.proofs.ListedRows.{entry_there, entry_after, there_entry}
use Rattle.cs_store_encoding.proofs.DeclarationLemmas.{declarations_apart}

-- each version that is found is one that is read
pub is_version : (v : Version) → IsVersion (bytes_of v)
is_version Current = inl refl
is_version Former = inr refl

-- ---- the version

-- where records are valid, the first that is listed under the empty name is that of a version
pub first_version : (records : Records) (first : List ℕ × List ℕ) (more : List (List ℕ × List ℕ)) → ListsTable records [] (first ∷ more) → AreValid records → (first.0 ≡ []) × IsVersion first.1
first_version records first more all valid = elim (there_entry records [] (first ∷ more) all [] valid.written valid.version_is) [
  | inl here ↦ (ap (λ (e : List ℕ × List ℕ). e.0) (sym here), subst IsVersion (ap (λ (e : List ℕ × List ℕ). e.1) here) valid.is_version)
  | inr later ↦ absurd (none_below first.0 (entry_after records [] first more all ([], valid.written) later))
]
  where
    none_below : (key : List ℕ) → slice_cmp nat_cmp key [] ≡ Less → ⊥
    none_below [] e = cc
    none_below (b ∷ key) e = cc

module _ (listed : List (List ℕ × List ℕ)) (first : List ℕ × List ℕ) (some : 1 ≤ length listed) (is : first ≡ get_or listed 0 first) where
  -- so where it has none, the records are not valid
  pub lists_none : ((first.0 ≡ []) × IsVersion first.1 → ⊥) → (listed ≢ []) × ((records : Records) → ListsTable records [] listed → AreValid records → ⊥)
  lists_none other = (λ none. (let one = rw none at some in omega (arith, one)), λ records. at records listed some is)
    where
      at : (records : Records) (es : List (List ℕ × List ℕ)) → 1 ≤ length es → first ≡ get_or es 0 first → ListsTable records [] es → AreValid records → ⊥
      at records [] one same lists valid = absurd (omega (arith, one))
      at records (e ∷ es) one same lists valid = other (subst (λ (f : List ℕ × List ℕ). (f.0 ≡ []) × IsVersion f.1) (sym same) (first_version records e es lists valid))

-- ---- the tables that are declared

-- a key and a value
abbrev Entry : Type 0
Entry = List ℕ × List ℕ

-- no record declares no table
pub declared_none : (written : List ℕ) (schemas : Schemas) → schemas ≡ map.empty → AreDeclared written [] schemas
declared_none written schemas none = record {
  found = λ name schema found. absurd (let e = sym (map.get-empty (slice_cmp nat_cmp) name) ∙ ap (λ m. map.get m name) (sym none) ∙ found in cc);
  each = λ r has. absurd has;
}

-- a record more that is no declaration
pub declared_other : (written : List ℕ) (xs : List Entry) (r : Entry) (schemas : Schemas) → AreDeclared written xs schemas → r.0 ≡ [] → AreDeclared written (xs ++ r ∷ []) schemas
declared_other written xs r schemas so other = record {
  found = λ name schema found. let at = so.found name schema found in (at.0, has_left xs (r ∷ []) at.0 at.1, at.2);
  each = λ s has is. elim (has_either xs (r ∷ []) s has) [
    | inl before ↦ so.each s before is
    | inr last ↦ elim last [ inl same ↦ absurd (is (ap (λ (t : Entry). t.0) same ∙ other)) | inr none ↦ absurd none ]
  ];
}

-- and one that is
pub declared_table : (written : List ℕ) (xs : List Entry) (r : Entry) (schemas : Schemas) (name : List ℕ) (schema : SchemaData) → AreDeclared written xs schemas → DeclaresTable written r name schema
    → AreDeclared written (xs ++ r ∷ []) (map.insert schemas name schema)
declared_table written xs r schemas name schema so here = record { found = found; each = each }
  where
    got : (q : List ℕ) → map.get (map.insert schemas name schema) q ≡ cond (is_eq (slice_cmp nat_cmp q name)) (Some schema) (map.get schemas q)
    got q = map.get-insert nat_list_cmp_total schemas name schema q

    found : (q : List ℕ) (s : SchemaData) → map.get (map.insert schemas name schema) q ≡ Some s → (r2 : Entry) × Has (xs ++ r ∷ []) r2 × DeclaresTable written r2 q s
    found q s is = elim (cases_Bool (is_eq (slice_cmp nat_cmp q name))) [
      | inl tied ↦
          let own : q ≡ name = tied_bytes q name tied in
          let same : schema ≡ s = (let e = ap (λ b. cond b (Some schema) (map.get schemas q)) (sym tied) ∙ sym (got q) ∙ is in cc) in
          (r, has_last (xs ++ r ∷ []) xs r refl, subst (λ (n : List ℕ). DeclaresTable written r n s) (sym own) (subst (DeclaresTable written r name) same here))
      | inr apart ↦
          let at = so.found q s (ap (λ b. cond b (Some schema) (map.get schemas q)) (sym apart) ∙ sym (got q) ∙ is) in
          (at.0, has_left xs (r ∷ []) at.0 at.1, at.2)
    ]

    some_of : (b : Bool) (o : Option SchemaData) → IsSome o → IsSome (cond b (Some schema) o)
    some_of true o h = refl
    some_of false o h = h

    each : (s : Entry) → Has (xs ++ r ∷ []) s → s.0 ≢ [] → IsSome (map.get (map.insert schemas name schema) s.0)
    each s has is = elim (has_either xs (r ∷ []) s has) [
      | inl before ↦ subst IsSome (sym (got s.0)) (some_of (is_eq (slice_cmp nat_cmp s.0 name)) (map.get schemas s.0) (so.each s before is))
      | inr last ↦ elim last [
        | inl same ↦
            let own : s.0 ≡ name = ap (λ (t : Entry). t.0) same ∙ here.own in
            let tied : is_eq (slice_cmp nat_cmp s.0 name) ≡ true = ap (λ (k : List ℕ). is_eq (slice_cmp nat_cmp k name)) own ∙ ap is_eq (tied_itself nat_list_cmp_total name) in
            subst IsSome (sym (got s.0 ∙ ap (λ b. cond b (Some schema) (map.get schemas s.0)) tied)) refl
        | inr none ↦ absurd none
      ]
    ]

-- ---- what is checked is valid

-- the keys and values under the empty name are listed, and the tables of a version that they declare are noted
module _ (records : Records) (listed : List Entry) (all : ListsTable records [] listed) (written : List ℕ) (schemas : Schemas) (declared : AreDeclared written listed schemas) where
  -- a schema that was noted is declared there
  noted_there : (name : List ℕ) (schema : SchemaData) → map.get schemas name ≡ Some schema → records [] name ≡ Some (declaration_bytes schema)
  noted_there name schema is =
      let at = declared.found name schema is in
      ap (records []) (sym at.2.own) ∙ entry_there records [] listed all at.0 at.1 ∙ ap Some at.2.spelled

  -- a declaration that is there was noted
  there_noted : (name bytes : List ℕ) → name ≢ [] → records [] name ≡ Some bytes
      → (schema : SchemaData) × (map.get schemas name ≡ Some schema) × IsName name × IsSchema schema × (bytes ≡ declaration_bytes schema) × (written ≡ former_version → IsFormer schema)
  there_noted name bytes some is = at (map.get schemas name) refl (declared.each (name, bytes) (there_entry records [] listed all name bytes is) some)
    where
      at : (o : Option SchemaData) → map.get schemas name ≡ o → IsSome o
          → (schema : SchemaData) × (map.get schemas name ≡ Some schema) × IsName name × IsSchema schema × (bytes ≡ declaration_bytes schema) × (written ≡ former_version → IsFormer schema)
      at None none h = absurd (cc)
      at (Some schema) found h =
          let d = (declared.found name schema found).2 in
          let same : bytes ≡ declaration_bytes schema = (let e = sym is ∙ noted_there name schema found in cc) in
          (schema, found, d.named, d.is_schema, same, d.former)

  -- a good row under the name of a table is stored there
  stored_row : (name key value : List ℕ) → name ≢ [] → IsGoodRow schemas (record { tab = name; key = key; value = value }) → IsStoredRow records name key value
  stored_row name key value some good =
      let row = good some in
      record {
        schema = row.0;
        is_schema = (declared.found name row.0 row.1).2.is_schema;
        declared = noted_there name row.0 row.1;
        row = row.2.row;
        fits = row.2.fits;
        spelled = row.2.spelled;
      }

  -- records that were checked are valid
  pub checked_valid : ((name key value : List ℕ) → records name key ≡ Some value → IsGoodRow schemas (record { tab = name; key = key; value = value })) → IsVersion written → records [] [] ≡ Some written → AreValid records
  checked_valid good known first = record {
    written = written;
    is_version = known;
    version_is = first;
    tables = λ name bytes some is. let n = there_noted name bytes some is in (n.2, (n.0, n.3, n.4, n.5));
    rows = λ name key value some is. stored_row name key value some (good name key value is);
  }

  -- and valid records pass the check
  pub valid_row : AreValid records → (r : RecordData) → records r.tab r.key ≡ Some r.value → IsGoodRow schemas r
  valid_row valid r is some =
      let stored = valid.rows r.tab r.key r.value some is in
      let n = there_noted r.tab (declaration_bytes stored.schema) some stored.declared in
      let same : n.0 ≡ stored.schema = declarations_apart n.0 stored.schema n.3 stored.is_schema (sym n.4) in
      (n.0, n.1, record { row = stored.row; fits = subst (λ (s : SchemaData). IsRowAt s r.key stored.row) (sym same) stored.fits; spelled = stored.spelled })

-- as do their declarations
pub valid_tables : (records : Records) (listed : List Entry) (written : List ℕ) → ListsTable records [] listed → records [] [] ≡ Some written → AreValid records → AllByRecursion (IsGoodTable written) listed
valid_tables records listed written all first valid =
    let own : valid.written ≡ written = (let e = sym valid.version_is ∙ first in cc) in
    all_from (IsGoodTable written) listed (λ r has some.
    subst (λ (w : List ℕ). IsName r.0 × IsDeclarationIn w r.1) own (valid.tables r.0 r.1 some (entry_there records [] listed all r has)))
