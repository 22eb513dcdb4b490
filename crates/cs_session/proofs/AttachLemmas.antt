-- Tables that are attached, as the code and as the definitions have them.
use Rattle.std.proofs.Common.{◌≡◌, ◌≢◌, ◌↔◌, ◌==◌, ℕ, Bool, true, false, List, [], ◌∷◌, ◌++◌, length, get_or, map, All, Any, IsTrue, inl, inr, refl, sym, ap, subst, ◌∙◌, arith}
use Rattle.std.specs.Prelude.{is_some, Option, None, Some, IfSome, IfNone, Result, Ok, Err, OnOk}
use Rattle.std.specs.List.{AllByRecursion, list_all}
use Rattle.std.proofs.lemmas.Bool.{and_parts, eqb-true}
use Rattle.std.proofs.lemmas.List.{nil_from_length, map-append, length-map, get_or-map}
use Rattle.std.proofs.lemmas.List.Elements.{recursion_from_All, All-from_recursion, All-push}
use Rattle.std.proofs.lemmas.List.Quantifiers.{all_pairs_push}
use Rattle.cs_value.specs.Table.{IsName}
use Rattle.cs_value.specs.State.{SchemaData, IsSchema, State, schema_at, rows_at}
use Rattle.cs_rows.specs.declared.fault.StoreError.{StoreError}
use Rattle.cs_store.specs.Faults.{IsReadRefusal, refused_for}
use Rattle.cs_session_notes.specs.declared.attached.Attached.{Attached}
use Rattle.cs_session_notes.specs.FirstImages.{AttachedTable, Notes, IsAttachedTable, IsNotes, rewound_rows, rewound}
use Rattle.cs_session_notes.specs.Attaching.{IsNewTable, Attaches, IsAttachRefusal}
use Rattle.cs_session_notes.specs.Faults.{fault_of}
use Rattle.cs_session_notes.specs.Views.{attached_of, IsIndexOf, HasNonePending}

-- ---- a name

-- a table has the name where one is found
pub is_attached : (name : List ℕ) (tables : List Attached) (index : ℕ) → IsIndexOf tables name index → Any (λ t. t.name ≡ name) (map attached_of tables)
is_attached name [] index found = absurd (omega (arith, found.0))
is_attached name (table ∷ tables) index found =
    let t = get_or (table ∷ tables) index table in
    (index, attached_of t, omega (arith, found.0, length-map (table ∷ tables) attached_of), get_or-map attached_of (table ∷ tables) index table (attached_of t) found.0, found.1 table)

pub attached_where_some : (name : List ℕ) (tables : List Attached) (index : Option ℕ) → is_some index ≡ true → IfSome index (IsIndexOf tables name) → Any (λ t. t.name ≡ name) (map attached_of tables)
attached_where_some name tables None e found = absurd (let apart : true ≡ false = sym e in cc)
attached_where_some name tables (Some i) e found = is_attached name tables i found

pub new_where_none : (name : List ℕ) (tables : List Attached) (index : Option ℕ) → is_some index ≡ false → IfNone index (IsNewTable (map attached_of tables) name) → IsNewTable (map attached_of tables) name
new_where_none name tables None e fresh = fresh
new_where_none name tables (Some i) e fresh = absurd (let apart : true ≡ false = e in cc)

-- ---- no key is written

abbrev has_none : Attached → Bool
has_none table = length (table.firsts.kept ++ table.firsts.pending) == 0

all_none : (tables : List Attached) → IsTrue (list_all has_none tables) → AllByRecursion (λ t. t.firsts ≡ []) (map attached_of tables)
all_none [] e = tt
all_none (table ∷ tables) e =
    let both = and_parts (has_none table) (list_all has_none tables) e in
    let firsts = table.firsts.kept ++ table.firsts.pending in
    (nil_from_length firsts (eqb-true (length firsts) 0 both.0), all_none tables both.1)

none_all : (tables : List Attached) → AllByRecursion (λ t. t.firsts ≡ []) (map attached_of tables) → IsTrue (list_all has_none tables)
none_all [] h = refl
none_all (table ∷ tables) h = rw (h.0) (none_all tables h.1)

-- no key of them is
pub unwritten : (tables : List Attached) → IsTrue (list_all has_none tables) ↔ All (λ t. t.firsts ≡ []) (map attached_of tables)
unwritten tables = (
  λ e. All-from_recursion (λ (t : AttachedTable). t.firsts ≡ []) (map attached_of tables) (all_none tables e),
  λ all. none_all tables (recursion_from_All (λ (t : AttachedTable). t.firsts ≡ []) (map attached_of tables) all),
)

-- ---- a table after the others

pub one_more : (notes : Notes) (name : List ℕ) (schema : SchemaData) → IsNotes notes → IsName name → IsSchema schema → IsNewTable notes name
    → IsNotes (notes ++ record { name = name; schema = schema; firsts = [] } ∷ [])
one_more notes name schema is named is_schema fresh =
    let new : AttachedTable = record { name = name; schema = schema; firsts = [] } in
    record {
      each = All-push IsAttachedTable notes new is.each (record {
        named = named;
        schema = is_schema;
        rows = λ k d lt. absurd (omega arith);
        once = λ i j d lt within. absurd (omega arith);
      });
      once = all_pairs_push (λ (s t : AttachedTable). s.name ≢ t.name) notes new is.once fresh;
    }

-- what the code keeps of its tables
pub push_keeps : (old new : List Attached) (name : List ℕ) (schema : SchemaData) → map attached_of new ≡ map attached_of old ++ record { name = name; schema = schema; firsts = [] } ∷ []
    → (AllByRecursion HasNonePending old → AllByRecursion HasNonePending new) → IsNotes (map attached_of old) × AllByRecursion HasNonePending old → IsName name → IsSchema schema → IsNewTable (map attached_of old) name
    → IsNotes (map attached_of new) × AllByRecursion HasNonePending new
push_keeps old new name schema pushed none_pending are name_is schema_is fresh = (subst IsNotes (sym pushed) (one_more (map attached_of old) name schema are.0 name_is schema_is fresh), none_pending are.1)

-- ---- what attaching answers

pub attaches : {X E : Type 0} (result : Result X E) (state : State) (name : List ℕ) (old new : Notes) (schema : SchemaData) → schema_at state name ≡ Some schema → IsNewTable old name
    → OnOk result (new ≡ old ++ record { name = name; schema = schema; firsts = [] } ∷ []) → OnOk result (Attaches state name old new)
attaches (Ok x) state name old new schema found fresh is = record { schema = schema; found = found; fresh = fresh; is = is }
attaches (Err e) state name old new schema found fresh is = tt

-- its rows from before are its current ones, after those of the others
pub attached_rewound : {X E : Type 0} (result : Result X E) (state : State) (name : List ℕ) (old new : Notes) → OnOk result (Attaches state name old new)
    → OnOk result (rewound new state ≡ rewound old state ++ rows_at state name ∷ [])
attached_rewound (Ok x) state name old new done =
    ap (λ (notes : Notes). rewound notes state) done.is ∙ map-append (rewound_rows state) old (record { name = name; schema = done.schema; firsts = [] } ∷ [])
attached_rewound (Err e) state name old new done = tt

-- ---- refusals

-- what a read of a store is refused with is what attaching may be refused with
pub read_refused : (e : StoreError) → IsReadRefusal e → IsAttachRefusal (fault_of e)
read_refused e (inl damaged) = subst (λ (x : StoreError). IsAttachRefusal (fault_of x)) (sym damaged) (inr (inl refl))
read_refused e (inr (inl memory)) = subst (λ (x : StoreError). IsAttachRefusal (fault_of x)) (sym memory) tt
read_refused e (inr (inr (refused_for cause))) = inr (inr (refused_for cause))
