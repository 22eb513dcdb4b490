-- The tables and first images of a session, one after another, and the changes that are made of them.
use Rattle.std.proofs.Common.{◌≡◌, ◌≢◌, inl, inr, ℕ, false, List, [], ◌∷◌, ◌++◌, length, All, AllPairs, filter_map, Option, Some, None, option_map, option_to_list, refl, sym, ap, ◌∙◌, arith}
use Rattle.std.specs.Prelude.{IfSome}
use Rattle.std.specs.Borrow.{Bor}
use Rattle.std.proofs.lemmas.List.{append-nil}
use Rattle.std.specs.List.{AllByRecursion}
use Rattle.std.proofs.lemmas.List.Elements.{All-push, All-pop, recursion_from_All, All-from_recursion, filter_map-append}
use Rattle.std.proofs.lemmas.List.Quantifiers.{all_pairs_push}
use Rattle.cs_value.specs.declared.value.OwnedValue.{OwnedValue}
use Rattle.cs_value.specs.State.{SchemaData, State, IsRowAt}
use Rattle.cs_value.proofs.KeyedRows.{length-IsKeyedRow}
use Rattle.cs_value.proofs.ListLemmas.{AllByRecursion-append_right, PairsByRecursion, recursion_from_AllPairs, cons_option-nil}
use Rattle.cs_wire_entries.specs.declared.entry.Change.{Change}
use Rattle.cs_wire_entries.specs.declared.entry.Entry.{Entry}
use Rattle.cs_wire.specs.Entry.{IsChange, IsEntry, key_of}
use Rattle.cs_group.specs.Net.{net_row_change}
use Rattle.cs_group.proofs.KeyPlaceLemmas.{row_under}
use Rattle.cs_apply_conflict_kinds.proofs.NetLemmas.{NetLeads, net_leads}
use Rattle.cs_session_notes.specs.declared.fault.SessionFault.{SessionFault}
use Rattle.cs_session_notes.specs.FirstImages.{FirstImage, AttachedTable, Notes, IsAttachedTable, HasAttached}
use Rattle.cs_session_notes.specs.Changes.{LacksTable, LacksNamed, RefusesTable, RefusesNamed, RefusesChanges}

-- ---- a refusal

-- a table that is not as it was attached is one of them all
pub refuses_one : (state : State) (notes : Notes) (table : AttachedTable) (fault : SessionFault) → ((¬ HasAttached state table) → LacksTable state notes)
    → RefusesTable state table fault → RefusesChanges state notes fault
refuses_one state notes table fault lacks (inl wrong) = inl (wrong.0, lacks wrong.1)
refuses_one state notes table fault lacks (inr resource) = inr resource

-- nor is one of those of a name
pub refuses_named : (state : State) (name : List ℕ) (notes : Notes) (table : AttachedTable) (fault : SessionFault) → ((¬ HasAttached state table) → LacksNamed state name notes)
    → RefusesTable state table fault → RefusesNamed state name notes fault
refuses_named state name notes table fault lacks (inl wrong) = inl (wrong.0, lacks wrong.1)
refuses_named state name notes table fault lacks (inr resource) = inr resource

-- ---- the change of a key

-- it has a value for each flag
pub widths : (schema : SchemaData) (key : List ℕ) (lent : Option (Bor (List OwnedValue))) (row : Option (List OwnedValue)) → option_map (λ r. r.now) lent ≡ row
    → IfSome row (IsRowAt schema key) → IfSome lent (λ r. length schema.flags ≡ length r.now)
widths schema key None row is fits = tt
widths schema key (Some r) row is fits =
    let fit : IsRowAt schema key r.now = rw (← is) at fits in
    length-IsKeyedRow schema.flags r.now fit.keyed

-- a change of the row with this key
abbrev pub IsChangeOf : List ℕ → List ℕ → Change → Type 0
IsChangeOf flags key change = IsChange flags change × (key_of flags change ≡ key)

-- the net change of a row is one
pub change_fits : (schema : SchemaData) (key : List ℕ) (before after : Option (List OwnedValue)) → IfSome before (IsRowAt schema key) → IfSome after (IsRowAt schema key)
    → IfSome (net_row_change schema.flags before after) (IsChangeOf schema.flags key)
change_fits schema key before after b a =
    at (net_row_change schema.flags before after) (net_leads schema.flags key before after (row_under schema key before b) (row_under schema key after a))
  where
    at : (o : Option Change) → NetLeads schema.flags key before after o → IfSome o (IsChangeOf schema.flags key)
    at None leads = tt
    at (Some change) leads = (leads.fits, leads.same)

-- ---- the entries of a table

abbrev pub entry_of : Change → Entry
entry_of change = record { indirect = false; change = change }

-- a key that none of the first has, none of the second has
abbrev pub HasNoOther : {X Y : Type 0} → (X → List ℕ) → (Y → List ℕ) → List X → List Y → Type 0
HasNoOther x_key y_key xs ys = (key : List ℕ) → All (λ x. x_key x ≢ key) xs → All (λ y. y_key y ≢ key) ys

module _ {X Y : Type 0} (x_key : X → List ℕ) (y_key : Y → List ℕ) (xs : List X) (ys : List Y) (so : HasNoOther x_key y_key xs ys) (x : X) where
  others : (key : List ℕ) → All (λ z. x_key z ≢ key) (xs ++ x ∷ []) → All (λ z. x_key z ≢ key) xs × (x_key x ≢ key)
  others key apart = All-pop (λ z. x_key z ≢ key) (xs ++ x ∷ []) xs (Some x) refl apart

  -- one more of the first, and what is made of it
  pub no_other_more : (o : Option Y) → IfSome o (λ y. y_key y ≡ x_key x) → HasNoOther x_key y_key (xs ++ x ∷ []) (ys ++ option_to_list o)
  no_other_more None same key apart = rw (append-nil ys) (so key (others key apart).0)
  no_other_more (Some y) same key apart = All-push (λ z. y_key z ≢ key) ys y (so key (others key apart).0) (λ is. (others key apart).1 (sym same ∙ is))

-- the entries are of keys of these first images, and no two of one key
pub record AreOfKeys (flags : List ℕ) (firsts : List FirstImage) (entries : List Entry) : Type 0 where
  pub each : All (IsEntry flags) entries
  pub once : AllPairs (λ d e. key_of flags d.change ≢ key_of flags e.change) entries
  pub no_other : HasNoOther (λ f. f.key) (λ e. key_of flags e.change) firsts entries

-- one more first image, and the change of its key, if there is one
pub key_more : (flags : List ℕ) (firsts : List FirstImage) (entries : List Entry) → AreOfKeys flags firsts entries → (first : FirstImage) → All (λ f. f.key ≢ first.key) firsts
    → (o : Option Change) → IfSome o (IsChangeOf flags first.key) → AreOfKeys flags (firsts ++ first ∷ []) (entries ++ option_to_list (option_map entry_of o))
key_more flags firsts entries so first apart None fits = record {
  each = rw (append-nil entries) so.each;
  once = rw (append-nil entries) so.once;
  no_other = no_other_more (λ (f : FirstImage). f.key) (λ (e : Entry). key_of flags e.change) firsts entries so.no_other first None tt;
}
key_more flags firsts entries so first apart (Some change) fits = record {
  each = All-push (IsEntry flags) entries (entry_of change) so.each fits.0;
  once = all_pairs_push (λ (d e : Entry). key_of flags d.change ≢ key_of flags e.change) entries (entry_of change) so.once (rw fits.1 (so.no_other first.key apart));
  no_other = no_other_more (λ (f : FirstImage). f.key) (λ (e : Entry). key_of flags e.change) firsts entries so.no_other first (Some (entry_of change)) fits.1;
}

-- ---- one first image after another

before_one : {X : Type 0} (R : X → X → Type 0) (done rest : List X) (x : X) → PairsByRecursion R (done ++ x ∷ rest) → AllByRecursion (λ y. R y x) done
before_one R [] rest x each = tt
before_one R (y ∷ done) rest x each = ((AllByRecursion-append_right (R y) done (x ∷ rest) each.0).0, before_one R done rest x each.1)

pub filter_map_then : {X Y : Type 0} (h : X → Option Y) (done : List X) (x : X) → filter_map h (done ++ x ∷ []) ≡ filter_map h done ++ option_to_list (h x)
filter_map_then h done x = filter_map-append h done (x ∷ []) ∙ ap (λ (l : List _). filter_map h done ++ l) (cons_option-nil (h x))

-- the next of a table's first images
module _ (table : AttachedTable) (is : IsAttachedTable table) (done rest : List FirstImage) (first : FirstImage) (all : done ++ first ∷ rest ≡ table.firsts) where
  abbrev FitsIn : FirstImage → Type 0
  FitsIn f = IfSome f.row (IsRowAt table.schema f.key)

  pub next_fits : IfSome first.row (IsRowAt table.schema first.key)
  next_fits = (AllByRecursion-append_right FitsIn done (first ∷ rest) (recursion_from_All FitsIn (done ++ first ∷ rest) (rw all is.rows))).0

  pub next_apart : All (λ f. f.key ≢ first.key) done
  next_apart = All-from_recursion (λ (f : FirstImage). f.key ≢ first.key) done
      (before_one (λ (f h : FirstImage). f.key ≢ h.key) done rest first (recursion_from_AllPairs (λ (f h : FirstImage). f.key ≢ h.key) (done ++ first ∷ rest) (rw all is.once)))

-- no entry is of no key
pub no_keys : (flags : List ℕ) (entries : List Entry) → entries ≡ [] → AreOfKeys flags [] entries
no_keys flags entries none = rw none (record {
  each = λ k d lt. absurd (omega arith);
  once = λ i j d lt within. absurd (omega arith);
  no_other = λ key apart k d lt. absurd (omega arith);
})
