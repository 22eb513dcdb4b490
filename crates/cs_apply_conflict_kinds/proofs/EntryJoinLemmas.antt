-- What becomes of two entries of one key does what both do in turn.
use Rattle.std.proofs.Common.{◌≡◌, ℕ, zero, suc, Bool, true, false, true≢false, if◌then◌else◌, List, [], ◌∷◌, length, map, Option, Some, None, refl, sym, ap, ◌∙◌, arith}
use Rattle.std.specs.Prelude.{◌&&◌}
use Rattle.std.specs.Cmp.Lexicographic.{pointwise}
use Rattle.std.proofs.lemmas.Bool.{and_parts}
use Rattle.std.proofs.lemmas.Option.{none-some}
use Rattle.cs_value.specs.declared.value.OwnedValue.{OwnedValue}
use Rattle.cs_value.specs.declared.value.OwnedField.{OwnedField}
use Rattle.cs_value.specs.declared.value.OwnedField.TheVariants.{Undefined, Defined}
use Rattle.cs_value.specs.Table.{IsKeyedRow}
use Rattle.cs_value.proofs.KeyedRows.{length-IsKeyedRow}
use Rattle.cs_wire_entries.specs.declared.entry.Change.{Change}
use Rattle.cs_wire_entries.specs.declared.entry.Change.TheVariants.{Insert, Delete, Update}
use Rattle.cs_wire_entries.specs.declared.entry.Entry.{Entry}
use Rattle.cs_wire.specs.Entry.{IsKeyedUpdate, IsChange, IsEntry, with_key, before_image, key_of}
use Rattle.cs_wire_entries.proofs.EntryLemmas.{length-IsKeyedUpdate}
use Rattle.cs_apply_conflict_kinds.specs.declared.conflict.Kind.TheVariants.{NotFound, Conflict}
use Rattle.cs_group.specs.Net.{is_same, unless_same, by_flag, old_record, new_record, values_of, net_change}
use Rattle.cs_apply_conflict_kinds.specs.Conflicts.{has_values, filled, kind_between, row_after}
use Rattle.cs_group.specs.Joining.{over, laid_over, joint_image, follows, becomes, merged, left_of}
use Rattle.cs_apply_conflict_kinds.proofs.ConflictLemmas.{filled_row, has_its_values, all_values, update_undone, no_data}
use Rattle.cs_group.proofs.ImageLemmas.{same_values, same_itself, length-with_key}
use Rattle.cs_apply_conflict_kinds.proofs.NetLemmas.{NetLeads, net_leads}

-- the change finds a row, or none, as it says, and leaves this row, or none
pub record LeadsFrom (flags : List ℕ) (change : Change) (before after : Option (List OwnedValue)) : Type 0 where
  pub finds : kind_between (before_image change) before ≡ None
  pub leaves : row_after flags change before ≡ after

-- what is left of an entry leads from a row to another, or nothing is left and they are one
abbrev pub LeftLeads : List ℕ → Option (List OwnedValue) → Option (List OwnedValue) → Option Entry → Type 0
LeftLeads flags before after None = before ≡ after
LeftLeads flags before after (Some entry) = LeadsFrom flags entry.change before after

-- ---- a column

-- what two images say of a column leads from its value before to its value after
abbrev pub ColumnLeads : ℕ → OwnedField → OwnedField → OwnedValue → OwnedValue → Type 0
ColumnLeads zero Undefined Undefined v w = v ≡ w
ColumnLeads zero Undefined (Defined y) v w = ⊥
ColumnLeads zero (Defined x) Undefined v w = ⊥
ColumnLeads zero (Defined x) (Defined y) v w = (x ≡ v) × (y ≡ w)
ColumnLeads (suc flag) Undefined a v w = ⊥
ColumnLeads (suc flag) (Defined x) Undefined v w = ⊥
ColumnLeads (suc flag) (Defined x) (Defined y) v w = (x ≡ v) × (y ≡ v) × (v ≡ w)

-- and so does what two such pairs say together, if the second leads on
over_leads : (flag : ℕ) (b a c d : OwnedField) (u v w : OwnedValue) → ColumnLeads flag b a u v → ColumnLeads flag c d v w → ColumnLeads flag (over b c) (over d a) u w
over_leads zero Undefined Undefined Undefined Undefined u v w h k = h ∙ k
over_leads zero Undefined Undefined (Defined x) (Defined y) u v w h k = (k.0 ∙ sym h, k.1)
over_leads zero (Defined x) (Defined y) Undefined Undefined u v w h k = (h.0, h.1 ∙ k)
over_leads zero (Defined x) (Defined y) (Defined c) (Defined d) u v w h k = (h.0, k.1)
over_leads zero Undefined (Defined y) c d u v w h k = absurd h
over_leads zero (Defined x) Undefined c d u v w h k = absurd h
over_leads zero Undefined Undefined Undefined (Defined y) u v w h k = absurd k
over_leads zero Undefined Undefined (Defined x) Undefined u v w h k = absurd k
over_leads zero (Defined x) (Defined y) Undefined (Defined d) u v w h k = absurd k
over_leads zero (Defined x) (Defined y) (Defined c) Undefined u v w h k = absurd k
over_leads (suc flag) Undefined a c d u v w h k = absurd h
over_leads (suc flag) (Defined x) Undefined c d u v w h k = absurd h
over_leads (suc flag) (Defined x) (Defined y) Undefined d u v w h k = absurd k
over_leads (suc flag) (Defined x) (Defined y) (Defined c) Undefined u v w h k = absurd k
over_leads (suc flag) (Defined x) (Defined y) (Defined c) (Defined d) u v w h k = (h.0, k.1 ∙ sym h.2, h.2 ∙ k.2)

-- the field has this value, if it is defined
abbrev IsOf : OwnedField → OwnedValue → Type 0
IsOf Undefined v = Unit {0}
IsOf (Defined x) v = x ≡ v

-- the first image has the value before
is_of : (flag : ℕ) (b a : OwnedField) (v w : OwnedValue) → ColumnLeads flag b a v w → IsOf b v
is_of flag Undefined a v w h = tt
is_of zero (Defined x) Undefined v w h = absurd h
is_of zero (Defined x) (Defined y) v w h = h.0
is_of (suc flag) (Defined x) Undefined v w h = absurd h
is_of (suc flag) (Defined x) (Defined y) v w h = h.0

-- and so has the old field of the update between the images
of_unless : (s : Bool) (b : OwnedField) (v : OwnedValue) → IsOf b v → IsOf (if s then Undefined else b) v
of_unless true b v h = tt
of_unless false b v h = h

of_by_flag : (flag : ℕ) (b a : OwnedField) (v w : OwnedValue) → ColumnLeads flag b a v w → IsOf (by_flag flag (unless_same b a b) b) v
of_by_flag zero b a v w h = of_unless (is_same b a) b v (is_of zero b a v w h)
of_by_flag (suc flag) b a v w h = is_of (suc flag) b a v w h

-- a row with the values of an image has them with one more column
has_more : (b : OwnedField) (v : OwnedValue) (row : List OwnedValue) (image : List OwnedField) → IsOf b v → has_values row image ≡ true → has_values (v ∷ row) (b ∷ image) ≡ true
has_more Undefined v row image h e = e
has_more (Defined x) v row image h e = rw (h, same_itself (Defined v)) e

-- the field leads to this value from the current one
abbrev Gives : OwnedField → OwnedValue → OwnedValue → Type 0
Gives Undefined v w = v ≡ w
Gives (Defined y) v w = y ≡ w

-- and the second image leads to the value after
gives : (flag : ℕ) (b a : OwnedField) (v w : OwnedValue) → ColumnLeads flag b a v w → Gives a v w
gives zero Undefined Undefined v w h = h
gives zero Undefined (Defined y) v w h = absurd h
gives zero (Defined x) Undefined v w h = absurd h
gives zero (Defined x) (Defined y) v w h = h.1
gives (suc flag) Undefined a v w h = absurd h
gives (suc flag) (Defined x) Undefined v w h = absurd h
gives (suc flag) (Defined x) (Defined y) v w h = h.1 ∙ h.2

-- where the images are one, so are the values
same_column : (flag : ℕ) (b a : OwnedField) (v w : OwnedValue) → ColumnLeads flag b a v w → is_same b a ≡ true → v ≡ w
same_column zero Undefined Undefined v w h e = h
same_column zero Undefined (Defined y) v w h e = absurd h
same_column zero (Defined x) Undefined v w h e = absurd h
same_column zero (Defined x) (Defined y) v w h e = sym h.0 ∙ same_values x y e ∙ h.1
same_column (suc flag) Undefined a v w h e = absurd h
same_column (suc flag) (Defined x) Undefined v w h e = absurd h
same_column (suc flag) (Defined x) (Defined y) v w h e = h.2

-- the field that the update says after it leads to that value too
gives_unless : (s : Bool) (b a : OwnedField) (v w : OwnedValue) → is_same b a ≡ s → ColumnLeads zero b a v w → Gives (if s then Undefined else a) v w
gives_unless true b a v w e h = same_column zero b a v w h e
gives_unless false b a v w e h = gives zero b a v w h

gives_key : (flag : ℕ) (b a : OwnedField) (v w : OwnedValue) → ColumnLeads (suc flag) b a v w → Gives b v w
gives_key flag Undefined a v w h = absurd h
gives_key flag (Defined x) Undefined v w h = absurd h
gives_key flag (Defined x) (Defined y) v w h = h.0 ∙ h.2

-- a row filled has one more column
fills_more : (f : OwnedField) (v w : OwnedValue) (image : List OwnedField) (row rest : List OwnedValue) → Gives f v w → filled image row ≡ rest → filled (f ∷ image) (v ∷ row) ≡ w ∷ rest
fills_more Undefined v w image row rest h e = cc (h, e)
fills_more (Defined y) v w image row rest h e = cc (h, e)

-- ---- a row

-- the same in each column
abbrev pub RowLeads : List ℕ → List OwnedField → List OwnedField → List OwnedValue → List OwnedValue → Type 0
RowLeads [] [] [] [] [] = Unit {0}
RowLeads [] [] [] [] (w ∷ other) = ⊥
RowLeads [] [] [] (v ∷ row) other = ⊥
RowLeads [] [] (a ∷ after) row other = ⊥
RowLeads [] (b ∷ before) after row other = ⊥
RowLeads (flag ∷ flags) [] after row other = ⊥
RowLeads (flag ∷ flags) (b ∷ before) [] row other = ⊥
RowLeads (flag ∷ flags) (b ∷ before) (a ∷ after) [] other = ⊥
RowLeads (flag ∷ flags) (b ∷ before) (a ∷ after) (v ∷ row) [] = ⊥
RowLeads (flag ∷ flags) (b ∷ before) (a ∷ after) (v ∷ row) (w ∷ other) = ColumnLeads flag b a v w × RowLeads flags before after row other

-- an update leads from a row with its old values to this row with its new ones
pub update_row : (flags : List ℕ) (old new : List OwnedField) (row : List OwnedValue) → IsKeyedUpdate flags old new → has_values row old ≡ true
    → RowLeads flags old (with_key flags old new) row (filled (with_key flags old new) row)
update_row [] [] [] [] fits e = tt
update_row [] [] [] (v ∷ row) fits e = absurd (true≢false (sym e))
update_row [] [] (n ∷ new) row fits e = absurd fits
update_row [] (o ∷ old) new row fits e = absurd fits
update_row (flag ∷ flags) [] new row fits e = absurd fits
update_row (flag ∷ flags) (o ∷ old) [] row fits e = absurd fits
update_row (flag ∷ flags) (o ∷ old) (n ∷ new) [] fits e = absurd (true≢false (sym e))
update_row (zero ∷ flags) (Undefined ∷ old) (Undefined ∷ new) (v ∷ row) fits e = (refl, update_row flags old new row fits.1 e)
update_row (zero ∷ flags) (Undefined ∷ old) (Defined y ∷ new) (v ∷ row) fits e = absurd fits.0
update_row (zero ∷ flags) (Defined x ∷ old) (Undefined ∷ new) (v ∷ row) fits e = absurd fits.0
update_row (zero ∷ flags) (Defined x ∷ old) (Defined y ∷ new) (v ∷ row) fits e =
    let both = and_parts (is_same (Defined x) (Defined v)) (has_values row old) e in
    ((same_values x v both.0, refl), update_row flags old new row fits.1 both.1)
update_row (suc flag ∷ flags) (Undefined ∷ old) (n ∷ new) (v ∷ row) fits e = absurd fits.0
update_row (suc flag ∷ flags) (Defined x ∷ old) (Defined y ∷ new) (v ∷ row) fits e = absurd fits.0
update_row (suc flag ∷ flags) (Defined x ∷ old) (Undefined ∷ new) (v ∷ row) fits e =
    let both = and_parts (is_same (Defined x) (Defined v)) (has_values row old) e in
    let same = same_values x v both.0 in
    ((same, same, sym same), update_row flags old new row fits.1 both.1)

-- two in turn lead from the first row to the last
pub rows_lead : (flags : List ℕ) (b a c d : List OwnedField) (row mid last : List OwnedValue) → RowLeads flags b a row mid → RowLeads flags c d mid last
    → RowLeads flags (laid_over b c) (laid_over d a) row last
rows_lead [] [] [] [] [] [] [] [] h k = tt
rows_lead [] [] [] [] [] [] [] (w ∷ last) h k = absurd k
rows_lead [] [] [] [] (z ∷ d) [] [] last h k = absurd k
rows_lead [] [] [] (y ∷ c) d [] [] last h k = absurd k
rows_lead [] [] [] c d [] (v ∷ mid) last h k = absurd h
rows_lead [] [] [] c d (u ∷ row) mid last h k = absurd h
rows_lead [] [] (n ∷ a) c d row mid last h k = absurd h
rows_lead [] (o ∷ b) a c d row mid last h k = absurd h
rows_lead (flag ∷ flags) [] a c d row mid last h k = absurd h
rows_lead (flag ∷ flags) (o ∷ b) [] c d row mid last h k = absurd h
rows_lead (flag ∷ flags) (o ∷ b) (n ∷ a) c d [] mid last h k = absurd h
rows_lead (flag ∷ flags) (o ∷ b) (n ∷ a) c d (u ∷ row) [] last h k = absurd h
rows_lead (flag ∷ flags) (o ∷ b) (n ∷ a) [] d (u ∷ row) (v ∷ mid) last h k = absurd k
rows_lead (flag ∷ flags) (o ∷ b) (n ∷ a) (y ∷ c) [] (u ∷ row) (v ∷ mid) last h k = absurd k
rows_lead (flag ∷ flags) (o ∷ b) (n ∷ a) (y ∷ c) (z ∷ d) (u ∷ row) (v ∷ mid) [] h k = absurd k
rows_lead (flag ∷ flags) (o ∷ b) (n ∷ a) (y ∷ c) (z ∷ d) (u ∷ row) (v ∷ mid) (w ∷ last) h k =
    (over_leads flag o n y z u v w h.0 k.0, rows_lead flags b a c d row mid last h.1 k.1)

-- the update between the images finds the row
net_finds : (flags : List ℕ) (before after : List OwnedField) (row other : List OwnedValue) → RowLeads flags before after row other
    → has_values row (old_record flags before after) ≡ true
net_finds [] [] [] [] [] h = refl
net_finds [] [] [] [] (w ∷ other) h = absurd h
net_finds [] [] [] (v ∷ row) other h = absurd h
net_finds [] [] (a ∷ after) row other h = absurd h
net_finds [] (b ∷ before) after row other h = absurd h
net_finds (flag ∷ flags) [] after row other h = absurd h
net_finds (flag ∷ flags) (b ∷ before) [] row other h = absurd h
net_finds (flag ∷ flags) (b ∷ before) (a ∷ after) [] other h = absurd h
net_finds (flag ∷ flags) (b ∷ before) (a ∷ after) (v ∷ row) [] h = absurd h
net_finds (flag ∷ flags) (b ∷ before) (a ∷ after) (v ∷ row) (w ∷ other) h =
    has_more (by_flag flag (unless_same b a b) b) v row (old_record flags before after) (of_by_flag flag b a v w h.0) (net_finds flags before after row other h.1)

-- and leaves the other
net_leaves : (flags : List ℕ) (before after : List OwnedField) (row other : List OwnedValue) → RowLeads flags before after row other
    → filled (with_key flags (old_record flags before after) (new_record flags before after)) row ≡ other
net_leaves [] [] [] [] [] h = refl
net_leaves [] [] [] [] (w ∷ other) h = absurd h
net_leaves [] [] [] (v ∷ row) other h = absurd h
net_leaves [] [] (a ∷ after) row other h = absurd h
net_leaves [] (b ∷ before) after row other h = absurd h
net_leaves (flag ∷ flags) [] after row other h = absurd h
net_leaves (flag ∷ flags) (b ∷ before) [] row other h = absurd h
net_leaves (flag ∷ flags) (b ∷ before) (a ∷ after) [] other h = absurd h
net_leaves (flag ∷ flags) (b ∷ before) (a ∷ after) (v ∷ row) [] h = absurd h
net_leaves (zero ∷ flags) (b ∷ before) (a ∷ after) (v ∷ row) (w ∷ other) h =
    fills_more (unless_same b a a) v w _ row other (gives_unless (is_same b a) b a v w refl h.0) (net_leaves flags before after row other h.1)
net_leaves (suc flag ∷ flags) (b ∷ before) (a ∷ after) (v ∷ row) (w ∷ other) h =
    fills_more b v w _ row other (gives_key flag b a v w h.0) (net_leaves flags before after row other h.1)

-- where the images are found equal, the rows are one
same_images : (flags : List ℕ) (before after : List OwnedField) (row other : List OwnedValue) → RowLeads flags before after row other
    → pointwise is_same before after ≡ true → row ≡ other
same_images [] [] [] [] [] h e = refl
same_images [] [] [] [] (w ∷ other) h e = absurd h
same_images [] [] [] (v ∷ row) other h e = absurd h
same_images [] [] (a ∷ after) row other h e = absurd h
same_images [] (b ∷ before) after row other h e = absurd h
same_images (flag ∷ flags) [] after row other h e = absurd h
same_images (flag ∷ flags) (b ∷ before) [] row other h e = absurd h
same_images (flag ∷ flags) (b ∷ before) (a ∷ after) [] other h e = absurd h
same_images (flag ∷ flags) (b ∷ before) (a ∷ after) (v ∷ row) [] h e = absurd h
same_images (flag ∷ flags) (b ∷ before) (a ∷ after) (v ∷ row) (w ∷ other) h e =
    let both = and_parts (is_same b a) (pointwise is_same before after) e in
    let first = same_column flag b a v w h.0 both.0 in
    let rest = same_images flags before after row other h.1 both.1 in
    cc (first, rest)

-- the values of an image laid over a row are the image filled from the row
laid_values : (image : List OwnedField) (row : List OwnedValue) → length image ≡ length row → values_of (laid_over image (map Defined row)) ≡ filled image row
laid_values [] [] e = refl
laid_values [] (v ∷ row) e = absurd (omega arith)
laid_values (f ∷ image) [] e = absurd (omega arith)
laid_values (Undefined ∷ image) (v ∷ row) e = ap (λ (l : List OwnedValue). v ∷ l) (laid_values image row (omega arith))
laid_values (Defined w ∷ image) (v ∷ row) e = ap (λ (l : List OwnedValue). w ∷ l) (laid_values image row (omega arith))

-- those of an update laid over the row that it finds are what it leaves
pub inserted_values : (flags : List ℕ) (row : List OwnedValue) (old new : List OwnedField) → IsKeyedRow flags row → IsKeyedUpdate flags old new
    → values_of (laid_over (with_key flags old new) (map Defined row)) ≡ filled (with_key flags old new) (filled (map Defined row) [])
inserted_values flags row old new keyed fits =
    let image = with_key flags old new in
    let widths = length-IsKeyedUpdate flags old new fits in
    laid_values image row (length-with_key flags old new widths.0 widths.1 ∙ length-IsKeyedRow flags row keyed) ∙ sym (ap (filled image) (filled_row row []))

-- and its old ones laid over the row that it leaves are the row that it found
pub deleted_values : (flags : List ℕ) (old new : List OwnedField) (row stood : List OwnedValue) → IsKeyedUpdate flags old new → IsKeyedRow flags row → has_values stood old ≡ true
    → row ≡ filled (with_key flags old new) stood → values_of (laid_over old (map Defined row)) ≡ stood
deleted_values flags old new row stood fits keyed e left =
    let widths = length-IsKeyedUpdate flags old new fits in
    laid_values old row (sym widths.0 ∙ length-IsKeyedRow flags row keyed) ∙ ap (filled old) left ∙ (update_undone flags old new stood fits e).1

-- ---- two changes

-- the net change leads from a row, or none, to another, or there is none and they are one
abbrev ChangeLeads : List ℕ → Option (List OwnedValue) → Option (List OwnedValue) → Option Change → Type 0
ChangeLeads flags before after None = before ≡ after
ChangeLeads flags before after (Some change) = LeadsFrom flags change before after

-- what the net change of two rows does
leads_between : (flags key : List ℕ) (before after : Option (List OwnedValue)) (net : Option Change) → NetLeads flags key before after net → ChangeLeads flags before after net
leads_between flags key before after None h = h
leads_between flags key before after (Some change) h = record { finds = h.finds; leaves = h.leaves }

-- of two updates
update_leads : (flags : List ℕ) (before after : List OwnedField) (row other : List OwnedValue) (s : Bool) → pointwise is_same before after ≡ s → RowLeads flags before after row other
    → ChangeLeads flags (Some row) (Some other) (if s then None else Some (Update (old_record flags before after) (new_record flags before after)))
update_leads flags before after row other true e h = ap Some (same_images flags before after row other h e)
update_leads flags before after row other false e h = record {
  finds = rw (net_finds flags before after row other h) refl;
  leaves = ap Some (net_leaves flags before after row other h);
}

-- where both find what they say, the second follows the first, and the net change does what both do
abbrev BothLead : List ℕ → Change → Change → Option (List OwnedValue) → Type 0
BothLead flags first second before =
    (follows flags first second ≡ true) × ChangeLeads flags before (row_after flags second (row_after flags first before)) (net_change flags (joint_image flags first second))

pub both_lead : (flags : List ℕ) (first second : Change) → IsChange flags first → IsChange flags second → key_of flags first ≡ key_of flags second → (before : Option (List OwnedValue))
    → kind_between (before_image first) before ≡ None → kind_between (before_image second) (row_after flags first before) ≡ None → BothLead flags first second before
both_lead flags (Insert row) (Insert other) p q k before e f = absurd (none-some Conflict (sym f))
both_lead flags (Insert row) (Delete other) p q k None e f = (refl, refl)
both_lead flags (Insert row) (Delete other) p q k (Some stood) e f = absurd (none-some Conflict (sym e))
both_lead flags (Insert row) (Update old new) p q k None e f =
    let values = values_of (laid_over (with_key flags old new) (map Defined row)) in
    (refl, record { finds = refl; leaves = ap Some (filled_row values [] ∙ inserted_values flags row old new p.1 q.2) })
both_lead flags (Insert row) (Update old new) p q k (Some stood) e f = absurd (none-some Conflict (sym e))
both_lead flags (Delete row) (Insert other) p q k None e f = absurd (none-some NotFound (sym e))
both_lead flags (Delete row) (Insert other) p q k (Some stood) e f =
    let same = all_values stood row (no_data (has_values stood (map Defined row)) e) in
    let leads = leads_between flags (key_of flags (Delete row)) (Some row) (Some other) _
    (net_leads flags (key_of flags (Delete row)) (Some row) (Some other) (record { values = p.0; keyed = p.1; own = refl }) (record { values = q.0; keyed = q.1; own = k })) in
    (refl, rw (← same, filled_row other []) leads)
both_lead flags (Delete row) (Delete other) p q k before e f = absurd (none-some NotFound (sym f))
both_lead flags (Delete row) (Update old new) p q k before e f = absurd (none-some NotFound (sym f))
both_lead flags (Update old new) (Insert row) p q k before e f = absurd (none-some Conflict (sym f))
both_lead flags (Update old new) (Delete row) p q k None e f = absurd (none-some NotFound (sym e))
both_lead flags (Update old new) (Delete row) p q k (Some stood) e f =
    let mid = filled (with_key flags old new) stood in
    let found : row ≡ mid = all_values mid row (no_data (has_values mid (map Defined row)) f) in
    let whole = deleted_values flags old new row stood p.2 q.1 (no_data (has_values stood old) e) found in
    (refl, rw whole (record { finds = rw (has_its_values stood) refl; leaves = refl }))
both_lead flags (Update old new) (Update next last) p q k None e f = absurd (none-some NotFound (sym e))
both_lead flags (Update old new) (Update next last) p q k (Some stood) e f =
    let mid = filled (with_key flags old new) stood in
    let one = update_row flags old new stood p.2 (no_data (has_values stood old) e) in
    let two = update_row flags next last mid q.2 (no_data (has_values mid next) f) in
    let both = rows_lead flags old (with_key flags old new) next (with_key flags next last) stood mid (filled (with_key flags next last) mid) one two in
    (refl, update_leads flags (laid_over old next) (laid_over (with_key flags next last) (with_key flags old new)) stood (filled (with_key flags next last) mid) _ refl both)

-- ---- two entries

-- what is left of the first entry does what the net change does
left_leads : (flags : List ℕ) (first : Entry) (indirect : Bool) (before after : Option (List OwnedValue)) (net : Option Change) → ChangeLeads flags before after net
    → LeftLeads flags before after (left_of first (becomes indirect net))
left_leads flags first indirect before after None h = h
left_leads flags first indirect before after (Some change) h = h

-- where the second leads on from where the first leads to
pub merged_leads : (flags : List ℕ) (first second : Entry) → IsEntry flags first → IsEntry flags second → key_of flags first.change ≡ key_of flags second.change
    → (before mid after : Option (List OwnedValue)) → LeadsFrom flags first.change before mid
    → LeadsFrom flags second.change mid after → LeftLeads flags before after (left_of first (merged flags first second))
merged_leads flags first second is also same before mid after one two =
    let met : kind_between (before_image second.change) (row_after flags first.change before) ≡ None = ap (kind_between (before_image second.change)) one.leaves ∙ two.finds in
    let left : row_after flags second.change (row_after flags first.change before) ≡ after = ap (row_after flags second.change) one.leaves ∙ two.leaves in
    let both = both_lead flags first.change second.change is also same before one.finds met in
    let net = net_change flags (joint_image flags first.change second.change) in
    rw (both.0, ← left) (left_leads flags first (first.indirect && second.indirect) before (row_after flags second.change (row_after flags first.change before)) net both.1)
