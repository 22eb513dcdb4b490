-- What is equal in the order of conflicts is the same.
use Rattle.std.proofs.Common.{◌≡◌, ◌↔◌, IsTrue, ℕ, ℤ, Bool, true, false, List, [], ◌∷◌, refl, sym, ap, ap₂, subst, ◌∙◌, arith}
use Rattle.std.specs.Cmp.{IsTotalOrder, ranked, int_ranked, tied_itself, then_total, on_total, nat_cmp_total, int_cmp_total, bool_cmp_total}
use Rattle.std.specs.Cmp.Lexicographic.{slice_cmp, on_texts, lists_total, options_total}
use Rattle.std.specs.Ordering.{is_eq, nat_cmp, int_cmp, bool_cmp, ordering_then}
use Rattle.std.specs.declared.cmp.Ordering.{Ordering}
use Rattle.std.specs.declared.cmp.Ordering.TheVariants.{Less, Equal, Greater}
use Rattle.cs_value.specs.declared.value.OwnedValue.{OwnedValue}
use Rattle.cs_value.specs.declared.value.OwnedValue.TheVariants.{Int, Text, Blob, Null}
use Rattle.cs_value.specs.declared.value.OwnedField.{OwnedField}
use Rattle.cs_value.specs.declared.value.OwnedField.TheVariants.{Undefined, Defined}
use Rattle.cs_wire_entries.specs.declared.entry.Change.{Change}
use Rattle.cs_wire_entries.specs.declared.entry.Change.TheVariants.{Insert, Delete, Update}
use Rattle.cs_wire_entries.specs.declared.entry.Entry.{Entry}
use Rattle.cs_apply_conflict_kinds.specs.declared.conflict.Kind.{Kind}
use Rattle.cs_apply_conflict_kinds.specs.declared.conflict.Kind.TheVariants.{Data, NotFound, Conflict, Constraint}
use Rattle.cs_apply_conflict_kinds.specs.Conflicts.{kind_number}
use Rattle.cs_apply_conflict_kinds.specs.Applying.{ConflictData}
use Rattle.cs_apply_rehearsal.specs.Choosing.{IsSame}
use Rattle.cs_apply_rehearsal.specs.Order.{value_type, value_of_field, number_in, bytes_in, value_cmp, field_cmp, change_type, row_in, old_in, new_in, change_cmp, entry_cmp, conflict_cmp}

-- ---- parts

then_parts : (r s : Ordering) → ordering_then r s ≡ Equal → (r ≡ Equal) × (s ≡ Equal)
then_parts Less s e = cc
then_parts Equal s e = (refl, e)
then_parts Greater s e = cc

same_numbers : (m n : ℕ) → nat_cmp m n ≡ Equal → m ≡ n
same_numbers m n e = ranked m n Equal (sym e)

same_ints : (m n : ℤ) → int_cmp m n ≡ Equal → m ≡ n
same_ints m n e = int_ranked m n Equal (sym e)

same_bools : (a b : Bool) → bool_cmp a b ≡ Equal → a ≡ b
same_bools true true e = refl
same_bools true false e = cc
same_bools false true e = cc
same_bools false false e = refl

same_lists : {X : Type 0} (R : X → X → Ordering) → ((x y : X) → R x y ≡ Equal → x ≡ y) → (xs ys : List X) → slice_cmp R xs ys ≡ Equal → xs ≡ ys
same_lists R same [] [] e = refl
same_lists R same [] (y ∷ ys) e = cc
same_lists R same (x ∷ xs) [] e = cc
same_lists R same (x ∷ xs) (y ∷ ys) e =
    let both = then_parts (R x y) (slice_cmp R xs ys) e in
    let first = same x y both.0 in
    let others = same_lists R same xs ys both.1 in
    cc (first, others)

same_texts : (xs ys : List ℕ) → slice_cmp nat_cmp xs ys ≡ Equal → xs ≡ ys
same_texts = same_lists nat_cmp same_numbers

-- ---- values, fields, changes, entries

value_parts : (a b : OwnedValue) → value_cmp a b ≡ Equal → (value_type a ≡ value_type b) × (number_in a ≡ number_in b) × (bytes_in a ≡ bytes_in b)
value_parts a b e =
    let both = then_parts (ordering_then (nat_cmp (value_type a) (value_type b)) (int_cmp (number_in a) (number_in b))) (slice_cmp nat_cmp (bytes_in a) (bytes_in b)) e in
    let first = then_parts (nat_cmp (value_type a) (value_type b)) (int_cmp (number_in a) (number_in b)) both.0 in
    (same_numbers _ _ first.0, same_ints _ _ first.1, same_texts _ _ both.1)

from_parts : (a b : OwnedValue) → value_type a ≡ value_type b → number_in a ≡ number_in b → bytes_in a ≡ bytes_in b → a ≡ b
from_parts (Int m) (Int n) types numbers bytes = ap Int numbers
from_parts (Int m) (Text t) types numbers bytes = absurd (omega arith)
from_parts (Int m) (Blob b) types numbers bytes = absurd (omega arith)
from_parts (Int m) Null types numbers bytes = absurd (omega arith)
from_parts (Text s) (Int n) types numbers bytes = absurd (omega arith)
from_parts (Text s) (Text t) types numbers bytes = ap Text bytes
from_parts (Text s) (Blob b) types numbers bytes = absurd (omega arith)
from_parts (Text s) Null types numbers bytes = absurd (omega arith)
from_parts (Blob a) (Int n) types numbers bytes = absurd (omega arith)
from_parts (Blob a) (Text t) types numbers bytes = absurd (omega arith)
from_parts (Blob a) (Blob b) types numbers bytes = ap Blob bytes
from_parts (Blob a) Null types numbers bytes = absurd (omega arith)
from_parts Null (Int n) types numbers bytes = absurd (omega arith)
from_parts Null (Text t) types numbers bytes = absurd (omega arith)
from_parts Null (Blob b) types numbers bytes = absurd (omega arith)
from_parts Null Null types numbers bytes = refl

same_values : (a b : OwnedValue) → value_cmp a b ≡ Equal → a ≡ b
same_values a b e = let parts = value_parts a b e in from_parts a b parts.0 parts.1 parts.2

same_fields : (a b : OwnedField) → field_cmp a b ≡ Equal → a ≡ b
same_fields Undefined Undefined e = refl
same_fields Undefined (Defined b) e = cc
same_fields (Defined a) Undefined e = cc
same_fields (Defined a) (Defined b) e = ap Defined (same_values a b e)

from_records : (a b : Change) → change_type a ≡ change_type b → row_in a ≡ row_in b → old_in a ≡ old_in b → new_in a ≡ new_in b → a ≡ b
from_records (Insert a) (Insert b) types rows olds news = ap Insert rows
from_records (Insert a) (Delete b) types rows olds news = absurd (omega arith)
from_records (Insert a) (Update o n) types rows olds news = absurd (omega arith)
from_records (Delete a) (Insert b) types rows olds news = absurd (omega arith)
from_records (Delete a) (Delete b) types rows olds news = ap Delete rows
from_records (Delete a) (Update o n) types rows olds news = absurd (omega arith)
from_records (Update o n) (Insert b) types rows olds news = absurd (omega arith)
from_records (Update o n) (Delete b) types rows olds news = absurd (omega arith)
from_records (Update o n) (Update p m) types rows olds news = ap₂ Update olds news

same_changes : (a b : Change) → change_cmp a b ≡ Equal → a ≡ b
same_changes a b e =
    let types = nat_cmp (change_type a) (change_type b) in
    let rows = slice_cmp value_cmp (row_in a) (row_in b) in
    let olds = slice_cmp field_cmp (old_in a) (old_in b) in
    let news = slice_cmp field_cmp (new_in a) (new_in b) in
    let first = then_parts (ordering_then (ordering_then types rows) olds) news e in
    let second = then_parts (ordering_then types rows) olds first.0 in
    let third = then_parts types rows second.0 in
    from_records a b (same_numbers _ _ third.0) (same_lists value_cmp same_values _ _ third.1) (same_lists field_cmp same_fields _ _ second.1) (same_lists field_cmp same_fields _ _ first.1)

same_entries : (a b : Entry) → entry_cmp a b ≡ Equal → a ≡ b
same_entries a b e =
    let both = then_parts (change_cmp a.change b.change) (bool_cmp a.indirect b.indirect) e in
    let changes = same_changes a.change b.change both.0 in
    let flags = same_bools a.indirect b.indirect both.1 in
    λ i. record { indirect = flags i; change = changes i }

same_kinds : (a b : Kind) → kind_number a ≡ kind_number b → a ≡ b
same_kinds Data Data e = refl
same_kinds Data NotFound e = absurd (omega arith)
same_kinds Data Conflict e = absurd (omega arith)
same_kinds Data Constraint e = absurd (omega arith)
same_kinds NotFound Data e = absurd (omega arith)
same_kinds NotFound NotFound e = refl
same_kinds NotFound Conflict e = absurd (omega arith)
same_kinds NotFound Constraint e = absurd (omega arith)
same_kinds Conflict Data e = absurd (omega arith)
same_kinds Conflict NotFound e = absurd (omega arith)
same_kinds Conflict Conflict e = refl
same_kinds Conflict Constraint e = absurd (omega arith)
same_kinds Constraint Data e = absurd (omega arith)
same_kinds Constraint NotFound e = absurd (omega arith)
same_kinds Constraint Conflict e = absurd (omega arith)
same_kinds Constraint Constraint e = refl

-- ---- conflicts

value_total : IsTotalOrder value_cmp
value_total = then_total (then_total (on_total value_type nat_cmp_total) (on_total number_in int_cmp_total)) (on_texts bytes_in)

field_total : IsTotalOrder field_cmp
field_total = on_total value_of_field (options_total value_total)

change_total : IsTotalOrder change_cmp
change_total =
    then_total (then_total (then_total (on_total change_type nat_cmp_total) (on_total row_in (lists_total value_total))) (on_total old_in (lists_total field_total)))
    (on_total new_in (lists_total field_total))

entry_total : IsTotalOrder entry_cmp
entry_total = then_total (on_total (λ (e : Entry). e.change) change_total) (on_total (λ (e : Entry). e.indirect) bool_cmp_total)

pub conflict_total : IsTotalOrder conflict_cmp
conflict_total =
    then_total (then_total (on_total (λ (c : ConflictData). kind_number c.kind) nat_cmp_total) (on_texts (λ (c : ConflictData). c.table)))
    (on_total (λ (c : ConflictData). c.entry) entry_total)

-- what a comparison of entries tells
pub entries_told : (a b : Entry) (r : Bool) → r ≡ is_eq (entry_cmp a b) → (IsTrue r ↔ (a ≡ b))
entries_told a b r e = (
  λ t. same_entries a b (equal_from (entry_cmp a b) (sym e ∙ t)),
  λ s. e ∙ ap is_eq (subst (λ (z : Entry). entry_cmp a z ≡ Equal) s (tied_itself entry_total a)),
)
  where
    equal_from : (o : Ordering) → is_eq o ≡ true → o ≡ Equal
    equal_from Less t = cc
    equal_from Equal t = refl
    equal_from Greater t = cc

pub same_conflicts : (a b : ConflictData) → conflict_cmp a b ≡ Equal → IsSame a b
same_conflicts a b e =
    let kinds = nat_cmp (kind_number a.kind) (kind_number b.kind) in
    let tables = slice_cmp nat_cmp a.table b.table in
    let first = then_parts (ordering_then kinds tables) (entry_cmp a.entry b.entry) e in
    let second = then_parts kinds tables first.0 in
    record { kind = same_kinds _ _ (same_numbers _ _ second.0); table = same_texts _ _ second.1; entry = same_entries _ _ first.1 }

pub equal_conflicts : (a b : ConflictData) → IsSame a b → conflict_cmp a b ≡ Equal
equal_conflicts a b same =
    let again : conflict_cmp a b ≡ conflict_cmp b b =
    λ i. ordering_then (ordering_then (nat_cmp (kind_number (same.kind i)) (kind_number b.kind)) (slice_cmp nat_cmp (same.table i) b.table)) (entry_cmp (same.entry i) b.entry) in
    again ∙ tied_itself conflict_total b
