-- Commands on the files of a folder in memory, worked as examples. The changesets are of a table `t` of two columns, of
-- which the first is the key.
use Rattle.std.proofs.Common.{◌≡◌, ℕ, true, false, List, [], ◌∷◌, Option, Some, Err, codes, refl, arith, inl, inr}
use Rattle.std.proofs.Common.{◌∙◌}
use Rattle.std.specs.FinMap.{empty, insert, get, get-insert, get-empty}
use Rattle.std.specs.Cmp.Lexicographic.{slice_cmp, nat_list_cmp_total}
use Rattle.std.specs.Ordering.{nat_cmp, eq_by_cmp}
use Rattle.std.proofs.lemmas.Bool.{cond-true, cond-false}
use Rattle.cs_wire.proofs.Examples.{insert_file, delete_file, update_file, letter_is_refused}
use Rattle.cs_wire_entries.specs.declared.fault.ReadFaultKind.TheVariants.{NotTable}
use Rattle.cs_files.proofs.Examples.{insert_file_inverts, insert_file_joins_update, later_file}
use Rattle.cs_apply_conflict_kinds.specs.declared.conflict.Noop.{Noop}
use Rattle.cs_apply_engine.specs.declared.policy.Policy.{Policy}
use Rattle.cs_file_texts.specs.declared.told.Told.{Told}
use Rattle.cs_folder.specs.Files.{Files, HasFile}
use Rattle.cs_shell_replies.specs.declared.refusal.Refusal.TheVariants.{Input, Read}
use Rattle.cs_shell_commands.specs.Applies.{Applies}
use Rattle.cs_shell_commands.specs.Folders.{InvertsFile, JoinsFiles, RefusesInvert, RefusesJoin}

-- a file that was just put there
get_put : (files : Files) (name bytes : List ℕ) → eq_by_cmp (slice_cmp nat_cmp) name name ≡ true → get (insert files name bytes) name ≡ Some bytes
get_put files name bytes same = get-insert nat_list_cmp_total files name bytes name ∙ cond-true _ _ _ same

-- another file
get_beside : (files : Files) (name bytes other : List ℕ) → eq_by_cmp (slice_cmp nat_cmp) other name ≡ false → get (insert files name bytes) other ≡ get files other
get_beside files name bytes other apart = get-insert nat_list_cmp_total files name bytes other ∙ cond-false _ _ _ apart

-- the folder with a file `a`, which inserts a row
abbrev with_a : Files
with_a = insert empty (codes "a") insert_file

has_a : HasFile (Some with_a) (codes "a") insert_file
has_a = (omega arith, get_put empty (codes "a") insert_file refl)

-- `a invert b` leaves its inverse in `b`
invert_writes_inverse : InvertsFile (Some with_a) (codes "a") (codes "b") (Some (insert with_a (codes "b") delete_file))
invert_writes_inverse = record {
  bytes = insert_file;
  inverse = delete_file;
  read = has_a;
  inverts = insert_file_inverts;
  written = refl;
}

-- the folder with a second file, `u`, which updates the row
abbrev with_both : Files
with_both = insert with_a (codes "u") update_file

-- `a concat u a` leaves the concatenation in `a`, in place of the first file
concat_writes_join : JoinsFiles (Some with_both) (codes "a") (codes "u") (codes "a") (Some (insert with_both (codes "a") later_file))
concat_writes_join = record {
  bytes = insert_file;
  other = update_file;
  join = later_file;
  read = (omega arith, get_beside with_a (codes "u") update_file (codes "a") refl ∙ get_put empty (codes "a") insert_file refl);
  other_read = (omega arith, get_put with_a (codes "u") update_file refl);
  joins = insert_file_joins_update;
  written = refl;
}

-- a file that is not there is reported
missing_file_is_refused : RefusesInvert (Some empty) (codes "a") Input
missing_file_is_refused = inl (get-empty (slice_cmp nat_cmp) (codes "a"))

-- nor is it applied
missing_file_is_not_applied : {W : Type 0} (contents : W → Option (List ℕ)) (policy : Policy) (noop : Noop) (out : Told W)
    → Applies contents policy noop (Some empty) (Some empty) (codes "a") (codes "s") out out (Err Input)
missing_file_is_not_applied contents policy noop out = inl (Input, refl, inl (get-empty (slice_cmp nat_cmp) (codes "a")), refl, refl)

-- and the second one once the first was read
missing_second_is_refused : RefusesJoin (Some with_a) (codes "a") (codes "u") Input
missing_second_is_refused = inr (insert_file, has_a, inl (get_beside empty (codes "a") insert_file (codes "u") refl ∙ get-empty (slice_cmp nat_cmp) (codes "u")))

-- a file that is no changeset
letter_file_is_refused : RefusesInvert (Some (insert empty (codes "a") (0x41 ∷ []))) (codes "a") (Read (record { kind = NotTable; place = 0 }))
letter_file_is_refused = (0x41 ∷ [], (omega arith, get_put empty (codes "a") (0x41 ∷ []) refl), letter_is_refused)
