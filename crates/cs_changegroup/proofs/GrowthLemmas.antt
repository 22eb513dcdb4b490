-- The bytes of files to which more are appended.
use Rattle.std.proofs.Common.{◌≡◌, ℕ, zero, suc, ◌<◌, ◌≤◌, List, [], ◌∷◌, ◌++◌, length, length-append, take, drop, Some, refl, sym, ap, subst, ◌∙◌, append_assoc, append-nil, arith}
use Rattle.std.specs.Prelude.{Err, IfSome, Ok, OnErr, Option, Result}
use Rattle.std.specs.List.{AllZip}
use Rattle.std.proofs.lemmas.List.{drop-append-le, drop_all, length-drop, take_all}
use Rattle.cs_wire.specs.Changeset.{GroupData, IsFileOf, file_bytes}
use Rattle.cs_wire.specs.Entry.{entry_bytes}
use Rattle.cs_wire.specs.Laws.{ChangesetFiles}
use Rattle.cs_wire_entries.proofs.EntryLemmas.{entry_bytes_some}
use Rattle.cs_group.specs.Joining.{joined}
use Rattle.cs_files.proofs.JoiningLemmas.{joins}
use Rattle.cs_changegroup.specs.declared.slot.Slot.{Slot}
use Rattle.cs_changegroup.specs.declared.slot.Text.{Text}
use Rattle.cs_changegroup.specs.declared.slot.Text.TheVariants.{Own, Within}
use Rattle.cs_changegroup.specs.Adding.{HasJoined}
use Rattle.cs_changegroup.specs.Chaining.{AreLengths, files_in}
use Rattle.cs_changegroup.specs.Folding.{ChangegroupView, FoldsFrom, Holds}
use Rattle.cs_changegroup.specs.Slots.{AreSlots, HasGroups, IsPartOf, IsSlotOf, IsTextAt, IsViewOf, KeptEntry, KeptTable, TableView, TablesView}
use Rattle.cs_changegroup.proofs.FoldLemmas.{FoldsFrom-more, fold_changeset, none_changeset}

-- ---- slots in files that have more bytes

AllZip-map : {X Y : Type 0} (R S : X → Y → Type 0) → ((x : X) (y : Y) → R x y → S x y) → (xs : List X) (ys : List Y) → AllZip R xs ys → AllZip S xs ys
AllZip-map R S step [] [] all = tt
AllZip-map R S step [] (y ∷ ys) all = absurd all
AllZip-map R S step (x ∷ xs) [] all = absurd all
AllZip-map R S step (x ∷ xs) (y ∷ ys) all = (step x y all.0, AllZip-map R S step xs ys all.1)

module _ (files more : List ℕ) where
  text_still : (at : Text) (text : List ℕ) → 0 < length text → IsTextAt files at text → IsTextAt (files ++ more) at text
  text_still (Within start end) text some is =
      let le : start ≤ length files = omega (arith, some, ap length is.spelled, length-append text (drop end files), length-drop start files) in
      record {
        spelled = drop-append-le start files more le ∙ ap (λ (l : List ℕ). l ++ more) is.spelled ∙ append_assoc text (drop end files) more ∙ ap (λ (l : List ℕ). text ++ l) (sym (drop-append-le end files more is.within));
        within = omega (arith, is.within, length-append files more);
      }
  text_still (Own own) text some is = is

  slot_still : (flags : List ℕ) (slot : Slot) (kept : KeptEntry) → IsSlotOf files flags slot kept → IsSlotOf (files ++ more) flags slot kept
  slot_still flags slot kept is = record { text = text_still slot.text (entry_bytes kept.entry) (entry_bytes_some kept.entry) is.text; live = is.live; fits = is.fits }

  slots_still : (table : TableView) (kept : List KeptEntry) → AreSlots files table kept → AreSlots (files ++ more) table kept
  slots_still table kept are = record {
    slots = AllZip-map (IsSlotOf files table.header.flags) (IsSlotOf (files ++ more) table.header.flags) (slot_still table.header.flags) table.slots kept are.slots;
    numbers = are.numbers;
    once = are.once;
    vanished = are.vanished;
  }

  view_still : (view : TableView) (table : KeptTable) → IsViewOf files view table → IsViewOf (files ++ more) view table
  view_still view table is = record { header = is.header; is_header = is.is_header; slots = slots_still view table.entries is.slots }

  pub groups_still : (view : TablesView) (groups : List GroupData) → HasGroups files view groups → HasGroups (files ++ more) view groups
  groups_still view groups has = record {
    kept = has.kept;
    are_tables = record {
      tables = AllZip-map (IsViewOf files) (IsViewOf (files ++ more)) view_still view.tables has.kept has.are_tables.tables;
      numbers = has.are_tables.numbers;
      once = has.are_tables.once;
    };
    groups_are = has.groups_are;
    is_changeset = has.is_changeset;
  }

  -- what is appended is a part
  pub part_behind : IsPartOf (files ++ more) (length files) more
  part_behind = record {
    behind = [];
    spelled = drop-append-le (length files) files more (omega arith) ∙ ap (λ (l : List ℕ). l ++ more) (drop_all (length files) files (omega arith)) ∙ sym (append-nil more);
    within = omega (arith, length-append files more);
  }

-- ---- one more length

lengths_more : (files more : List ℕ) (lengths : List ℕ) → AreLengths files lengths → AreLengths (files ++ more) (lengths ++ length more ∷ [])
lengths_more files more [] are = rw are (omega arith, drop_all (length more) more (omega arith))
lengths_more files more (n ∷ lengths) are = (
  omega (arith, are.0, length-append files more),
  rw (drop-append-le n files more are.0) (lengths_more (drop n files) more lengths are.1),
)

take_still : (n : ℕ) (files more : List ℕ) → n ≤ length files → take n (files ++ more) ≡ take n files
take_still zero files more le = refl
take_still (suc n) [] more le = absurd (omega (arith, le))
take_still (suc n) (b ∷ files) more le = ap (λ (l : List ℕ). b ∷ l) (take_still n files more (omega (arith, le)))

files_more : (files more : List ℕ) (lengths : List ℕ) → AreLengths files lengths → files_in (files ++ more) (lengths ++ length more ∷ []) ≡ files_in files lengths ++ more ∷ []
files_more files more [] are = rw are (ap (λ (l : List ℕ). l ∷ []) (take_all (length more) more (omega arith)))
files_more files more (n ∷ lengths) are =
    rw (take_still n files more are.0, drop-append-le n files more are.0) (ap (λ (l : List (List ℕ)). take n files ∷ l) (files_more (drop n files) more lengths are.1))

pub take_front : (files more : List ℕ) → take (length files) (files ++ more) ≡ files
take_front files more = take_still (length files) files more (omega arith) ∙ take_all (length files) files (omega arith)

-- the changegroup with one more file
pub Holds-more : (files lengths : List ℕ) (old : ChangegroupView) (groups : List GroupData) (more : List ℕ) (tables : TablesView) → old.files ≡ files → old.lengths ≡ lengths → Holds old groups
    → (joined_is : HasJoined (files ++ more) groups more tables) → Holds (record { files = files ++ more; lengths = lengths ++ length more ∷ []; tables = Some tables }) (joined groups joined_is.others)
Holds-more files lengths old groups more tables same same_lengths holds joined_is =
    let are : AreLengths files lengths = rw (same, same_lengths) at holds.are_lengths in
    let folds : FoldsFrom [] (files_in files lengths) groups = rw (same, same_lengths) at holds.folds in
    record {
      are_lengths = lengths_more files more lengths are;
      folds = rw (files_more files more lengths are) (FoldsFrom-more [] (files_in files lengths) groups more joined_is.others folds joined_is.is_file joined_is.joinable);
      fewer =
          let step = (joins (file_bytes groups) more (file_bytes (joined groups joined_is.others)) groups joined_is.others (is_changeset_of holds) joined_is.is_file joined_is.joinable refl).1 in
          omega (arith, step, ap length same, holds.fewer, length-append files more);
      tables = joined_is.has;
    }
  where
    is_changeset_of : Holds old groups → IsFileOf (file_bytes groups) groups
    is_changeset_of holds = (fold_changeset [] (files_in old.files old.lengths) groups none_changeset holds.folds, refl)

-- ---- a fold has one result

pub folds_only : ChangesetFiles → (start : List GroupData) (files : List (List ℕ)) (groups others : List GroupData) → FoldsFrom start files groups → FoldsFrom start files others → groups ≡ others
folds_only law start [] groups others so other = sym so ∙ other
folds_only law start (file ∷ files) groups others so other =
    let same : so.0 ≡ other.0 = law so.0 other.0 so.1.0 other.1.0 (sym so.1.1 ∙ other.1.1) in
    folds_only law (joined start so.0) files groups others so.3 (subst (λ (gs : List GroupData). FoldsFrom (joined start gs) files others) (sym same) other.3)

-- ---- a changegroup is known by its parts

pub Holds-same : (new : ChangegroupView) (files lengths : List ℕ) (tables : Option TablesView) (groups : List GroupData) → new.files ≡ files → new.lengths ≡ lengths → new.tables ≡ tables → Holds (record { files = files; lengths = lengths; tables = tables }) groups → Holds new groups
Holds-same new files lengths tables groups f l t holds = record {
  are_lengths = rw (f, l) holds.are_lengths;
  folds = rw (f, l) holds.folds;
  fewer = rw f holds.fewer;
  tables = rw (f, t) holds.tables;
}

-- the same files with other tables
pub Holds-with : (old : ChangegroupView) (files lengths : List ℕ) (tables : Option TablesView) (groups : List GroupData) → files ≡ old.files → lengths ≡ old.lengths → Holds old groups → IfSome tables (λ t. HasGroups old.files t groups)
    → Holds (record { files = files; lengths = lengths; tables = tables }) groups
Holds-with old files lengths tables groups f l holds has = record {
  are_lengths = rw (f, l) holds.are_lengths;
  folds = rw (f, l) holds.folds;
  fewer = rw f holds.fewer;
  tables = rw f has;
}

-- what holds where a call fails
pub err_then : {X E : Type 0} {P Q : Type 0} (r : Result X E) → OnErr r P → (P → Q) → OnErr r Q
err_then (Ok x) p step = tt
err_then (Err e) p step = step p
