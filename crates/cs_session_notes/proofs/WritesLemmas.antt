-- What tables note, one key more and one table more.
use Rattle.std.proofs.Common.{◌≡◌, List, [], ◌∷◌, ◌++◌, map, append_assoc, sym, ap, ◌∙◌}
use Rattle.std.proofs.lemmas.List.{append-nil, map-append}
use Rattle.cs_value.specs.State.{WrittenData}
use Rattle.cs_rows.specs.declared.edit.Written.{Written}
use Rattle.cs_rows.specs.Editing.{written_of}
use Rattle.cs_session_notes.specs.FirstImages.{FirstImage, AttachedTable, Notes}
use Rattle.cs_session_notes.specs.Merging.{noted_writes, all_noted}

abbrev write : AttachedTable → FirstImage → WrittenData
write table f = record { table = table.name; key = f.key; former = f.row }

pub key_more : (table : AttachedTable) (base : List WrittenData) (before new : List Written) (done : List FirstImage) (first : FirstImage) (w : Written) → new ≡ before ++ w ∷ []
    → written_of w ≡ write table first → map written_of before ≡ base ++ noted_writes (record table { firsts = done })
    → map written_of new ≡ base ++ noted_writes (record table { firsts = done ++ first ∷ [] })
key_more table base before new done first w grown is so =
    rw (grown, map-append written_of before (w ∷ []), so, is, map-append (write table) done (first ∷ []))
    (append_assoc base (noted_writes (record table { firsts = done })) (write table first ∷ []))

pub table_more : (notes : Notes) (table : AttachedTable) → all_noted (notes ++ table ∷ []) ≡ all_noted notes ++ noted_writes table
table_more [] table = append-nil (noted_writes table)
table_more (other ∷ notes) table =
    ap (λ (l : List WrittenData). noted_writes other ++ l) (table_more notes table) ∙ sym (append_assoc (noted_writes other) (all_noted notes) (noted_writes table))
