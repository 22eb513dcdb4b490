-- Lemmas on a file that is gone through and printed.
use Rattle.std.proofs.Common.{◌≡◌, ℕ, List, [], ◌∷◌, ◌++◌, Option, sym, ap, ◌∙◌, append-nil}
use Rattle.std.specs.List.{flat_map}
use Rattle.std.proofs.lemmas.Grind.{flat_map-append}
use Rattle.cs_wire_entries.specs.declared.entry.Entry.{Entry}
use Rattle.cs_wire.specs.Changeset.{HeaderData, GroupData}
use Rattle.cs_file_scan.specs.Tables.{TablesData, EntriesLeft}
use Rattle.cs_file_texts.specs.declared.told.Told.{Told}
use Rattle.cs_file_texts.specs.Gathering.{Gathered}
use Rattle.cs_file_texts.specs.declared.texts.form.Form.{Form}
use Rattle.cs_file_texts.specs.Forms.{header_part, entry_part, group_part}

-- of these entries some were gathered, and the others are left
pub record GathersEntries {W : Type 0} (contents : W → Option (List ℕ)) (text : Entry → List ℕ) (pending left : List ℕ) (old new : Told W)
    (tables : TablesData) (entries : List Entry) (groups : List GroupData) : Type 0 where
  pub before : List Entry
  pub others : List Entry
  pub whole : entries ≡ before ++ others
  pub are_left : EntriesLeft tables others groups
  pub gathered : Gathered contents pending left old new (flat_map text before)

-- of these groups some were gathered, and the others are left
pub record GathersGroups {W : Type 0} (contents : W → Option (List ℕ)) (text : GroupData → List ℕ) (pending left : List ℕ) (old new : Told W)
    (tables : TablesData) (groups : List GroupData) : Type 0 where
  pub before : List GroupData
  pub others : List GroupData
  pub whole : groups ≡ before ++ others
  pub are_left : EntriesLeft tables [] others
  pub gathered : Gathered contents pending left old new (flat_map text before)

-- the text with one more
pub texts_push : {X : Type 0} (text : X → List ℕ) (before : List X) (x : X) → flat_map text (before ++ x ∷ []) ≡ flat_map text before ++ text x
texts_push text before x = flat_map-append text before (x ∷ []) ∙ ap (λ l. flat_map text before ++ l) (append-nil (text x))

-- and with all that follows
pub texts_around : {X : Type 0} (text : X → List ℕ) (all before others after : List X) (x : X) → all ≡ before ++ others → others ≡ x ∷ after
    → flat_map text all ≡ flat_map text before ++ (text x ++ flat_map text after)
texts_around text all before others after x whole next = ap (flat_map text) (whole ∙ ap (λ l. before ++ l) next) ∙ flat_map-append text before (x ∷ after)

-- a group, by a header that is its own
pub group_under : (form : Form) (group : GroupData) (header : HeaderData) → header ≡ group.header
    → group_part form group ≡ header_part form header ++ flat_map (entry_part form header.name) group.entries
group_under form group header is = ap (λ (h : HeaderData). header_part form h ++ flat_map (entry_part form h.name) group.entries) (sym is)

-- and by the parts of one
pub group_parts : (form : Form) (group : GroupData) (name flags : List ℕ) (entries : List Entry) → name ≡ group.header.name → flags ≡ group.header.flags → entries ≡ group.entries
    → group_part form group ≡ header_part form (record { name = name; flags = flags }) ++ flat_map (entry_part form name) entries
group_parts form group name flags entries name_is flags_is entries_is =
    let header : HeaderData = record { name = name; flags = flags } in
    let is : header ≡ group.header = ap (λ n. record { name = n; flags = flags }) name_is ∙ ap (λ f. record { name = group.header.name; flags = f }) flags_is in
    group_under form group header is ∙ ap (λ es. header_part form header ++ flat_map (entry_part form name) es) (sym entries_is)
