-- The forms in which changesets are printed: what each makes of the parts of one. No public contract names this.
use Rattle.std.specs.Prelude.{ℕ, List, [], ◌++◌}
use Rattle.std.specs.List.{flat_map}
use Rattle.cs_wire_entries.specs.declared.entry.Entry.{Entry}
use Rattle.cs_wire.specs.Changeset.{HeaderData, GroupData}
use Rattle.cs_file_texts.specs.declared.texts.form.Form.{Form}
use Rattle.cs_file_texts.specs.declared.texts.form.Form.TheVariants.{Dump, Sql}
use Rattle.cs_file_texts.specs.Texts.{header_text, entry_text, statement}

-- what comes before the entries of a table
abbrev pub header_part : Form → HeaderData → List ℕ
header_part Dump header = header_text header
header_part Sql header = []

-- the text of an entry of the table of this name
abbrev pub entry_part : Form → List ℕ → Entry → List ℕ
entry_part Dump name entry = entry_text entry.indirect entry.change
entry_part Sql name entry = statement name entry.change

abbrev pub group_part : Form → GroupData → List ℕ
group_part form group = header_part form group.header ++ flat_map (entry_part form group.header.name) group.entries

abbrev pub form_text : Form → List GroupData → List ℕ
form_text form changeset = flat_map (group_part form) changeset
