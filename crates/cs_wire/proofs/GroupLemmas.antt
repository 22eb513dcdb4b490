-- Groups that grow by an entry.
use Rattle.std.proofs.Common.{◌≢◌, ℕ, List, [], ◌∷◌, ◌++◌, arith, length-append}
use Rattle.std.proofs.lemmas.List.Elements.{All-push, All-nil}
use Rattle.std.proofs.lemmas.List.Quantifiers.{all_pairs_push}
use Rattle.cs_wire_entries.specs.Entry.{IsEntry, key_of}
use Rattle.cs_wire_entries.specs.declared.entry.Entry.{Entry}
use Rattle.cs_wire_entries.specs.Changeset.{HeaderData, GroupData, IsNewKey, IsNewName, IsHeader, IsGroup, IsChangeset}

-- two entries of one group have keys of their own
abbrev pub HasOtherKey : List ℕ → Entry → Entry → Type 0
HasOtherKey flags d e = key_of flags d.change ≢ key_of flags e.change

-- a group of one entry
pub IsGroup-one : (header : HeaderData) (entry : Entry) → IsHeader header → IsEntry header.flags entry → IsGroup (record { header = header; entries = entry ∷ [] })
IsGroup-one header entry h e = record {
  header = h;
  some = omega arith;
  each = All-push (IsEntry header.flags) [] entry (All-nil (IsEntry header.flags)) e;
  once = λ i j d lt in_list. absurd (omega arith);
}

-- a group with one more entry, of a key that it had not
pub IsGroup-push : (group : GroupData) (entry : Entry) → IsGroup group → IsEntry group.header.flags entry
    → IsNewKey group.header.flags group.entries (key_of group.header.flags entry.change)
    → IsGroup (record { header = group.header; entries = group.entries ++ entry ∷ [] })
IsGroup-push group entry g e fresh = record {
  header = g.header;
  some = omega (arith, length-append group.entries (entry ∷ []));
  each = All-push (IsEntry group.header.flags) group.entries entry g.each e;
  once = all_pairs_push (HasOtherKey group.header.flags) group.entries entry g.once (λ k d lt. fresh k d lt);
}

-- a changeset with the group of one more table
pub IsChangeset-push : (groups : List GroupData) (group : GroupData) → IsChangeset groups → IsGroup group
    → IsNewName groups group.header.name → IsChangeset (groups ++ group ∷ [])
IsChangeset-push groups group c g fresh = record {
  each = All-push IsGroup groups group c.each g;
  once = all_pairs_push (λ (g h : GroupData). g.header.name ≢ h.header.name) groups group c.once (λ k d lt. fresh k d lt);
}
