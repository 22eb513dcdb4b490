-- What undoes the groups of a changeset.
use Rattle.std.proofs.Common.{◌≡◌, ℕ, ◌<◌, List, [], ◌∷◌, length, map, sym, ap, ◌∙◌, arith}
use Rattle.std.specs.List.{AllByRecursion}
use Rattle.std.proofs.lemmas.List.{get_or-map, length-map}
use Rattle.std.proofs.lemmas.List.Elements.{recursion_from_All, All-from_recursion}
use Rattle.cs_wire_entries.specs.declared.entry.Entry.{Entry}
use Rattle.cs_wire.specs.Entry.{IsEntry}
use Rattle.cs_wire.specs.Changeset.{GroupData, IsGroup, IsChangeset}
use Rattle.cs_wire.specs.Inverse.{IsInverseEntry}
use Rattle.cs_wire.specs.Views.{inverse_entry}
use Rattle.cs_wire.proofs.EntryInverses.{entry_inverses}
use Rattle.cs_wire_entries.proofs.InverseLemmas.{IsEntry-inverse, IsGroup-inverse, IsInverseGroup-is, inverse_entry_is}
use Rattle.cs_group.specs.Inverse.{IsInverse, inverse_group}

-- the entry that undoes another is the one that is written
pub inverse_is : (flags : List ℕ) (entry inverse : Entry) → IsEntry flags entry → IsEntry flags inverse → IsInverseEntry flags entry inverse → inverse ≡ inverse_entry flags entry
inverse_is flags entry inverse p q is = entry_inverses flags entry inverse (inverse_entry flags entry) q (IsEntry-inverse flags entry p) is (inverse_entry_is flags entry p)

pub groups_inverse : (groups : List GroupData) → AllByRecursion IsGroup groups → AllByRecursion IsGroup (map inverse_group groups) × IsInverse groups (map inverse_group groups)
groups_inverse [] h = (tt, tt)
groups_inverse (group ∷ groups) h =
    let others = groups_inverse groups h.1 in
    ((IsGroup-inverse group h.0, others.0), (IsInverseGroup-is group h.0, others.1))

-- what undoes the groups of a changeset is one
pub IsChangeset-inverse : (groups : List GroupData) → IsChangeset groups → IsChangeset (map inverse_group groups)
IsChangeset-inverse groups are =
    let len = length-map groups inverse_group in record {
      each = All-from_recursion IsGroup (map inverse_group groups) (groups_inverse groups (recursion_from_All IsGroup groups are.each)).0;
      once = λ i j d lt within same.
          let at = λ (k : ℕ) (k_in : k < length groups). ap (λ (g : GroupData). g.header.name) (get_or-map inverse_group groups k d d k_in) in
          are.once i j d lt (omega (arith, within, len)) (sym (at i (omega (arith, lt, within, len))) ∙ same ∙ at j (omega (arith, within, len)));
    }
