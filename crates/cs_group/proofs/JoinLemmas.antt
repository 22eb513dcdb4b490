-- What two groups, and two changesets, make together.
use Rattle.std.proofs.Common.{◌≡◌, ℕ, ◌<◌, List, [], ◌∷◌, length, get_or, Option, Some, None, All, refl, sym, ap, ◌∙◌, arith}
use Rattle.std.specs.Prelude.{IfSome}
use Rattle.std.proofs.lemmas.List.Elements.{All-weaker}
use Rattle.std.proofs.lemmas.Option.{same_Some}
use Rattle.cs_wire_entries.specs.declared.entry.Entry.{Entry}
use Rattle.cs_wire.specs.Entry.{IsEntry, key_of}
use Rattle.cs_wire.specs.Changeset.{HeaderData, GroupData, IsGroup, IsChangeset}
use Rattle.cs_group.specs.declared.merging.Merged.{Merged}
use Rattle.cs_group.specs.declared.merging.Merged.TheVariants.{Keep, Becomes, Vanish}
use Rattle.cs_group.specs.Joining.{merged, IfBecomes, FitsKey, table_name, with_text, outcome, left_of, joined_entry, joined_entries, some_group, joined_group, joined, key_marks, Agrees, AgreesWith, AreJoinable}
use Rattle.cs_group.proofs.KeyPlaceLemmas.{key_of_same, fits_same}
use Rattle.cs_group.proofs.MergeLemmas.{merged_fits}
use Rattle.cs_group.proofs.TextLemmas.{Once, with_text-new, with_text-at, with_text-found, joined-once, joined-each}

-- ---- entries

module _ (flags : List ℕ) (entry : Entry) (fits : IsEntry flags entry) where
  left_fits : (merge : Merged) → IfBecomes merge (FitsKey flags (key_of flags entry.change)) → IfSome (left_of entry merge) (FitsKey flags (key_of flags entry.change))
  left_fits Keep h = record { fits = fits; same = refl }
  left_fits (Becomes other) h = h
  left_fits Vanish h = tt

  joined_fits : (found : Option Entry) → IfSome found (λ e. IsEntry flags e × (key_of flags e.change ≡ key_of flags entry.change)) → IfSome (joined_entry flags entry found) (FitsKey flags (key_of flags entry.change))
  joined_fits None h = record { fits = fits; same = refl }
  joined_fits (Some second) h = left_fits (merged flags entry second) (merged_fits flags entry second fits h.0 (sym h.1))

fits_of : (flags key : List ℕ) (found : Option Entry) → IfSome found (FitsKey flags key) → IfSome found (IsEntry flags)
fits_of flags key None h = tt
fits_of flags key (Some e) h = h.fits

pub key_of_fit : (flags key : List ℕ) (found : Option Entry) → IfSome found (FitsKey flags key) → IfSome found (λ e. key_of flags e.change ≡ key)
key_of_fit flags key None h = tt
key_of_fit flags key (Some e) h = h.same

-- ---- groups

module _ (first second : GroupData) (p : IsGroup first) (q : IsGroup second) (agree : key_marks second.header.flags ≡ key_marks first.header.flags) where
  abbrev flags : List ℕ
  flags = first.header.flags

  abbrev key : Entry → List ℕ
  key e = key_of flags e.change

  pub others_fit : All (IsEntry flags) second.entries
  others_fit = All-weaker (IsEntry second.header.flags) (IsEntry flags) (λ (e : Entry). fits_same second.header.flags flags e.change agree) second.entries q.each

  pub outcomes : All (λ e. IfSome (outcome key (joined_entry flags) second.entries e) (FitsKey flags (key e))) first.entries
  outcomes k d lt =
      let entry = get_or first.entries k d in
      joined_fits flags entry (p.each k d lt) (with_text key second.entries (key entry)) (with_text-found key (IsEntry flags) second.entries (key entry) others_fit)

  -- what is joined makes a group, if there is something left
  pub joined_is_group : 0 < length (joined_entries flags first.entries second.entries) → IsGroup (record { header = first.header; entries = joined_entries flags first.entries second.entries })
  joined_is_group some = record {
    header = p.header;
    some = some;
    each = joined-each key (joined_entry flags) first.entries second.entries (IsEntry flags)
        (λ k d lt. fits_of flags (key (get_or first.entries k d)) (outcome key (joined_entry flags) second.entries (get_or first.entries k d)) (outcomes k d lt)) others_fit;
    once = joined-once key (joined_entry flags) first.entries second.entries
        (λ k d lt. key_of_fit flags (key (get_or first.entries k d)) (outcome key (joined_entry flags) second.entries (get_or first.entries k d)) (outcomes k d lt)) p.once
        (λ i j d lt within same.
        let x = get_or second.entries i d in
        let y = get_or second.entries j d in
        q.once i j d lt within (key_of_same second.header.flags flags x.change agree ∙ same ∙ sym (key_of_same second.header.flags flags y.change agree)));
  }

-- ---- changesets

-- the group of one table in the second changeset has the columns of the first
pub agree_found : (first second : List GroupData) (place : ℕ) (group : GroupData) → AreJoinable first second → place < length first → group ≡ get_or first place group
    → IfSome (with_text table_name second group.header.name) (λ h. key_marks h.header.flags ≡ key_marks group.header.flags)
agree_found first second place group joinable lt is = turned (with_text table_name second group.header.name) (with_text-found table_name (AgreesWith first) second group.header.name joinable)
  where
    turned : (found : Option GroupData) → IfSome found (λ h. AgreesWith first h × (h.header.name ≡ group.header.name)) → IfSome found (λ h. key_marks h.header.flags ≡ key_marks group.header.flags)
    turned None h = tt
    turned (Some other) h = let agrees : Agrees other group = rw (← is) at (h.0 place group lt) in sym (agrees (sym h.1))

-- where no group of the table is found, each agrees
pub agrees_unfound : (first : List GroupData) (group : GroupData) → None ≡ with_text table_name first group.header.name → AgreesWith first group
agrees_unfound first group none k d lt same = absurd (with_text-new table_name first group.header.name (sym none) k d lt same)

-- and else that one has to
module _ (first : List GroupData) (group other : GroupData) (once : Once table_name first) (found : Some other ≡ with_text table_name first group.header.name) where
  pub agrees_found : key_marks other.header.flags ≡ key_marks group.header.flags → AgreesWith first group
  agrees_found e k d lt same =
      let is : other ≡ get_or first k d = same_Some other (get_or first k d) (found ∙ with_text-at table_name first group.header.name k d once lt same) in
      ap (λ (g : GroupData). key_marks g.header.flags) (sym is) ∙ e

  pub found_agrees : AgreesWith first group → key_marks other.header.flags ≡ key_marks group.header.flags
  found_agrees all =
      let both : Agrees group other × (other.header.name ≡ group.header.name) = rw (← found) at (with_text-found table_name (Agrees group) first group.header.name all) in
      both.0 both.1

some_group_is : (header : HeaderData) (entries : List Entry) → (0 < length entries → IsGroup (record { header = header; entries = entries })) → IfSome (some_group header entries) (λ g. IsGroup g × (g.header.name ≡ header.name))
some_group_is header [] h = tt
some_group_is header (entry ∷ entries) h = (h (omega arith), refl)

both_first : (found : Option GroupData) (text : List ℕ) → IfSome found (λ g. IsGroup g × (g.header.name ≡ text)) → IfSome found IsGroup
both_first None text h = tt
both_first (Some g) text h = h.0

pub both_second : (found : Option GroupData) (text : List ℕ) → IfSome found (λ g. IsGroup g × (g.header.name ≡ text)) → IfSome found (λ g. g.header.name ≡ text)
both_second None text h = tt
both_second (Some g) text h = h.1

module _ (first second : List GroupData) (p : IsChangeset first) (q : IsChangeset second) (joinable : AreJoinable first second) where
  pub group_outcomes : All (λ g. IfSome (outcome table_name joined_group second g) (λ z. IsGroup z × (z.header.name ≡ g.header.name))) first
  group_outcomes k d lt = of (with_text table_name second group.header.name) (with_text-found table_name (λ (h : GroupData). IsGroup h × AgreesWith first h) second group.header.name (λ j e j_lt. (q.each j e j_lt, joinable j e j_lt)))
    where
      group : GroupData
      group = get_or first k d

      of : (found : Option GroupData) → IfSome found (λ h. (IsGroup h × AgreesWith first h) × (h.header.name ≡ group.header.name)) → IfSome (joined_group group found) (λ z. IsGroup z × (z.header.name ≡ group.header.name))
      of None h = (p.each k d lt, refl)
      of (Some other) h =
          some_group_is group.header (joined_entries group.header.flags group.entries other.entries)
          (joined_is_group group other (p.each k d lt) h.0.0 (sym (h.0.1 k d lt (sym h.1))))

  -- what is joined is a changeset
  pub joined_is_changeset : IsChangeset (joined first second)
  joined_is_changeset = record {
    each = joined-each table_name joined_group first second IsGroup
        (λ k d lt. both_first (outcome table_name joined_group second (get_or first k d)) (get_or first k d).header.name (group_outcomes k d lt)) q.each;
    once = joined-once table_name joined_group first second
        (λ k d lt. both_second (outcome table_name joined_group second (get_or first k d)) (get_or first k d).header.name (group_outcomes k d lt)) p.once q.once;
  }
