-- Changesets, and what undoes them.
use Rattle.std.proofs.Common.{◌≡◌, ℕ, ◌<◌, List, [], ◌∷◌, ◌++◌, length, length-append, get_or, refl, sym, ap, ◌∙◌, append_assoc, arith}
use Rattle.std.specs.List.{AllByRecursion, AllZip}
use Rattle.std.proofs.lemmas.List.{append-nil, get_or_at, get_or_append_left}
use Rattle.std.proofs.lemmas.List.Elements.{All-nil, recursion_from_All, AllZip-get_or, AllZip-push, length_all_zip}
use Rattle.cs_wire_entries.specs.declared.entry.Entry.{Entry}
use Rattle.cs_wire.specs.Entry.{IsEntry}
use Rattle.cs_wire.specs.Changeset.{HeaderData, GroupData, IsNewName, IsGroup, IsChangeset}
use Rattle.cs_wire.specs.Inverse.{IsInverseEntry, IsInverseGroup, exchanged}
use Rattle.cs_wire.specs.Laws.{EntryInverses}
use Rattle.cs_group.specs.Inverse.{IsInverse, ChangesetInverses, InverseTwice}

-- ---- changesets

-- that of no table
pub no_changeset : IsChangeset []
no_changeset = record { each = All-nil IsGroup; once = λ i j d lt in_list. absurd (omega arith) }

-- the groups that were taken of a changeset, each with its inverse, and those that are left
pub record InversesSoFar (changeset inverse taken left : List GroupData) : Type 0 where
  pub whole : taken ++ left ≡ changeset
  pub is_changeset : IsChangeset changeset
  pub inverse_is_changeset : IsChangeset inverse
  pub each : IsInverse taken inverse

-- none is taken yet
pub InversesSoFar-none : (changeset inverse left : List GroupData) → left ≡ changeset → IsChangeset changeset → inverse ≡ [] → InversesSoFar changeset inverse [] left
InversesSoFar-none changeset inverse left is c none = rw none (record { whole = is; is_changeset = c; inverse_is_changeset = no_changeset; each = tt })

module _ (changeset inverse taken left rest : List GroupData) (group : GroupData) (so : InversesSoFar changeset inverse taken left) (next : left ≡ group ∷ rest) where
  -- the next table is none of those before it
  pub next_table : (inverted : GroupData) → IsInverseGroup group inverted → IsNewName inverse inverted.header.name
  next_table inverted is k d k_lt same =
      let n = length taken in
      let whole : changeset ≡ taken ++ group ∷ rest = sym so.whole ∙ ap (λ (x : List GroupData). taken ++ x) next in
      let before : k < n = omega (arith, length_all_zip IsInverseGroup taken inverse so.each) in
      let here : get_or changeset n group ≡ group = rw whole (get_or_at taken group rest group n refl) in
      let there : get_or changeset k group ≡ get_or taken k group = rw whole (get_or_append_left taken (group ∷ rest) group k before) in
      let pair = AllZip-get_or IsInverseGroup taken inverse k group d so.each before in
      let names = λ (x y : GroupData) (e : x ≡ y). ap (λ (g : GroupData). g.header.name) e in
      so.is_changeset.once k n group before (omega (arith, ap length whole, length-append taken (group ∷ rest)))
      (names (get_or changeset k group) (get_or taken k group) there ∙ ap (λ (h : HeaderData). h.name) (sym pair.header) ∙ same ∙ ap (λ (h : HeaderData). h.name) is.header ∙ sym (names (get_or changeset n group) group here))

  -- and with it one more has its inverse
  pub InversesSoFar-push : (new : List GroupData) (inverted : GroupData) → IsChangeset new → new ≡ inverse ++ inverted ∷ [] → IsInverseGroup group inverted → InversesSoFar changeset new (taken ++ group ∷ []) rest
  InversesSoFar-push new inverted n grown is = record {
    whole = append_assoc taken (group ∷ []) rest ∙ ap (λ (x : List GroupData). taken ++ x) (sym next) ∙ so.whole;
    is_changeset = so.is_changeset;
    inverse_is_changeset = n;
    each = rw grown (AllZip-push IsInverseGroup taken inverse group inverted so.each is);
  }

-- all were taken
pub InversesSoFar-all : (changeset inverse taken left : List GroupData) → InversesSoFar changeset inverse taken left → length left ≡ 0 → IsInverse changeset inverse
InversesSoFar-all changeset inverse taken [] so none = rw (sym (append-nil taken) ∙ so.whole) at so.each
InversesSoFar-all changeset inverse taken (group ∷ left) so none = absurd (omega arith)

-- ---- exactly one inverse

module _ (law : EntryInverses) where
  same_entries : (flags : List ℕ) (es is js : List Entry) → AllByRecursion (IsEntry flags) is → AllByRecursion (IsEntry flags) js → AllZip (IsInverseEntry flags) es is → AllZip (IsInverseEntry flags) es js → is ≡ js
  same_entries flags [] [] [] p q h k = refl
  same_entries flags [] [] (j ∷ js) p q h k = absurd k
  same_entries flags [] (i ∷ is) js p q h k = absurd h
  same_entries flags (e ∷ es) [] js p q h k = absurd h
  same_entries flags (e ∷ es) (i ∷ is) [] p q h k = absurd k
  same_entries flags (e ∷ es) (i ∷ is) (j ∷ js) p q h k =
      let first = law flags e i j p.0 q.0 h.0 k.0 in
      let others = same_entries flags es is js p.1 q.1 h.1 k.1 in
      cc (first, others)

  same_group : (group inverse other : GroupData) → IsGroup inverse → IsGroup other → IsInverseGroup group inverse → IsInverseGroup group other → inverse ≡ other
  same_group group inverse other p q h k =
      let flags = group.header.flags in
      let each = recursion_from_All (IsEntry flags) inverse.entries (rw h.header at p.each) in
      let others = recursion_from_All (IsEntry flags) other.entries (rw k.header at q.each) in
      let entries = same_entries flags group.entries inverse.entries other.entries each others h.entries k.entries in
      let header : inverse.header ≡ other.header = h.header ∙ sym k.header in
      λ i. record { header = header i; entries = entries i }

  same_groups : (changeset inverse other : List GroupData) → AllByRecursion IsGroup inverse → AllByRecursion IsGroup other → IsInverse changeset inverse → IsInverse changeset other → inverse ≡ other
  same_groups [] [] [] p q h k = refl
  same_groups [] [] (j ∷ js) p q h k = absurd k
  same_groups [] (i ∷ is) js p q h k = absurd h
  same_groups (g ∷ gs) [] js p q h k = absurd h
  same_groups (g ∷ gs) (i ∷ is) [] p q h k = absurd k
  same_groups (g ∷ gs) (i ∷ is) (j ∷ js) p q h k =
      let first = same_group g i j p.0 q.0 h.0 k.0 in
      let others = same_groups gs is js p.1 q.1 h.1 k.1 in
      cc (first, others)

  pub changeset_inverses : ChangesetInverses
  changeset_inverses changeset inverse other p q h k = same_groups changeset inverse other (recursion_from_All IsGroup inverse p.each) (recursion_from_All IsGroup other q.each) h k

  -- what undoes is undone by what it undoes
  turned_entries : (flags : List ℕ) (es is : List Entry) → AllZip (IsInverseEntry flags) es is → AllZip (IsInverseEntry flags) is es
  turned_entries flags [] [] h = tt
  turned_entries flags [] (i ∷ is) h = absurd h
  turned_entries flags (e ∷ es) [] h = absurd h
  turned_entries flags (e ∷ es) (i ∷ is) h =
      (record { indirect = sym h.0.indirect; key = sym h.0.key; image = sym (ap exchanged h.0.image) }, turned_entries flags es is h.1)

  turned_group : (group inverse : GroupData) → IsInverseGroup group inverse → IsInverseGroup inverse group
  turned_group group inverse h = record {
    header = sym h.header;
    entries = rw h.header (turned_entries group.header.flags group.entries inverse.entries h.entries);
  }

  turned : (groups inverse : List GroupData) → IsInverse groups inverse → IsInverse inverse groups
  turned [] [] h = tt
  turned [] (i ∷ is) h = absurd h
  turned (g ∷ gs) [] h = absurd h
  turned (g ∷ gs) (i ∷ is) h = (turned_group g i h.0, turned gs is h.1)

  pub inverse_twice : InverseTwice
  inverse_twice changeset inverse twice c t h k = changeset_inverses inverse twice changeset t c k (turned changeset inverse h)
