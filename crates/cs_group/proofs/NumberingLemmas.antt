-- Numbered flags mark the same columns, so what is said under them is the same.
use Rattle.std.proofs.Common.{◌≡◌, ◌≢◌, ℕ, zero, suc, ◌<◌, Bool, true, false, List, [], ◌∷◌, ◌++◌, length, length-append, get_or, map, Any, refl, sym, ap, ◌∙◌, append_assoc, arith}
use Rattle.std.specs.List.{AllByRecursion, AllZip}
use Rattle.std.specs.FinMap.{from_entries}
use Rattle.std.proofs.Math.Nat.{min-le_right}
use Rattle.std.proofs.lemmas.List.{append-nil, get_or-map, get_or_at, get_or_append_left, length-map, map-append}
use Rattle.std.proofs.lemmas.List.Elements.{recursion_from_All, All-from_recursion}
use Rattle.cs_value.specs.Value.{AreBytes}
use Rattle.cs_value.specs.Maps.{ByBytes}
use Rattle.cs_value.specs.Varint.{varint}
use Rattle.cs_value.specs.Table.{IsFlags}
use Rattle.cs_wire_entries.specs.declared.entry.Entry.{Entry}
use Rattle.cs_wire.specs.Entry.{IsEntry, key_of}
use Rattle.cs_wire.specs.Changeset.{HeaderData, IsHeader, GroupData, ImageData, IsNewName, IsGroup, IsChangeset, flags_bytes, header_bytes, entries_bytes, group_bytes, file_bytes, image_of, group_images, images}
use Rattle.cs_wire.specs.Inverse.{exchanged, IsInverseEntry}
use Rattle.cs_group.specs.Joining.{table_name, key_marks}
use Rattle.cs_group.specs.Numbering.{next_number, numbered_behind, numbered_flags, numbered_header, numbered_group, numbered, InvertsNumbered}
use Rattle.cs_group.proofs.InverseLemmas.{no_changeset}
use Rattle.cs_group.proofs.KeyPlaceLemmas.{key_of_same, fits_same, after_image_same}

-- ---- flags

numbered_places : (last : ℕ) (flags : List ℕ) → key_marks flags ≡ key_marks (numbered_behind last flags)
numbered_places last [] = refl
numbered_places last (zero ∷ flags) = ap (λ (l : List Bool). false ∷ l) (numbered_places last flags)
numbered_places last (suc flag ∷ flags) = ap (λ (l : List Bool). true ∷ l) (numbered_places (next_number last) flags)

-- they mark the same columns
pub places_stay : (flags : List ℕ) → key_marks flags ≡ key_marks (numbered_flags flags)
places_stay flags = numbered_places 0 flags

numbered_width : (last : ℕ) (flags : List ℕ) → length (numbered_behind last flags) ≡ length flags
numbered_width last [] = refl
numbered_width last (zero ∷ flags) = ap suc (numbered_width last flags)
numbered_width last (suc flag ∷ flags) = ap suc (numbered_width (next_number last) flags)

numbered_bytes : (last : ℕ) (flags : List ℕ) → AreBytes (numbered_behind last flags)
numbered_bytes last [] = tt
numbered_bytes last (zero ∷ flags) = (omega arith, numbered_bytes last flags)
numbered_bytes last (suc flag ∷ flags) = (omega (arith, min-le_right last 254), numbered_bytes (next_number last) flags)

numbered_key : (last : ℕ) (flags : List ℕ) (k x : ℕ) → k < length flags → get_or flags k x ≡ x → 0 < x → Any (λ flag. 0 < flag) (numbered_behind last flags)
numbered_key last [] k x lt is some = absurd (omega arith)
numbered_key last (zero ∷ flags) zero x lt is some = absurd (omega (arith, is, some))
numbered_key last (suc flag ∷ flags) zero x lt is some = (0, next_number last, omega arith, refl, omega arith)
numbered_key last (zero ∷ flags) (suc k) x lt is some =
    let found = numbered_key last flags k x (omega arith) is some in (suc found.0, found.1, omega (arith, found.2), found.3, found.4)
numbered_key last (suc flag ∷ flags) (suc k) x lt is some =
    let found = numbered_key (next_number last) flags k x (omega arith) is some in (suc found.0, found.1, omega (arith, found.2), found.3, found.4)

-- and so they are flags
IsFlags-numbered : (flags : List ℕ) → IsFlags flags → IsFlags (numbered_flags flags)
IsFlags-numbered flags is = record {
  bytes = numbered_bytes 0 flags;
  few = omega (arith, is.few, numbered_width 0 flags);
  some_key = numbered_key 0 flags is.some_key.0 is.some_key.1 is.some_key.2 is.some_key.3 is.some_key.4;
}

pub IsHeader-numbered : (header : HeaderData) → IsHeader header → IsHeader (numbered_header header)
IsHeader-numbered header is = record { name = is.name; flags = IsFlags-numbered header.flags is.flags }

-- the next flag is none of the key
pub numbered_outside : (flags : List ℕ) (last flag : ℕ) (rest : List ℕ) → flags ≡ flag ∷ rest → flag ≡ 0 → numbered_behind last flags ≡ 0 ∷ numbered_behind last rest
numbered_outside flags last flag rest is none = rw (is, none) refl

-- it is one
pub numbered_next : (flags : List ℕ) (last flag : ℕ) (rest : List ℕ) → flags ≡ flag ∷ rest → flag ≢ 0 → numbered_behind last flags ≡ next_number last ∷ numbered_behind (next_number last) rest
numbered_next flags last zero rest is some = absurd (some refl)
numbered_next flags last (suc flag) rest is some = rw is refl

-- ---- entries

entries_fit : (flags : List ℕ) (entries : List Entry) → AllByRecursion (IsEntry flags) entries → AllByRecursion (IsEntry (numbered_flags flags)) entries
entries_fit flags [] each = tt
entries_fit flags (entry ∷ entries) each = (fits_same flags (numbered_flags flags) entry.change (places_stay flags) each.0, entries_fit flags entries each.1)

pub key_stays : (flags : List ℕ) (entry : Entry) → key_of (numbered_flags flags) entry.change ≡ key_of flags entry.change
key_stays flags entry = sym (key_of_same flags (numbered_flags flags) entry.change (places_stay flags))

image_stays : (flags : List ℕ) (entry : Entry) → image_of (numbered_flags flags) entry ≡ image_of flags entry
image_stays flags entry = rw (← after_image_same flags (numbered_flags flags) entry.change (places_stay flags)) refl

-- the entries of a group make one under numbered flags
pub IsGroup-numbered : (group : GroupData) → IsGroup group → IsGroup (numbered_group group)
IsGroup-numbered group is =
    let flags = group.header.flags in record {
      header = IsHeader-numbered group.header is.header;
      some = is.some;
      each = All-from_recursion (IsEntry (numbered_flags flags)) group.entries (entries_fit flags group.entries (recursion_from_All (IsEntry flags) group.entries is.each));
      once = λ i j d lt within same.
          is.once i j d lt within (sym (key_stays flags (get_or group.entries i d)) ∙ same ∙ key_stays flags (get_or group.entries j d));
    }

-- ---- changesets

-- the groups that were taken of a changeset, numbered, and those that are left
pub record NumberedSoFar (changeset other taken left : List GroupData) : Type 0 where
  pub whole : taken ++ left ≡ changeset
  pub is_changeset : IsChangeset changeset
  pub other_is_changeset : IsChangeset other
  pub each : other ≡ numbered taken

-- none is taken yet
pub NumberedSoFar-none : (changeset other left : List GroupData) → left ≡ changeset → IsChangeset changeset → other ≡ [] → NumberedSoFar changeset other [] left
NumberedSoFar-none changeset other left is c none = rw none (record { whole = is; is_changeset = c; other_is_changeset = no_changeset; each = refl })

module _ (changeset other taken left rest : List GroupData) (group : GroupData) (so : NumberedSoFar changeset other taken left) (next : left ≡ group ∷ rest) where
  -- the next table is none of those before it
  pub next_table : IsNewName other group.header.name
  next_table k d k_lt same =
      let n = length taken in
      let whole : changeset ≡ taken ++ group ∷ rest = sym so.whole ∙ ap (λ (x : List GroupData). taken ++ x) next in
      let before : k < n = omega (arith, k_lt, ap length so.each, length-map taken numbered_group) in
      let here : get_or changeset n group ≡ group = rw whole (get_or_at taken group rest group n refl) in
      let there : get_or changeset k group ≡ get_or taken k group = rw whole (get_or_append_left taken (group ∷ rest) group k before) in
      let pair : get_or other k d ≡ numbered_group (get_or taken k group) = rw so.each (get_or-map numbered_group taken k group d before) in
      let names = λ (x y : GroupData) (e : x ≡ y). ap (λ (g : GroupData). g.header.name) e in
      so.is_changeset.once k n group before (omega (arith, ap length whole, length-append taken (group ∷ rest)))
      (names (get_or changeset k group) (get_or taken k group) there ∙ sym (names (get_or other k d) (numbered_group (get_or taken k group)) pair) ∙ same ∙ sym (names (get_or changeset n group) group here))

  -- and with it one more is numbered
  pub NumberedSoFar-push : (new : List GroupData) → IsChangeset new → new ≡ other ++ numbered_group group ∷ [] → NumberedSoFar changeset new (taken ++ group ∷ []) rest
  NumberedSoFar-push new n grown = record {
    whole = append_assoc taken (group ∷ []) rest ∙ ap (λ (x : List GroupData). taken ++ x) (sym next) ∙ so.whole;
    is_changeset = so.is_changeset;
    other_is_changeset = n;
    each = grown ∙ ap (λ (x : List GroupData). x ++ numbered_group group ∷ []) so.each ∙ sym (map-append numbered_group taken (group ∷ []));
  }

-- all were taken
pub NumberedSoFar-all : (changeset other taken left : List GroupData) → NumberedSoFar changeset other taken left → length left ≡ 0 → other ≡ numbered changeset
NumberedSoFar-all changeset other taken [] so none = so.each ∙ ap numbered (sym (append-nil taken) ∙ so.whole)
NumberedSoFar-all changeset other taken (group ∷ left) so none = absurd (omega arith)

-- so a changeset, numbered, is one
pub IsChangeset-numbered : (changeset : List GroupData) → IsChangeset changeset → IsChangeset (numbered changeset)
IsChangeset-numbered changeset is =
    let len = length-map changeset numbered_group in record {
      each = All-from_recursion IsGroup (numbered changeset) (groups_numbered changeset (recursion_from_All IsGroup changeset is.each));
      once = λ i j d lt within same.
          let at = λ (k : ℕ) (k_in : k < length changeset). ap table_name (get_or-map numbered_group changeset k d d k_in) in
          is.once i j d lt (omega (arith, within, len)) (sym (at i (omega (arith, lt, within, len))) ∙ same ∙ at j (omega (arith, within, len)));
    }
  where
    groups_numbered : (groups : List GroupData) → AllByRecursion IsGroup groups → AllByRecursion IsGroup (numbered groups)
    groups_numbered [] each = tt
    groups_numbered (g ∷ gs) each = (IsGroup-numbered g each.0, groups_numbered gs each.1)

-- ---- images

abbrev keyed_image : List ℕ → Entry → List ℕ × ImageData
keyed_image flags e = (key_of flags e.change, image_of flags e)

abbrev named_images : GroupData → List ℕ × ByBytes ImageData
named_images g = (g.header.name, group_images g)

entry_images : (flags : List ℕ) (entries : List Entry) → map (keyed_image (numbered_flags flags)) entries ≡ map (keyed_image flags) entries
entry_images flags [] = refl
entry_images flags (entry ∷ entries) = rw (key_stays flags entry, image_stays flags entry, entry_images flags entries) refl

table_images : (groups : List GroupData) → map named_images (numbered groups) ≡ map named_images groups
table_images [] = refl
table_images (group ∷ groups) = rw (entry_images group.header.flags group.entries, table_images groups) refl

-- a changeset says the same
pub images_stay : (changeset : List GroupData) → images (numbered changeset) ≡ images changeset
images_stay changeset = ap from_entries (table_images changeset)

-- ---- the inverse

entries_inverse : (flags : List ℕ) (es is : List Entry) → AllZip (IsInverseEntry flags) es is → AllZip (IsInverseEntry (numbered_flags flags)) es is
entries_inverse flags [] [] h = tt
entries_inverse flags [] (i ∷ is) h = absurd h
entries_inverse flags (e ∷ es) [] h = absurd h
entries_inverse flags (e ∷ es) (i ∷ is) h = (
  record {
    indirect = h.0.indirect;
    key = key_stays flags i ∙ h.0.key ∙ sym (key_stays flags e);
    image = image_stays flags i ∙ h.0.image ∙ ap exchanged (sym (image_stays flags e));
  },
  entries_inverse flags es is h.1,
)

-- the inverse, numbered, is that of the numbered
pub inverse_numbered : (changeset : List GroupData) → InvertsNumbered changeset (numbered changeset)
inverse_numbered [] [] h = tt
inverse_numbered [] (i ∷ is) h = absurd h
inverse_numbered (g ∷ gs) [] h = absurd h
inverse_numbered (g ∷ gs) (i ∷ is) h = (
  record { header = ap numbered_header h.0.header; entries = entries_inverse g.header.flags g.entries i.entries h.0.entries },
  inverse_numbered gs is h.1,
)

-- ---- the file

header_length : (header : HeaderData) → length (header_bytes (numbered_header header)) ≡ length (header_bytes header)
unfolding header_bytes flags_bytes
header_length header =
    let flags = header.flags in
    let end = header.name ++ 0 ∷ [] in
    let width = numbered_width 0 flags in
    omega (
      arith,
      width,
      ap (λ n. length (varint n)) width,
      length-append (varint (length (numbered_flags flags)) ++ numbered_flags flags) end,
      length-append (varint (length flags) ++ flags) end,
      length-append (varint (length (numbered_flags flags))) (numbered_flags flags),
      length-append (varint (length flags)) flags,
    )

group_length_stays : (group : GroupData) → length (group_bytes (numbered_group group)) ≡ length (group_bytes group)
unfolding group_bytes
group_length_stays group =
    omega (
      arith,
      header_length group.header,
      length-append (header_bytes (numbered_header group.header)) (entries_bytes group.entries),
      length-append (header_bytes group.header) (entries_bytes group.entries),
    )

-- it is as long
pub length_stays : (changeset : List GroupData) → length (file_bytes (numbered changeset)) ≡ length (file_bytes changeset)
length_stays [] = refl
length_stays (g ∷ gs) =
    omega (
      arith,
      group_length_stays g,
      length_stays gs,
      length-append (group_bytes (numbered_group g)) (file_bytes (numbered gs)),
      length-append (group_bytes g) (file_bytes gs),
    )
