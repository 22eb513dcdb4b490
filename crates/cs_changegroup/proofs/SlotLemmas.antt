-- The slots of a table, and its entries.
use Rattle.std.proofs.Common.{◌≡◌, ℕ, zero, suc, ◌+◌, ◌<◌, ◌≤◌, Bool, true, false, cond, List, [], ◌∷◌, ◌++◌, length, length-append, map, get_or, set, take, drop, Option, Some, None, refl, sym, ap, subst, ◌∙◌, append_assoc, append-nil, ⊎_elim, arith}
use Rattle.std.specs.Prelude.{Err, IfSome, Ok, OnOk, Result, filter_map}
use Rattle.std.specs.List.{AllZip, cons_option}
use Rattle.std.specs.Option.{option_to_list}
use Rattle.std.proofs.lemmas.List.{get_or-map, get_or_default, length-set, map-append, map-set, nil_from_length, set-get_or, take_all, take_more}
use Rattle.std.proofs.lemmas.Bool.{cases_lt}
use Rattle.std.proofs.lemmas.List.Concat.{flat_map-append}
use Rattle.std.proofs.lemmas.List.Elements.{filter_map-append}
use Rattle.cs_wire_entries.specs.declared.entry.Change.TheVariants.{Insert}
use Rattle.cs_wire_entries.specs.declared.entry.Entry.{Entry}
use Rattle.cs_wire.specs.Changeset.{HeaderData, entries_bytes, group_bytes, header_bytes}
use Rattle.cs_wire.specs.Entry.{IsEntry, entry_bytes, key_of}
use Rattle.cs_wire.specs.ReadFaults.{HasEntry}
use Rattle.cs_wire.proofs.EntriesLemmas.{HasEntry-entry}
use Rattle.cs_wire_entries.proofs.EntryLemmas.{entry_bytes_some}
use Rattle.cs_file_scan.specs.Chains.{ChainsData}
use Rattle.cs_file_scan.specs.Distinct.{number_of}
use Rattle.cs_group.specs.declared.merging.Merged.{Merged}
use Rattle.cs_group.specs.declared.merging.Merged.TheVariants.{Becomes, Keep, Vanish}
use Rattle.cs_group.specs.Joining.{FitsKey, IfBecomes, entry_key, joined_entries, joined_entry, left_of, merged, some_group}
use Rattle.cs_group.proofs.MergeLemmas.{merged_fits}
use Rattle.cs_changegroup.specs.declared.slot.Slot.{Slot}
use Rattle.cs_changegroup.specs.declared.slot.Text.TheVariants.{Within}
use Rattle.cs_changegroup.specs.declared.table.Outcome.{Outcome}
use Rattle.cs_files.specs.Writing.{some_bytes}
use Rattle.cs_changegroup.specs.Slots.{AreSlots, HasPushed, HasSet, IsMergedAt, IsSlotOf, IsTextAt, KeptEntry, NoneLives, Puts, TableView, if_live, kept_key, live_entries}
use Rattle.cs_changegroup.proofs.LivingLemmas.{lives_joined, lives_pushed, lives_set, once_pushed, once_set}

-- what is live has the key
pub own_key : (flags : List ℕ) (kept : KeptEntry) → IfSome (if_live kept) (λ e. entry_key flags e ≡ kept_key flags kept)
own_key flags kept = by kept.live
  where
    by : (b : Bool) → IfSome (cond b (Some kept.entry) None) (λ e. entry_key flags e ≡ kept_key flags kept)
    by true = refl
    by false = tt

pub joined_alone : (flags : List ℕ) (entry : Entry) → joined_entry flags entry None ≡ Some entry
joined_alone flags entry = refl

abbrev pub no_slot : Slot
no_slot = record { text = Within 0 0; live = false }

abbrev pub no_entry : KeptEntry
no_entry = record { entry = record { indirect = false; change = Insert [] }; live = false }

abbrev pub as_live : Entry → KeptEntry
as_live entry = record { entry = entry; live = true }

-- the table has these entries, and those that it had with one more
pub record HasAdded (files : List ℕ) (old new : TableView) (kept : List KeptEntry) (entry : Entry) : Type 0 where
  pub grown : List KeptEntry
  pub are_slots : AreSlots files new grown
  pub joined : live_entries grown ≡ joined_entries old.header.flags (live_entries kept) (entry ∷ [])

-- ---- lists of which each thing has one in the other

pub AllZip-length : {X Y : Type 0} (R : X → Y → Type 0) (xs : List X) (ys : List Y) → AllZip R xs ys → length xs ≡ length ys
AllZip-length R [] [] all = refl
AllZip-length R [] (y ∷ ys) all = absurd all
AllZip-length R (x ∷ xs) [] all = absurd all
AllZip-length R (x ∷ xs) (y ∷ ys) all = ap suc (AllZip-length R xs ys all.1)

pub AllZip-more : {X Y : Type 0} (R : X → Y → Type 0) (xs : List X) (ys : List Y) (x : X) (y : Y) → AllZip R xs ys → R x y → AllZip R (xs ++ x ∷ []) (ys ++ y ∷ [])
AllZip-more R [] [] x y all is = (is, tt)
AllZip-more R [] (w ∷ ys) x y all is = absurd all
AllZip-more R (v ∷ xs) [] x y all is = absurd all
AllZip-more R (v ∷ xs) (w ∷ ys) x y all is = (all.0, AllZip-more R xs ys x y all.1 is)

pub AllZip-at : {X Y : Type 0} (R : X → Y → Type 0) (xs : List X) (ys : List Y) (i : ℕ) (d : X) (e : Y) → AllZip R xs ys → i < length ys → R (get_or xs i d) (get_or ys i e)
AllZip-at R [] [] i d e all lt = absurd (omega (arith, lt))
AllZip-at R [] (y ∷ ys) i d e all lt = absurd all
AllZip-at R (x ∷ xs) [] i d e all lt = absurd all
AllZip-at R (x ∷ xs) (y ∷ ys) zero d e all lt = all.0
AllZip-at R (x ∷ xs) (y ∷ ys) (suc i) d e all lt = AllZip-at R xs ys i d e all.1 (omega (arith, lt))

pub AllZip-set : {X Y : Type 0} (R : X → Y → Type 0) (xs : List X) (ys : List Y) (i : ℕ) (x : X) (y : Y) → AllZip R xs ys → R x y → AllZip R (set xs i x) (set ys i y)
AllZip-set R [] [] i x y all is = all
AllZip-set R [] (z ∷ ys) i x y all is = absurd all
AllZip-set R (z ∷ xs) [] i x y all is = absurd all
AllZip-set R (v ∷ xs) (w ∷ ys) zero x y all is = (is, all.1)
AllZip-set R (v ∷ xs) (w ∷ ys) (suc i) x y all is = (all.0, AllZip-set R xs ys i x y all.1 is)

module _ (files : List ℕ) (old new : TableView) (kept : List KeptEntry) (are : AreSlots files old kept) (entry : Entry) (fits : IsEntry old.header.flags entry) where
  abbrev flags : List ℕ
  flags = old.header.flags

  abbrev key : KeptEntry → List ℕ
  key = kept_key flags

  -- one more
  pub pushed_adds : (number : ℕ) (slot : Slot) → HasPushed old new number slot → slot.live ≡ true → IsTextAt files slot.text (entry_bytes entry) → number ≡ number_of (key_of flags entry.change)
      → NoneLives if_live key kept (key_of flags entry.change) → HasAdded files old new kept entry
  pushed_adds number slot pushed live text number_is none = record {
    grown = grown;
    are_slots = record {
      slots = rw (pushed.header, pushed.slots) (AllZip-more (IsSlotOf files flags) old.slots kept slot (as_live entry) are.slots (record { text = text; live = live; fits = fits }));
      numbers = rw pushed.header (pushed.numbers ∙ ap (λ (l : List ℕ). l ++ number ∷ []) are.numbers ∙ ap (λ (n : ℕ). map (λ k. number_of (key k)) kept ++ n ∷ []) number_is ∙ sym (map-append (λ k. number_of (key k)) kept (as_live entry ∷ [])));
      once = rw pushed.header (once_pushed if_live key kept (as_live entry) are.once none);
      vanished = omega (arith, pushed.vanished, are.vanished, ap length (filter_map-append if_live kept (as_live entry ∷ [])), length-append (live_entries kept) (entry ∷ []), length-append kept (as_live entry ∷ []));
    };
    joined = lives_pushed if_live key (entry_key flags) (own_key flags) (joined_entry flags) (joined_alone flags) kept (as_live entry) entry none refl;
  }
    where
      grown : List KeptEntry
      grown = kept ++ as_live entry ∷ []

  -- one that is merged with a later one
  module _ (outcome : Outcome) (at : IsMergedAt flags kept entry outcome) where
    abbrev found : KeptEntry
    found = at.found

    abbrev index : ℕ
    index = outcome.index

    there : (d : KeptEntry) → get_or kept index d ≡ found
    there d = get_or_default kept index d found at.within ∙ sym at.there

    counts : if_live found ≡ Some found.entry
    counts = ap (λ b. cond b (Some found.entry) None) at.live

    slots_within : index < length old.slots
    slots_within = omega (arith, at.within, AllZip-length (IsSlotOf files flags) old.slots kept are.slots)

    slot_there : (d : Slot) → IsSlotOf files flags (get_or old.slots index d) found
    slot_there d = subst (IsSlotOf files flags (get_or old.slots index d)) (there found) (AllZip-at (IsSlotOf files flags) old.slots kept index d found are.slots at.within)

    some_lives : length (live_entries kept) ≡ length (filter_map if_live (take index kept)) + (1 + length (filter_map if_live (drop (suc index) kept)))
    some_lives =
        let split : live_entries kept ≡ filter_map if_live (take index kept) ++ (option_to_list (if_live found) ++ filter_map if_live (drop (suc index) kept)) =
        ap (filter_map if_live) (sym (set-get_or kept index found) ∙ ap (set kept index) (there found)) ∙ lives_set if_live key kept index found at.within in
        omega (
          arith,
          ap length (split ∙ ap (λ (o : Option Entry). filter_map if_live (take index kept) ++ (option_to_list o ++ filter_map if_live (drop (suc index) kept))) counts),
          length-append (filter_map if_live (take index kept)) (found.entry ∷ filter_map if_live (drop (suc index) kept)),
        )

    pub vanished_within : old.vanished < length old.slots
    vanished_within = omega (arith, are.vanished, some_lives, AllZip-length (IsSlotOf files flags) old.slots kept are.slots)

    -- the entries with another one there
    module _ (other : KeptEntry) (same : key other ≡ key found) (becomes : if_live other ≡ joined_entry flags found.entry (Some entry)) where
      changed : List KeptEntry
      changed = set kept index other

      changed_joined : live_entries (set kept index other) ≡ joined_entries flags (live_entries kept) (entry ∷ [])
      changed_joined = lives_joined if_live key (entry_key flags) (own_key flags) (joined_entry flags) (joined_alone flags) kept index found other found.entry entry are.once at.within at.there counts at.one_key becomes

      numbers_same : map (λ k. number_of (key k)) (set kept index other) ≡ map (λ k. number_of (key k)) kept
      numbers_same =
          map-set (λ k. number_of (key k)) kept index other
          ∙ ap (λ (n : ℕ). set (map (λ k. number_of (key k)) kept) index n) (ap number_of (same ∙ ap key (sym (there found))) ∙ sym (get_or-map (λ k. number_of (key k)) kept index found (number_of (key found)) at.within))
          ∙ set-get_or (map (λ k. number_of (key k)) kept) index (number_of (key found))

      set_adds : (slot : Slot) (vanished : ℕ) → HasSet old new index vanished slot → IsSlotOf files flags slot other → vanished + length (live_entries (set kept index other)) ≡ length kept → HasAdded files old new kept entry
      set_adds slot vanished so is count = record {
        grown = set kept index other;
        are_slots = record {
          slots = rw (so.header, so.slots) (AllZip-set (IsSlotOf files flags) old.slots kept index slot other are.slots is);
          numbers = rw so.header (ap (λ (c : ChainsData). c.numbers) so.keys ∙ are.numbers ∙ sym numbers_same);
          once = rw so.header (once_set if_live key kept index found other found.entry are.once at.within at.there counts same);
          vanished = omega (arith, so.vanished_is, count, length-set kept index other);
        };
        joined = changed_joined;
      }

    pub put_adds : Puts old new index outcome.merged → HasAdded files old new kept entry
    put_adds = by outcome.merged at.merged
      where
        left : (m : Merged) → m ≡ merged flags found.entry entry → joined_entry flags found.entry (Some entry) ≡ left_of found.entry m
        left m is = ap (left_of found.entry) (sym is)

        own_fits : IfBecomes (merged flags found.entry entry) (FitsKey flags (key_of flags found.entry.change))
        own_fits = merged_fits flags found.entry entry (slot_there no_slot).fits fits (sym at.one_key)

        by : (m : Merged) → m ≡ merged flags found.entry entry → Puts old new index m → HasAdded files old new kept entry
        by Keep is same = record {
          grown = kept;
          are_slots = rw same are;
          joined = ap (filter_map if_live) (sym (ap (set kept index) (sym (there found)) ∙ set-get_or kept index found)) ∙ changed_joined found refl (counts ∙ sym (left Keep is));
        }
        by (Becomes e) is (slot, text, live, so) =
            let becomes : IfBecomes (Becomes e) (FitsKey flags (key_of flags found.entry.change)) = subst (λ (m : Merged). IfBecomes m (FitsKey flags (key_of flags found.entry.change))) (sym is) own_fits in
            set_adds (as_live e) becomes.same (sym (left (Becomes e) is)) slot old.vanished so (record { text = text files; live = live; fits = becomes.fits })
            (omega (arith, are.vanished, some_lives, ap length (lives_set if_live key kept index (as_live e) at.within), length-append (filter_map if_live (take index kept)) (e ∷ filter_map if_live (drop (suc index) kept))))
        by Vanish is so =
            let gone : KeptEntry = record { entry = found.entry; live = false } in
            let slot = get_or old.slots index no_slot in
            let here = slot_there no_slot in
            set_adds gone refl (sym (left Vanish is)) (record { text = slot.text; live = false }) (old.vanished + 1) (so slot (get_or_default old.slots index no_slot slot slots_within) vanished_within)
            (record { text = here.text; live = refl; fits = here.fits })
            (omega (arith, are.vanished, some_lives, ap length (lives_set if_live key kept index gone at.within), length-append (filter_map if_live (take index kept)) (filter_map if_live (drop (suc index) kept))))

-- ---- an entry that is read where it is

module _ (files : List ℕ) (view : TableView) (kept : List KeptEntry) (are : AreSlots files view kept) (index : ℕ) (within : index < length kept) (k : KeptEntry) where
  abbrev here : KeptEntry
  here = get_or kept index k

  pub slots_long : index < length view.slots
  slots_long = omega (arith, within, AllZip-length (IsSlotOf files view.header.flags) view.slots kept are.slots)

  pub slot_at : (d : Slot) → IsSlotOf files view.header.flags (get_or view.slots index d) here
  slot_at d = AllZip-at (IsSlotOf files view.header.flags) view.slots kept index d k are.slots within

  module _ (bytes : List ℕ) (d : Slot) (bytes_is : (text : List ℕ) → IsTextAt files (get_or view.slots index d).text text → 0 < length text → bytes ≡ text) where
    pub bytes_at : bytes ≡ entry_bytes here.entry
    bytes_at = bytes_is (entry_bytes here.entry) (slot_at d).text (entry_bytes_some here.entry)

    pub spelled_at : drop 0 bytes ≡ entry_bytes here.entry ++ []
    spelled_at = bytes_at ∙ sym (append-nil (entry_bytes here.entry))

    pub has_entry_at : HasEntry bytes 0
    has_entry_at = HasEntry-entry bytes 0 here.entry [] (omega arith) spelled_at

  -- whether it is live
  pub live_at : (d : Slot) → here.live ≡ (get_or view.slots index d).live
  live_at d = sym (slot_at d).live

  pub gone_at : (d : Slot) → (get_or view.slots index d).live ≡ false → if_live here ≡ None
  gone_at d gone = ap (λ b. cond b (Some here.entry) None) (live_at d ∙ gone)

-- what holds where a call succeeds
pub ok_then : {X E : Type 0} {P Q : Type 0} (r : Result X E) → OnOk r P → (P → Q) → OnOk r Q
ok_then (Ok x) p step = step p
ok_then (Err e) p step = tt

-- ---- entries that are written

module _ (files : List ℕ) (view : TableView) (kept : List KeptEntry) (are : AreSlots files view kept) where
  slots_count : length view.slots ≡ length kept
  slots_count = AllZip-length (IsSlotOf files view.header.flags) view.slots kept are.slots

  pub none_lives : view.vanished ≡ length view.slots → live_entries kept ≡ []
  none_lives none = nil_from_length (live_entries kept) (omega (arith, none, are.vanished, slots_count))

  pub some_lives_here : (view.vanished ≡ length view.slots → ⊥) → 0 < length (live_entries kept)
  some_lives_here some = ⊎_elim (λ lt. lt) (λ le. absurd (some (omega (arith, le, are.vanished, slots_count)))) (cases_lt 0 (length (live_entries kept)))

  module _ (index : ℕ) (within : index < length view.slots) (out now : List ℕ) (so_far : now ≡ out ++ entries_bytes (live_entries (take index kept))) (k : KeptEntry) where
    pub in_kept : index < length kept
    in_kept = omega (arith, within, slots_count)

    more : (b : Bool) → (get_or kept index k).live ≡ b → live_entries (take (index + 1) kept) ≡ live_entries (take index kept) ++ option_to_list (cond b (Some (get_or kept index k).entry) None)
    more b is =
        ap live_entries (take_more kept index k in_kept)
        ∙ filter_map-append if_live (take index kept) (get_or kept index k ∷ [])
        ∙ ap (λ b. live_entries (take index kept) ++ cons_option (cond b (Some (get_or kept index k).entry) None) []) is
        ∙ by b
      where
        by : (b : Bool) → live_entries (take index kept) ++ cons_option (cond b (Some (get_or kept index k).entry) None) [] ≡ live_entries (take index kept) ++ option_to_list (cond b (Some (get_or kept index k).entry) None)
        by true = refl
        by false = refl

    pub live_written : (grown bytes : List ℕ) → (get_or kept index k).live ≡ true → bytes ≡ entry_bytes (get_or kept index k).entry → grown ≡ now ++ bytes → grown ≡ out ++ entries_bytes (live_entries (take (index + 1) kept))
    live_written grown bytes live is grown_is =
        grown_is ∙ ap (λ (l : List ℕ). l ++ bytes) so_far ∙ append_assoc out (entries_bytes (live_entries (take index kept))) bytes
        ∙ ap (λ (l : List ℕ). out ++ (entries_bytes (live_entries (take index kept)) ++ l)) (is ∙ sym (append-nil (entry_bytes (get_or kept index k).entry)))
        ∙ ap (λ (l : List ℕ). out ++ l) (sym (flat_map-append entry_bytes (live_entries (take index kept)) ((get_or kept index k).entry ∷ [])))
        ∙ ap (λ (es : List Entry). out ++ entries_bytes es) (sym (more true live))

    pub gone_written : (get_or kept index k).live ≡ false → now ≡ out ++ entries_bytes (live_entries (take (index + 1) kept))
    gone_written gone = so_far ∙ ap (λ (es : List Entry). out ++ entries_bytes es) (sym (more false gone ∙ append-nil (live_entries (take index kept))))

  pub all_written : (index : ℕ) → length view.slots ≤ index → live_entries (take index kept) ≡ live_entries kept
  all_written index le = ap live_entries (take_all index kept (omega (arith, le, slots_count)))

-- a group that has entries
pub group_is : (header : HeaderData) (entries : List Entry) → 0 < length entries → some_bytes group_bytes (some_group header entries) ≡ header_bytes header ++ entries_bytes entries
unfolding group_bytes
group_is header [] some = absurd (omega (arith, some))
group_is header (entry ∷ entries) some = refl
