-- The entries of a table of a file, added one by one.
use Rattle.std.proofs.Common.{◌≡◌, ◌≢◌, ℕ, ◌+◌, ◌≤◌, Bool, true, false, cond, List, [], ◌∷◌, ◌++◌, length, length-append, get_or, drop, All, AllPairs, Option, Some, None, refl, sym, ap, subst, ◌∙◌, append_assoc, arith}
use Rattle.std.specs.Prelude.{IfSome}
use Rattle.std.specs.List.{AllZip, cons_option}
use Rattle.std.proofs.lemmas.List.{drop-append-le, drop-drop, get_or_append_left, get_or_at}
use Rattle.std.proofs.lemmas.List.Elements.{All-cons, All-nil, All-push}
use Rattle.cs_wire_entries.specs.declared.entry.Entry.{Entry}
use Rattle.cs_wire.specs.Changeset.{GroupData, HeaderData, entries_bytes, file_bytes}
use Rattle.cs_wire.specs.Entry.{IsEntry, entry_bytes, key_of}
use Rattle.cs_wire.specs.Items.{FlaggedEntry}
use Rattle.cs_wire.specs.ReadFaults.{Stands}
use Rattle.cs_file_scan.specs.Tables.{EntriesLeft, IsNextEntry, TablesData}
use Rattle.cs_file_scan.proofs.TablesLemmas.{PassedEntries, PassedEntries-all, PassedEntries-next}
use Rattle.cs_group.specs.declared.merging.Merged.{Merged}
use Rattle.cs_group.specs.declared.merging.Merged.TheVariants.{Becomes, Keep, Vanish}
use Rattle.cs_group.specs.Joining.{FitsKey, IfBecomes, entry_key, joined_entries, joined_entry, left_of, merged, outcome, with_text}
use Rattle.cs_group.proofs.MergeLemmas.{merged_fits}
use Rattle.cs_group.proofs.TextLemmas.{with_text-found}
use Rattle.cs_changegroup.specs.declared.slot.Slot.{Slot}
use Rattle.cs_changegroup.specs.Slots.{AddsEntries, AreSlots, IsPartOf, IsSlotOf, KeptEntry, TableView, live_entries}
use Rattle.cs_changegroup.proofs.OneByOneLemmas.{Others, joined-more, joined-none}
use Rattle.cs_changegroup.proofs.SlotLemmas.{joined_alone}

-- ---- where the bytes of an entry are

module _ (files : List ℕ) (base : ℕ) (file : List ℕ) (part : IsPartOf files base file) where
  behind_is : (at : ℕ) → at ≤ length file → drop (base + at) files ≡ drop at file ++ part.behind
  behind_is at le = sym (drop-drop at base files) ∙ ap (drop at) part.spelled ∙ drop-append-le at file part.behind le

  pub stands_in_files : (start end : ℕ) (text : List ℕ) → start ≤ length file → Stands file start text end → Stands files (base + start) text (base + end)
  stands_in_files start end text le stands = record {
    spelled = behind_is start le ∙ ap (λ (l : List ℕ). l ++ part.behind) stands.spelled ∙ append_assoc text (drop end file) part.behind ∙ ap (λ (l : List ℕ). text ++ l) (sym (behind_is end stands.within));
    within = omega (arith, part.within, stands.within);
  }

-- an entry that was read is between two offsets
pub next_stands : (now : TablesData) (entries : List Entry) (groups : List GroupData) (seen : FlaggedEntry) (after : TablesData) → EntriesLeft now entries groups → IsNextEntry now.flags entries groups seen after → after.file ≡ now.file
    → Stands now.file now.place (entry_bytes seen.entry) after.place
next_stands now entries groups seen after left next same = record {
  spelled = left.spelled ∙ ap (λ (es : List Entry). entries_bytes es ++ file_bytes groups) next.is ∙ append_assoc (entry_bytes seen.entry) (entries_bytes next.others) (file_bytes groups)
      ∙ ap (λ (l : List ℕ). entry_bytes seen.entry ++ l) (sym next.are_left.spelled ∙ ap (drop after.place) same);
  within = rw same at next.are_left.within;
}

-- ---- what is kept in a join

keeps_key : (flags : List ℕ) (entry : Entry) (m : Merged) → IfBecomes m (FitsKey flags (key_of flags entry.change)) → IfSome (left_of entry m) (λ z. entry_key flags z ≡ entry_key flags entry)
keeps_key flags entry Keep fits = refl
keeps_key flags entry (Becomes other) fits = fits.same
keeps_key flags entry Vanish fits = tt

keeps_found : (flags : List ℕ) (entry : Entry) → IsEntry flags entry → (found : Option Entry) → IfSome found (λ e. IsEntry flags e × (entry_key flags e ≡ entry_key flags entry)) → IfSome (joined_entry flags entry found) (λ z. entry_key flags z ≡ entry_key flags entry)
keeps_found flags entry fits None is = refl
keeps_found flags entry fits (Some second) is = keeps_key flags entry (merged flags entry second) (merged_fits flags entry second fits is.0 (sym is.1))

live_fit : (files flags : List ℕ) (slots : List Slot) (kept : List KeptEntry) → AllZip (IsSlotOf files flags) slots kept → All (IsEntry flags) (live_entries kept)
live_fit files flags [] [] all = All-nil (IsEntry flags)
live_fit files flags [] (k ∷ kept) all = absurd all
live_fit files flags (s ∷ slots) [] all = absurd all
live_fit files flags (s ∷ slots) (k ∷ kept) all = by k.live (live_fit files flags slots kept all.1)
  where
    by : (b : Bool) → All (IsEntry flags) (live_entries kept) → All (IsEntry flags) (cons_option (cond b (Some k.entry) None) (live_entries kept))
    by true rest = All-cons (IsEntry flags) k.entry (live_entries kept) all.0.fits rest
    by false rest = rest

pairs_before : {X : Type 0} (R : X → X → Type 0) (xs : List X) (y : X) (ys : List X) → AllPairs R (xs ++ y ∷ ys) → All (λ x. R x y) xs
pairs_before R xs y ys pairs = λ k d lt.
    let so = pairs k (length xs) d lt (omega (arith, length-append xs (y ∷ ys))) in
    rw (get_or_append_left xs (y ∷ ys) d k lt, get_or_at xs y ys d (length xs) refl) at so

-- of these entries some were added
pub record AddsSome (files : List ℕ) (old now : TableView) (left : TablesData) (entries : List Entry) (groups : List GroupData) : Type 0 where
  pub before : List Entry
  pub passed : PassedEntries before left entries groups
  pub fit : All (IsEntry old.header.flags) before
  pub adds : AddsEntries files old now before

pub AddsSome-none : (files : List ℕ) (old : TableView) (left : TablesData) (entries : List Entry) (groups : List GroupData) → EntriesLeft left entries groups → AddsSome files old old left entries groups
AddsSome-none files old left entries groups are_left = record {
  before = [];
  passed = record { others = entries; whole = refl; are_left = are_left };
  fit = All-nil (IsEntry old.header.flags);
  adds = λ kept are. (kept, are, sym (joined-none (entry_key old.header.flags) (joined_entry old.header.flags) (joined_alone old.header.flags) (live_entries kept)));
}

module _ (files : List ℕ) (old now : TableView) (left : TablesData) (entries : List Entry) (groups : List GroupData) (so : AddsSome files old now left entries groups) where
  pub AddsSome-next : (grown : TableView) (next : TablesData) (seen : FlaggedEntry) → IsNextEntry left.flags so.passed.others groups seen next → now.header ≡ old.header → IsEntry old.header.flags seen.entry
      → AllPairs (λ d e. key_of old.header.flags d.change ≢ key_of old.header.flags e.change) entries → AddsEntries files now grown (seen.entry ∷ []) → AddsSome files old grown next entries groups
  AddsSome-next grown next seen is header fits apart adds = record {
    before = so.before ++ seen.entry ∷ [];
    passed = PassedEntries-next so.before (so.before ++ seen.entry ∷ []) left next entries groups so.passed seen is refl;
    fit = All-push (IsEntry flags) so.before seen.entry so.fit fits;
    adds = λ kept are.
        let first = so.adds kept are in
        let second = adds first.0 first.1 in (
          second.0,
          second.1,
          second.2 ∙ ap (λ (h : HeaderData). joined_entries h.flags (live_entries first.0) (seen.entry ∷ [])) header ∙ ap (λ (es : List Entry). joined_entries flags es (seen.entry ∷ [])) first.2
              ∙ sym (joined-more (entry_key flags) (joined_entry flags) (joined_alone flags) (live_entries kept) so.before seen.entry (keeps kept are) others),
        );
  }
    where
      flags : List ℕ
      flags = old.header.flags

      keeps : (kept : List KeptEntry) → AreSlots files old kept → All (λ x. IfSome (outcome (entry_key old.header.flags) (joined_entry old.header.flags) so.before x) (λ z. entry_key old.header.flags z ≡ entry_key old.header.flags x)) (live_entries kept)
      keeps kept are = λ k d lt.
          let x = get_or (live_entries kept) k d in
          keeps_found old.header.flags x (live_fit files old.header.flags old.slots kept are.slots k d lt) (with_text (entry_key old.header.flags) so.before (entry_key old.header.flags x))
          (with_text-found (entry_key old.header.flags) (IsEntry old.header.flags) so.before (entry_key old.header.flags x) so.fit)

      others : Others (entry_key old.header.flags) (entry_key old.header.flags seen.entry) so.before
      others =
          pairs_before (λ d e. key_of old.header.flags d.change ≢ key_of old.header.flags e.change) so.before seen.entry is.others
          (subst (AllPairs (λ d e. key_of old.header.flags d.change ≢ key_of old.header.flags e.change)) (so.passed.whole ∙ ap (λ (es : List Entry). so.before ++ es) is.is) apart)

  pub AddsSome-all : so.passed.others ≡ [] → AddsEntries files old now entries
  AddsSome-all none = subst (AddsEntries files old now) (sym (PassedEntries-all so.before left entries groups so.passed none)) so.adds
