-- What is appended as a file is visited.
use Rattle.std.proofs.Common.{◌≡◌, ◌≢◌, ℕ, ◌<◌, ◌≤◌, List, [], ◌∷◌, ◌++◌, length, AllPairs, sym, ap, ◌∙◌, append_assoc, append-nil}
use Rattle.std.specs.List.{flat_map}
use Rattle.std.proofs.lemmas.List.Concat.{flat_map-append}
use Rattle.cs_wire_entries.specs.declared.entry.Entry.{Entry}
use Rattle.cs_wire.specs.Changeset.{HeaderData, GroupData, IsHeader, header_bytes}
use Rattle.cs_wire.specs.ReadFaults.{Stands}
use Rattle.cs_file_scan.specs.Checked.{VisitsEntries, VisitsTable, VisitsGroups, group_of}
use Rattle.cs_file_scan.specs.Distinct.{number_of}
use Rattle.cs_file_scan.specs.Named.{NamedTable}
use Rattle.cs_file_scan.specs.Visits.{IsVisited, group_text}
use Rattle.cs_file_scan.proofs.CheckedLemmas.{HasTable-read, HasGroups-none, HasGroups-push, IsFileOf-read}

-- the text of one more thing is appended
pub more_written : {X : Type 0} (text : X → List ℕ) (out written grown : List ℕ) (before : List X) (x : X) → written ≡ out ++ flat_map text before → grown ≡ written ++ text x → grown ≡ out ++ flat_map text (before ++ x ∷ [])
more_written text out written grown before x so grown_is =
    let pushed = flat_map-append text before (x ∷ []) ∙ ap (λ (l : List ℕ). flat_map text before ++ l) (append-nil (text x)) in
    grown_is ∙ ap (λ (l : List ℕ). l ++ text x) so ∙ append_assoc out (flat_map text before) (text x) ∙ ap (λ (l : List ℕ). out ++ l) (sym pushed)

module _ (header_text : HeaderData → List ℕ) (entry_text : List ℕ → Entry → List ℕ) (old : List ℕ) (file : List ℕ) where
  -- the header and the entries of a table were
  pub VisitsTable-read : (opened new : List ℕ) (at end : ℕ) (table : NamedTable) (keys : List ℕ) → IsHeader table.header → Stands file at (header_bytes table.header) table.start → opened ≡ old ++ header_text table.header
      → VisitsEntries (entry_text table.header.flags) opened new file table.start table.header.flags keys end → 0 < length keys → AllPairs (λ m n. m ≢ n) keys → VisitsTable (group_text header_text entry_text) old new file at table end
  VisitsTable-read opened new at end table keys is stands opened_is so some apart =
      let entries = flat_map (entry_text table.header.flags) so.has.entries in record {
        has = HasTable-read file at end table keys is stands so.has some apart;
        written = so.written ∙ ap (λ (l : List ℕ). l ++ entries) opened_is ∙ append_assoc old (header_text table.header) entries;
      }

module _ (text : GroupData → List ℕ) (old : List ℕ) (file : List ℕ) where
  -- no table was visited
  pub VisitsGroups-none : VisitsGroups text old old file [] 0
  VisitsGroups-none = record { has = HasGroups-none file; written = sym (append-nil old) }

  -- one more was
  pub VisitsGroups-push : (written new names grown : List ℕ) (place end : ℕ) → VisitsGroups text old written file names place → (table : NamedTable) → VisitsTable text written new file place table end
      → (name : List ℕ) (number : ℕ) → name ≡ table.header.name → number ≡ number_of name → grown ≡ names ++ number ∷ [] → VisitsGroups text old new file grown end
  VisitsGroups-push written new names grown place end so table next name number name_is number_is grown_is = record {
    has = HasGroups-push file names grown place end so.has table next.has name number name_is number_is grown_is;
    written = more_written text old written new so.has.groups (group_of table next.has.entries) so.written next.written;
  }

  -- at the end of the file the whole was
  pub IsVisited-read : (new names : List ℕ) (place : ℕ) → VisitsGroups text old new file names place → length file ≤ place → AllPairs (λ m n. m ≢ n) names → IsVisited text file old new
  IsVisited-read new names place so le apart = record { groups = so.has.groups; is_file = IsFileOf-read file names place so.has le apart; written = so.written }
