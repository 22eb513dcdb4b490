-- A run through a file, as it is or inverted.
use Rattle.std.proofs.Common.{◌≡◌, ◌≢◌, ℕ, ◌<◌, List, [], ◌∷◌, ◌++◌, length, length-append, map, take, drop, ◌+◌, get_or, Option, Some, None, refl, sym, ap, subst, ◌∙◌, arith}
use Rattle.std.specs.Prelude.{IfOk, IfErr, Result}
use Rattle.std.specs.List.{AllByRecursion}
use Rattle.std.proofs.lemmas.List.{map-append, take-append-drop}
use Rattle.std.proofs.lemmas.List.Elements.{recursion_from_All}
use Rattle.std.proofs.Math.Seq.{get_or-append_seam, take-append_seam}
use Rattle.cs_value.specs.State.{State}
use Rattle.cs_value.proofs.ListLemmas.{AllByRecursion-append_left, AllByRecursion-at, AllByRecursion-map, AllPairs-before, map_more_at, take_more_at}
use Rattle.cs_wire_entries.specs.declared.entry.Entry.{Entry}
use Rattle.cs_wire.specs.Entry.{IsEntry, key_of}
use Rattle.cs_wire.specs.Changeset.{HeaderData, GroupData, IsChangeset, IsFileOf, IsGroup}
use Rattle.cs_wire.specs.Views.{inverse_entry}
use Rattle.cs_wire_entries.proofs.InverseLemmas.{key_of-inverse}
use Rattle.cs_rows.specs.declared.fault.Cause.{Cause}
use Rattle.cs_group.specs.Inverse.{inverse_group}
use Rattle.cs_group.proofs.InverseGroups.{groups_inverse, IsChangeset-inverse}
use Rattle.cs_apply_engine.specs.declared.halt.Halt.{Halt}
use Rattle.cs_apply_engine.specs.declared.halt.Halt.TheVariants.{Aborted, Misused}
use Rattle.cs_apply_engine.specs.declared.fault.ApplyFault.{ApplyFault}
use Rattle.cs_apply_engine.specs.declared.tally.Tally.{Tally}
use Rattle.cs_apply_engine.specs.declared.run.Run.{Run}
use Rattle.cs_apply_engine.specs.declared.running.Direction.{Direction}
use Rattle.cs_apply_engine.specs.declared.running.Direction.TheVariants.{Forward, Inverse}
use Rattle.cs_apply_engine.specs.Running.{AppliesTallied, Handler, IsCaused, IsNamed, IsReadAs, Refuses, directed}
use Rattle.cs_apply_engine.specs.Run.{IsBehind, IsNewEntry, answer_of, directed_entry, directed_group, group_of, outcome_of}
use Rattle.cs_apply_engine.proofs.StepLemmas.{each_both}
use Rattle.cs_apply_engine.proofs.BehindLemmas.{none_wider, some_wider}
use Rattle.cs_apply_engine.proofs.OutcomeLemmas.{applies_from, refuses_from}

-- ---- groups as they are run

abbrev pub directed_entries : Direction → List ℕ → List Entry → List Entry
directed_entries Forward flags entries = entries
directed_entries Inverse flags entries = map (inverse_entry flags) entries

pub directed_none : (d : Direction) → directed d [] ≡ []
directed_none Forward = refl
directed_none Inverse = refl

pub directed_last : (d : Direction) (closed : List GroupData) (h : HeaderData) (es : List Entry) → directed d (closed ++ group_of h es ∷ []) ≡ directed d closed ++ group_of h (directed_entries d h.flags es) ∷ []
directed_last Forward closed h es = refl
directed_last Inverse closed h es = map-append inverse_group closed (group_of h es ∷ [])

no_entries : (d : Direction) (flags : List ℕ) → directed_entries d flags [] ≡ []
no_entries Forward flags = refl
no_entries Inverse flags = refl

pub directed_more : (d : Direction) (flags : List ℕ) (es : List Entry) (e : Entry) → directed_entries d flags (es ++ e ∷ []) ≡ directed_entries d flags es ++ directed_entry d flags e ∷ []
directed_more Forward flags es e = refl
directed_more Inverse flags es e = map-append (inverse_entry flags) es (e ∷ [])

-- ---- an entry of another row than those before it

pub new_keys : (d : Direction) (h : HeaderData) (es : List Entry) (e : Entry) → AllByRecursion (IsEntry h.flags) es → IsEntry h.flags e → AllByRecursion (λ x. key_of h.flags x.change ≢ key_of h.flags e.change) es
    → AllByRecursion (λ x. key_of h.flags x.change ≢ key_of h.flags (directed_entry d h.flags e).change) (directed_entries d h.flags es)
new_keys Forward h es e each is keys = keys
new_keys Inverse h es e each is keys =
    AllByRecursion-map (λ x. key_of h.flags x.change ≢ key_of h.flags (inverse_entry h.flags e).change) (inverse_entry h.flags) es
    (each_both (IsEntry h.flags) (λ x. key_of h.flags x.change ≢ key_of h.flags e.change) (λ x. key_of h.flags (inverse_entry h.flags x).change ≢ key_of h.flags (inverse_entry h.flags e).change) es
    (λ x fits apart same. apart (sym (key_of-inverse h.flags x.change fits) ∙ same ∙ key_of-inverse h.flags e.change is)) each keys)

pub new_names : (d : Direction) (name : List ℕ) (gs : List GroupData) → AllByRecursion (λ g. g.header.name ≢ name) gs → AllByRecursion (λ g. g.header.name ≢ name) (directed d gs)
new_names Forward name gs names = names
new_names Inverse name gs names = AllByRecursion-map (λ g. g.header.name ≢ name) inverse_group gs names

-- ---- the whole

pub read_as : (d : Direction) (file : List ℕ) (gs : List GroupData) → IsFileOf file gs → IsReadAs file d (directed d gs)
read_as Forward file gs is = is
read_as Inverse file gs is = (gs, is.0, is.1, (groups_inverse gs (recursion_from_All IsGroup gs is.0.each)).1, IsChangeset-inverse gs is.0)

module _ (chooses : Handler) (d : Direction) (file : List ℕ) (gs : List GroupData) (s : State) (run : Run) (a : State) (read : IsReadAs file d gs) (is : IsBehind chooses s gs run a) where
  abbrev Outcome : Result Tally ApplyFault → Type 0
  Outcome result = IfOk result (λ tally. AppliesTallied chooses run.noop file d s tally a) × IfErr result (Refuses chooses run.noop file d s)

  by : (w : Option ℕ) (o : Option Halt) → run.wider ≡ w → run.ended ≡ o → Outcome (outcome_of w o run.tally)
  by (Some place) o wider ended = (tt, record { changeset = gs; read = read; first = some_wider s gs place (sym is.wider ∙ wider) })
  by None None none goes_on =
      let came = rw goes_on at (is.came_to none) in
      (applies_from chooses run.noop file d s is.start run.tally gs read (none_wider s gs (sym is.wider ∙ none)) is.empty s refl a came.0 came.1 came.2, tt)
  by None (Some ending) none ended =
      let came = rw ended at (is.came_to none) in
      (tt, refuses_from chooses run.noop file d s is.start run.tally gs read (none_wider s gs (sym is.wider ∙ none)) is.empty s refl ending came)

  pub run_outcome : (result : Result Tally ApplyFault) → result ≡ answer_of run → IfOk result (λ tally. AppliesTallied chooses run.noop file d s tally a) × IfErr result (Refuses chooses run.noop file d s)
  run_outcome result same = subst Outcome (sym same) (by run.wider run.ended refl refl)

-- and what it is refused with has a name
named_by : (w : Option ℕ) (o : Option Halt) (tally : Tally) → IfErr (outcome_of w o tally) IsNamed
named_by (Some place) o tally = tt
named_by None None tally = tt
named_by None (Some (Aborted conflict)) tally = tt
named_by None (Some (Misused conflict)) tally = tt

pub outcome_named : (run : Run) (result : Result Tally ApplyFault) → result ≡ answer_of run → IfErr result IsNamed
outcome_named run result same = rw same (named_by run.wider run.ended run.tally)

-- nor of the database
caused_by : (Fails : Cause → Type 0) (w : Option ℕ) (o : Option Halt) (tally : Tally) → IfErr (outcome_of w o tally) (IsCaused Fails)
caused_by Fails (Some place) o tally = tt
caused_by Fails None None tally = tt
caused_by Fails None (Some (Aborted conflict)) tally = tt
caused_by Fails None (Some (Misused conflict)) tally = tt

pub outcome_caused : (Fails : Cause → Type 0) (run : Run) (result : Result Tally ApplyFault) → result ≡ answer_of run → IfErr result (IsCaused Fails)
outcome_caused Fails run result same = rw same (caused_by Fails run.wider run.ended run.tally)

-- ---- a changeset, group by group

-- a group begins without entries, and in the end has all
pub group_begun : (d : Direction) (closed : List GroupData) (g : GroupData) → closed ++ group_of g.header (directed_entries d g.header.flags (take 0 g.entries)) ∷ [] ≡ closed ++ group_of g.header [] ∷ []
group_begun d closed g = ap (λ (es : List Entry). closed ++ group_of g.header es ∷ []) (no_entries d g.header.flags)

pub group_whole : (d : Direction) (g : GroupData) → group_of g.header (directed_entries d g.header.flags g.entries) ≡ directed_group d g
group_whole Forward g = refl
group_whole Inverse g = refl

pub groups_more : (d : Direction) (gs : List GroupData) (i : ℕ) (g : GroupData) → i < length gs → g ≡ get_or gs i g → directed d (take (i + 1) gs) ≡ directed d (take i gs) ++ directed_group d g ∷ []
groups_more Forward gs i g lt is = take_more_at gs i g lt is
groups_more Inverse gs i g lt is = map_more_at gs i g lt is inverse_group

pub group_names : (d : Direction) (gs : List GroupData) (i : ℕ) (g : GroupData) → IsChangeset gs → i < length gs → g ≡ get_or gs i g → AllByRecursion (λ k. k.header.name ≢ g.header.name) (directed d (take i gs))
group_names d gs i g are lt is = new_names d g.header.name (take i gs) (AllPairs-before (λ k l. k.header.name ≢ l.header.name) gs i g are.once lt is)

-- an entry of a group is new to those before it
pub entry_new : (d : Direction) (closed : List GroupData) (g : GroupData) (j : ℕ) (e : Entry) → IsGroup g → j < length g.entries → e ≡ get_or g.entries j e → AllByRecursion (λ k. k.header.name ≢ g.header.name) closed
    → IsNewEntry closed g.header (directed_entries d g.header.flags (take j g.entries)) (directed_entry d g.header.flags e)
entry_new d closed g j e is lt at names =
    let flags = g.header.flags in
    let each = recursion_from_All (IsEntry flags) g.entries is.each in
    let before = AllByRecursion-append_left (IsEntry flags) (take j g.entries) (drop j g.entries) (rw (take-append-drop j g.entries) each) in
    record {
      table = names;
      key = new_keys d g.header (take j g.entries) e before (AllByRecursion-at (IsEntry flags) g.entries j e lt at each) (AllPairs-before (λ x y. key_of flags x.change ≢ key_of flags y.change) g.entries j e is.once lt at);
    }

pub entries_more : (d : Direction) (flags : List ℕ) (es : List Entry) (j : ℕ) (e : Entry) → j < length es → e ≡ get_or es j e → directed_entries d flags (take (j + 1) es) ≡ directed_entries d flags (take j es) ++ directed_entry d flags e ∷ []
entries_more d flags es j e lt is = ap (directed_entries d flags) (take_more_at es j e lt is) ∙ directed_more d flags (take j es) e

-- ---- the same, where what was carried out and what is left are apart

pub table_new : (d : Direction) (closed others : List GroupData) (g : GroupData) → IsChangeset (closed ++ g ∷ others) → AllByRecursion (λ k. k.header.name ≢ g.header.name) (directed d closed)
table_new d closed others g are =
    new_names d g.header.name closed
    (subst (AllByRecursion (λ k. k.header.name ≢ g.header.name)) (take-append_seam closed (g ∷ others))
    (AllPairs-before (λ k l. k.header.name ≢ l.header.name) (closed ++ g ∷ others) (length closed) g are.once (omega (arith, length-append closed (g ∷ others))) (sym (get_or-append_seam closed g others g))))

pub directed_one : (d : Direction) (closed : List GroupData) (g : GroupData) → directed d (closed ++ g ∷ []) ≡ directed d closed ++ directed_group d g ∷ []
directed_one Forward closed g = refl
directed_one Inverse closed g = map-append inverse_group closed (g ∷ [])

pub entry_behind : (d : Direction) (closed : List GroupData) (h : HeaderData) (es others : List Entry) (e : Entry) → IsGroup (group_of h (es ++ e ∷ others)) → AllByRecursion (λ k. k.header.name ≢ h.name) closed
    → IsNewEntry closed h (directed_entries d h.flags es) (directed_entry d h.flags e)
entry_behind d closed h es others e is names =
    subst (λ (l : List Entry). IsNewEntry closed h (directed_entries d h.flags l) (directed_entry d h.flags e)) (take-append_seam es (e ∷ others))
    (entry_new d closed (group_of h (es ++ e ∷ others)) (length es) e is (omega (arith, length-append es (e ∷ others))) (sym (get_or-append_seam es e others e)) names)
