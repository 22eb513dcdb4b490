-- `changes::table_entries`: what `row_change` asks for, the invariant of the loop at `key`, the
-- clause `kept`.
use Rattle.std.proofs.Common.{◌≡◌, ℕ, List, [], ◌∷◌, ◌++◌, map, filter_map, Option, option_map, option_to_list, rules, refl, sym, ap, subst, append_assoc, ◌∙◌}
use Rattle.std.proofs.lemmas.List.{append-nil}
use Rattle.cs_value.specs.declared.value.OwnedValue.{OwnedValue}
use Rattle.cs_wire_entries.specs.declared.entry.Entry.{Entry}
use Rattle.cs_session_notes.specs.FirstImages.{entry_since}
use Rattle.cs_session_notes.specs.Images.{first_of}
use Rattle.cs_session_notes.specs.Views.{attached_of}
use Rattle.cs_session_notes.proofs.EntriesLemmas.{AreOfKeys, entry_of, key_more, no_keys, next_fits, next_apart, filter_map_then}
use Rattle.cs_session_notes.proofs.changes.table_entries.Goals as goal

abbrev Images : Type 0
Images = List (List ℕ × Option (List OwnedValue))

pub loop-key-init : goal.loop-key-init
loop-key-init g c =
    let same : c.into_iter-key-iterator.result ≡ c.iter-key-items.result = search rules in (
      search rules,
      ([], ap (map first_of) same ∙ c.iter-key-items.ensures, no_keys c.args.table.now.schema.flags _ c.new-entries.ensures.items, λ honest. (honest, refl, c.new-entries.ensures.items)),
    )

pub row_change-requires-clause-fits : goal.row_change-requires-clause-fits
row_change-requires-clause-fits g c =
    let so = c.loop-key.invariant.1 in
    let first = first_of (c.in-Some.key.now, c.in-Some.row.now) in
    let all = ap (λ (l : Images). so.0 ++ map first_of l) (sym c.in-Some.ensures.steps) ∙ so.1 in
    rw c.as_ref.ensures.value (next_fits (attached_of c.args.table.now) c.requires.table so.0 _ first all)

pub loop-key-preserved-in-Continue-branch-3 : goal.loop-key-preserved-in-Continue-branch-3
loop-key-preserved-in-Continue-branch-3 g c =
    let table = attached_of c.args.table.now in
    let so = c.loop-key.invariant.1 in
    let first = first_of (c.in-Some.key.now, c.in-Some.row.now) in
    let all = ap (λ (l : Images). so.0 ++ map first_of l) (sym c.in-Some.ensures.steps) ∙ so.1 in
    let before = c.loop-key.entries.items in
    let change = c.in_ok-change.field-0 in
    let grown : c.push.new.self.items ≡ before ++ option_to_list (option_map entry_of change) = rw c.in-Some-2.is c.in_ok-push.ensures.items in
    let apart = next_apart table c.requires.table so.0 _ first all in (
      g.B.Rows.keeps_then _ _ _ _ _ c.loop-key.invariant.0 c.in_ok-change.ensures.kept,
      (
        so.0 ++ first ∷ [],
        append_assoc so.0 (first ∷ []) (map first_of c.next.new.self) ∙ all,
        subst (AreOfKeys table.schema.flags (so.0 ++ first ∷ [])) (sym grown) (key_more table.schema.flags so.0 before so.2 first apart change c.in_ok-change.ensures.fits),
        λ honest.
            let was = so.3 (c.row_change.ensures.was_honest honest) in
            let made = rw (was.1, c.as_ref.ensures.value) at (c.in_ok-change.ensures.made honest) in
            let entries = entry_since (g.B.Rows.state c.args.rows.now) table in (
              was.0,
              c.in_ok-change.ensures.same honest ∙ was.1,
              grown ∙ ap (λ (l : List Entry). l ++ option_to_list (option_map entry_of change)) was.2
                  ∙ ap (λ (o : Option Entry). filter_map entries so.0 ++ option_to_list o) (ap (option_map entry_of) made) ∙ sym (filter_map_then entries so.0 first),
            ),
      ),
    )

pub loop-key-preserved : goal.loop-key-preserved
loop-key-preserved g c =
    let table = attached_of c.args.table.now in
    let so = c.loop-key.invariant.1 in
    let first = first_of (c.in-Some.key.now, c.in-Some.row.now) in
    let all = ap (λ (l : Images). so.0 ++ map first_of l) (sym c.in-Some.ensures.steps) ∙ so.1 in
    let before = c.loop-key.entries.items in
    let change = c.in_ok-change.field-0 in
    let grown : c.loop-key.entries.items ≡ before ++ option_to_list (option_map entry_of change) = rw c.in_default.is (sym (append-nil before)) in
    let apart = next_apart table c.requires.table so.0 _ first all in (
      g.B.Rows.keeps_then _ _ _ _ _ c.loop-key.invariant.0 c.in_ok-change.ensures.kept,
      (
        so.0 ++ first ∷ [],
        append_assoc so.0 (first ∷ []) (map first_of c.next.new.self) ∙ all,
        subst (AreOfKeys table.schema.flags (so.0 ++ first ∷ [])) (sym grown) (key_more table.schema.flags so.0 before so.2 first apart change c.in_ok-change.ensures.fits),
        λ honest.
            let was = so.3 (c.row_change.ensures.was_honest honest) in
            let made = rw (was.1, c.as_ref.ensures.value) at (c.in_ok-change.ensures.made honest) in
            let entries = entry_since (g.B.Rows.state c.args.rows.now) table in (
              was.0,
              c.in_ok-change.ensures.same honest ∙ was.1,
              grown ∙ ap (λ (l : List Entry). l ++ option_to_list (option_map entry_of change)) was.2
                  ∙ ap (λ (o : Option Entry). filter_map entries so.0 ++ option_to_list o) (ap (option_map entry_of) made) ∙ sym (filter_map_then entries so.0 first),
            ),
      ),
    )

pub returns-in_err-push-clause-kept : goal.returns-in_err-push-clause-kept
returns-in_err-push-clause-kept g c = g.B.Rows.keeps_refused _ _ _ _ (g.B.Rows.keeps_then _ _ _ _ _ c.loop-key.invariant.0 c.in_ok-change.ensures.kept)
