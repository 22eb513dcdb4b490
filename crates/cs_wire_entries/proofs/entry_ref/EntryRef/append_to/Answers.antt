-- `entry_ref::EntryRef::append_to`: the clause `ok`.
use Rattle.std.proofs.Common.{ℕ, List, ◌++◌, length, ap, sym, ◌∙◌, append_assoc}
use Rattle.std.proofs.lemmas.Result.{on_ok_weaker}
use Rattle.cs_value.specs.Spelling.{record_bytes}
use Rattle.cs_wire_entries.specs.Entry.{entry_bytes, operation}
use Rattle.cs_wire_entries.specs.Items.{FlaggedEntry, shown_record}
use Rattle.cs_wire_entries.specs.Records.{fields_at}
use Rattle.cs_wire_entries.proofs.ShownLemmas.{entry_bytes-row, entry_bytes-update}
use Rattle.cs_wire_entries.proofs.entry_ref.EntryRef.append_to.Goals as goal

pub returns-in-Insert-clause-ok : goal.returns-in-Insert-clause-ok
returns-in-Insert-clause-ok c =
    let i = c.self.inside in
    let byte = c.op.ensures ∙ sym (ap (λ (seen : FlaggedEntry). operation seen.entry.change) c.self.view_is) in
    let first = fields_at (length i.flags.now) i.first in
    let spelled = entry_bytes-row i.flags.now i.operation i.exchanged i.indirect first (fields_at (length i.flags.now) i.second) c.in-Insert.is c.self.invariant.fields c.op.result byte in
    on_ok_weaker c.write_own.result (λ e. e ∙ ap (λ (x : List ℕ). x ++ record_bytes first) c.in_ok-write_operation.ensures.ok ∙ append_assoc c.args.out.now.items _ (record_bytes first)
    ∙ ap (λ (x : List ℕ). c.args.out.now.items ++ x) (spelled ∙ ap (λ (seen : FlaggedEntry). entry_bytes seen.entry) c.self.view_is)) c.write_own.ensures.ok

pub returns-in_ok-write_record-in-Update-clause-ok : goal.returns-in_ok-write_record-in-Update-clause-ok
returns-in_ok-write_record-in-Update-clause-ok c =
    let i = c.self.inside in
    let byte = c.op.ensures ∙ sym (ap (λ (seen : FlaggedEntry). operation seen.entry.change) c.self.view_is) in
    let first = fields_at (length i.flags.now) i.first in
    let second = fields_at (length i.flags.now) i.second in
    let old = record_bytes (shown_record i.exchanged i.flags.now first second) in
    let new = record_bytes (shown_record i.exchanged i.flags.now second first) in
    let spelled = entry_bytes-update i.flags.now i.operation i.exchanged i.indirect first second c.op.result c.in-Update.is byte in
    on_ok_weaker c.write_record-in-Update.result (λ e. e ∙ ap (λ (x : List ℕ). x ++ new) (c.in_ok-write_record-in-Update.ensures.ok ∙ ap (λ (x : List ℕ). x ++ old) c.in_ok-write_operation.ensures.ok)
    ∙ append_assoc (c.args.out.now.items ++ _) old new ∙ append_assoc c.args.out.now.items _ (old ++ new)
    ∙ ap (λ (x : List ℕ). c.args.out.now.items ++ x) (spelled ∙ ap (λ (seen : FlaggedEntry). entry_bytes seen.entry) c.self.view_is)) c.write_record-in-Update.ensures.ok
