-- `table::Table::write_to`: what it ensures.
use Rattle.std.proofs.Common.{◌≡◌, ◌++◌, List, ℕ, sym, ap, ◌∙◌, append-nil, append_assoc}
use Rattle.std.proofs.lemmas.Bool.{iff_false}
use Rattle.cs_wire_entries.specs.declared.entry.Entry.{Entry}
use Rattle.cs_wire.specs.Changeset.{HeaderData, entries_bytes, group_bytes, header_bytes}
use Rattle.cs_group.specs.Joining.{some_group}
use Rattle.cs_files.specs.Writing.{some_bytes}
use Rattle.cs_changegroup.specs.Slots.{TableView, live_entries}
use Rattle.cs_changegroup.proofs.SlotLemmas.{group_is, none_lives, ok_then, some_lives_here}
use Rattle.cs_changegroup.proofs.table.Table.write_to.Goals as goal

pub returns-then-is_empty : goal.returns-then-is_empty
returns-then-is_empty c = λ kept are.
    let none = none_lives c.args.files.now c.args.self.now kept are (c.is_empty.ensures.0 c.if-is_empty.true) in
    sym (append-nil c.args.out.now.items) ∙ ap (λ (es : List Entry). c.args.out.now.items ++ some_bytes group_bytes (some_group c.args.self.now.header es)) (sym none)

pub returns : goal.returns
returns c = λ kept are.
    let out = c.args.out.now.items in
    let header : HeaderData = c.args.self.now.header in
    let some = some_lives_here c.args.files.now c.args.self.now kept are (iff_false c.is_empty.ensures c.if-is_empty.false) in
    let head : c.write_to.new.out.items ≡ out ++ header_bytes header =
    c.in_ok-write_to.ensures.ok
    ∙ ap (λ (n : List ℕ). out ++ header_bytes (record { name = n; flags = c.flags.result.now })) c.name.ensures
    ∙ ap (λ (fs : List ℕ). out ++ header_bytes (record { name = c.self.inside.header.name; flags = fs })) c.flags.ensures.same
    ∙ ap (λ (t : TableView). out ++ header_bytes t.header) c.self.view_is in
    ok_then c.write_entries.result (c.write_entries.ensures kept are)
    (λ written. written ∙ ap (λ (l : List ℕ). l ++ entries_bytes (live_entries kept)) head ∙ append_assoc out (header_bytes header) (entries_bytes (live_entries kept))
    ∙ ap (λ (l : List ℕ). out ++ l) (sym (group_is header (live_entries kept) some)))
