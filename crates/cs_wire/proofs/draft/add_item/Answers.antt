-- `draft::add_item`: what it ensures of an entry.
use Rattle.std.proofs.Common.{ap, ◌∙◌, ◌∷◌, [], ◌++◌, List, arith}
use Rattle.cs_wire_entries.specs.declared.entry.Entry.{Entry}
use Rattle.cs_wire_entries.specs.Changeset.{GroupData}
use Rattle.cs_wire.proofs.CursorLemmas.{set_last}
use Rattle.cs_wire.proofs.draft.add_item.Goals as goal

pub returns-in_ok-push-in-Some : goal.returns-in_ok-push-in-Some
returns-in_ok-push-in-Some c =
    let i = c.draft.inside in
    let seen = c.in-Entry.seen.entry in
    let with_entries : List Entry → GroupData = λ es. record { header = i.header; entries = es } in
    let with_seen : GroupData → GroupData = λ g. record { header = g.header; entries = g.entries ++ seen ∷ [] } in
    rw c.in-Entry.is (set_last c.args.drafts.now.items _ c.in-Some.draft.now _ seen (omega arith) (rw c.in-Entry.is at c.requires.next).0 c.in-Some.ensures.value
    (ap with_entries (c.in_ok-push-in-Some.ensures.items ∙ ap (λ (e : Entry). i.entries.items ++ e ∷ []) c.in_ok-entry-in-Entry.ensures.same) ∙ ap with_seen c.draft.view_is))
