-- `inverting::Inverting::visit_entry`: what it ensures.
use Rattle.std.proofs.Common.{◌++◌, ap, ◌∙◌}
use Rattle.std.proofs.lemmas.Result.{on_ok_weaker}
use Rattle.cs_wire_entries.specs.declared.entry.Entry.{Entry}
use Rattle.cs_wire.specs.Entry.{entry_bytes}
use Rattle.cs_group.proofs.InverseGroups.{inverse_is}
use Rattle.cs_files.proofs.inverting.InvertingVisit.visit_entry.Goals as goal

pub returns : goal.returns
returns c =
    let seen = c.args.seen.now in
    on_ok_weaker c.write_inverse_to.result (λ is. is.written ∙ ap (λ (e : Entry). c.args.self.now.out.items ++ entry_bytes e) (inverse_is seen.flags seen.entry is.inverse c.requires.entry is.is_entry is.undoes)) c.write_inverse_to.ensures.ok
