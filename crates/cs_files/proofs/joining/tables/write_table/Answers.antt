-- `joining::tables::write_table`: what it ensures.
use Rattle.std.proofs.lemmas.Result.{on_ok_weaker}
use Rattle.cs_wire.specs.Headers.{header_of}
use Rattle.cs_files.proofs.JoiningLemmas.{whole_table}
use Rattle.cs_files.proofs.joining.tables.write_table.Goals as goal

pub returns : goal.returns
returns c = λ entries groups left.
    on_ok_weaker c.write_entries.result (λ written. whole_table c.args.out.now.items c.write_to.new.out.items c.write_entries.new.out.items (header_of c.args.header.now) entries c.in_ok-write_to.ensures.ok written)
    (c.write_entries.ensures.written entries groups left)
