-- `joining::tables::write_new_table`: what it ensures.
use Rattle.std.proofs.Common.{refl, sym, ap, ◌∙◌, append-nil}
use Rattle.std.specs.Prelude.{◌++◌}
use Rattle.cs_wire.specs.Headers.{header_of}
use Rattle.cs_files.proofs.JoiningLemmas.{unlisted, there, listed_there, new_table, known_table}
use Rattle.cs_files.proofs.joining.tables.write_new_table.Goals as goal

pub returns-in-None : goal.returns-in-None
returns-in-None c = λ entries groups others listed is left.
    let none = unlisted c.args.known.now groups listed is c.args.header.now.name.now (c.in-None.ensures.absent.0 refl) in
    rw (new_table groups (record { header = header_of c.args.header.now; entries = entries }) none) (c.write_table.ensures entries others left)

pub returns-in-Some : goal.returns-in-Some
returns-in-Some c = λ entries groups others listed is left.
    let name = c.args.header.now.name.now in
    let found = listed_there c.args.known.now groups listed is name c.in-Some.field-0 c.in-Some.ensures.found in
    sym (append-nil c.args.out.now.items)
    ∙ ap (λ l. c.args.out.now.items ++ l) (sym (known_table groups (record { header = header_of c.args.header.now; entries = entries }) (there c.args.known.now groups listed is name c.in-Some.field-0 c.in-Some.ensures.found) found))
