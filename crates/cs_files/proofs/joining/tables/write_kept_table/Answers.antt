-- `joining::tables::write_kept_table`: what it ensures.
use Rattle.cs_wire.specs.Headers.{header_of}
use Rattle.cs_group.specs.Joining.{table_name, with_text}
use Rattle.cs_files.proofs.JoiningLemmas.{joined_alone, partner_is, partner_apart}
use Rattle.cs_files.proofs.joining.tables.write_kept_table.Goals as goal

pub returns-in-None : goal.returns-in-None
returns-in-None c = λ entries groups others left listed is asked.
    let name = c.args.header.now.name.now in
    rw (joined_alone (record { header = header_of c.args.header.now; entries = entries }) (with_text table_name others name) (c.in-None.ensures.found others listed is asked))
    (c.write_table.ensures entries groups left)

pub returns-in-Some : goal.returns-in-Some
returns-in-Some c = λ entries groups others left listed is asked.
    let name = c.args.header.now.name.now in
    let seconds = c.in-Some.seconds in
    let partner = partner_is seconds (with_text table_name others name) (c.in-Some.ensures.found others listed is asked) in
    rw partner.is (rw c.requires.opened at (c.write_both.ensures entries partner.other.entries groups partner.behind left partner.are_left (partner_apart seconds others name partner is)))
