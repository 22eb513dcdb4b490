-- `joining::tables::write_both`: what it ensures.
use Rattle.std.proofs.Common.{◌≡◌, length, take, ap, ◌∙◌, arith}
use Rattle.cs_wire.specs.Headers.{header_of}
use Rattle.cs_group.specs.Joining.{joined_entries}
use Rattle.cs_files.proofs.JoiningLemmas.{joined_none, joined_some}
use Rattle.cs_files.proofs.joining.tables.write_both.Goals as goal

pub returns-then-len-entries_start : goal.returns-then-len-entries_start
returns-then-len-entries_start c = λ entries others groups behind left right apart.
    let grown = c.write_joined.new.out.items in
    let start : c.len-start.result ≡ length c.args.out.now.items = omega (arith, c.len-start.ensures) in
    c.truncate.ensures.items ∙ ap (λ n. take n grown) start
    ∙ joined_none (header_of c.args.header.now) c.args.out.now.items c.write_to.new.out.items grown (joined_entries c.args.firsts.flags entries others) c.in_ok-write_to.ensures.ok
    (c.in_ok-write_joined.ensures entries others groups behind left right apart) (omega (arith, c.if-len-entries_start.true, c.len.ensures, c.len-entries_start.ensures))

pub returns-else-len-entries_start : goal.returns-else-len-entries_start
returns-else-len-entries_start c = λ entries others groups behind left right apart.
    joined_some (header_of c.args.header.now) c.args.out.now.items c.write_to.new.out.items c.write_joined.new.out.items (joined_entries c.args.firsts.flags entries others) c.in_ok-write_to.ensures.ok
    (c.in_ok-write_joined.ensures entries others groups behind left right apart) (λ same. c.if-len-entries_start.false (omega (arith, same, c.len.ensures, c.len-entries_start.ensures)))
