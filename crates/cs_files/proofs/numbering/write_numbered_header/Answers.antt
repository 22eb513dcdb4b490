-- `numbering::write_numbered_header`: what `write_to` asks for.
use Rattle.std.proofs.Common.{◌≡◌, rules}
use Rattle.cs_wire.specs.Headers.{header_of}
use Rattle.cs_group.specs.Numbering.{numbered_flags}
use Rattle.cs_group.proofs.NumberingLemmas.{IsHeader-numbered}
use Rattle.cs_files.proofs.numbering.write_numbered_header.Goals as goal

pub write_to-requires : goal.write_to-requires
write_to-requires c =
    let flags : c.deref.result.now ≡ numbered_flags c.args.header.flags.now = search rules in
    rw flags (IsHeader-numbered (header_of c.args.header) c.requires)
