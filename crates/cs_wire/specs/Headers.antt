-- What is seen of a header in a file; this project's own.
use Rattle.cs_wire.specs.declared.header.HeaderRef.{HeaderRef}
use Rattle.cs_wire_entries.specs.Changeset.{HeaderData}

-- the header that is shown
abbrev pub header_of : HeaderRef → HeaderData
header_of h = record { name = h.name.now; flags = h.flags.now }
