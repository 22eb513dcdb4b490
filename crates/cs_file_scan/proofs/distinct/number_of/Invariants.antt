use Rattle.std.proofs.Common.{◌≡◌, get_or, take}
use Rattle.std.specs.List.{fold}
use Rattle.cs_wire.specs.Seen.{word_of}
use Rattle.cs_file_scan.specs.Distinct.{with_more}
use Rattle.cs_file_scan.proofs.distinct.number_of.Given as goal

abbrev pub invariant-bytes : goal.invariant-bytes
invariant-bytes l = l.number ≡ fold with_more (with_more (get_or l.fn.text 0 0) (word_of l.fn.text)) (take l.byte-index l.byte-items)
