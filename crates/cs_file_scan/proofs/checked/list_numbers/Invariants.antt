-- The numbers of so many entries are listed, whatever entries were passed.
use Rattle.cs_file_scan.proofs.PassLemmas.{Lists}
use Rattle.cs_file_scan.proofs.checked.list_numbers.Given as goal

abbrev pub invariant-loop : goal.invariant-loop
invariant-loop l = Lists l.file l.at l.flags l.count l.initial.keys.items l.keys.items l.counter l.place
