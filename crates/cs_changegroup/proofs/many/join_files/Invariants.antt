-- Some of the files are joined, and the others are left.
use Rattle.cs_changegroup.proofs.FoldLemmas.{IsFolded}
use Rattle.cs_changegroup.proofs.many.join_files.Given as goal

abbrev pub invariant-loop-index : goal.invariant-loop-index
invariant-loop-index l = IsFolded l.files l.lengths l.index l.base l.tables l.rest
