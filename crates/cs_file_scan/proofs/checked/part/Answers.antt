-- `checked::part`: what it ensures.
use Rattle.std.proofs.Common.{⊎_elim, arith}
use Rattle.cs_file_scan.proofs.KeyedLemmas.{part_after}
use Rattle.cs_file_scan.proofs.checked.part.Goals as goal

pub returns-else-start-end : goal.returns-else-start-end
returns-else-start-end c = λ bytes stands within.
    absurd (⊎_elim (λ beyond. omega (arith, beyond.1, stands.within)) (λ lt. omega (arith, lt, part_after c.args.file.now bytes c.args.start c.args.end stands within)) c.else-start-end.either)
