-- `texts::tables::add_table`: the clause `gathered`.
use Rattle.std.proofs.Common.{refl}
use Rattle.cs_file_texts.proofs.GatherLemmas.{Gathered-nil, Gathers-stopped, Gathers-then}
use Rattle.cs_file_texts.proofs.texts.tables.add_table.Goals as goal

pub returns-in_err-add_header-clause-gathered : goal.returns-in_err-add_header-clause-gathered
returns-in_err-add_header-clause-gathered g c = λ entries groups left.
    Gathers-stopped _ _ _ _ c.from_residual.ensures.0 refl (Gathered-nil _ _) c.in_err-add_header.ensures

pub returns-clause-gathered : goal.returns-clause-gathered
returns-clause-gathered g c = λ entries groups left.
    Gathers-then _ refl c.in_ok-add_header.ensures.gathered (c.add_entries.ensures.gathered entries groups left)
