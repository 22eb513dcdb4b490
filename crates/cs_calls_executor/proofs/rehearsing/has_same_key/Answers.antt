-- `rehearsing::has_same_key`: the tables are the same.
use Rattle.std.proofs.lemmas.Bool.Decides.{Decides-eqb}
use Rattle.std.proofs.lemmas.Slice.Eq.{slice_eq-Decides}
use Rattle.cs_calls_executor.proofs.SameLemmas.{rows_told}
use Rattle.cs_calls_executor.proofs.rehearsing.has_same_key.Goals as goal

pub returns-then-eq : goal.returns-then-eq
returns-then-eq c =
    let one = c.args.one.now in
    let other = c.args.other.now in
    let tables = slice_eq-Decides Decides-eqb one.table other.table c.eq.result c.eq.ensures in
    let keys = rows_told one.key other.key c.eq-then-eq.result c.eq-then-eq.ensures in
    (λ t. (tables.0 c.if-eq.true, keys.0 t), λ s. keys.1 s.1)
