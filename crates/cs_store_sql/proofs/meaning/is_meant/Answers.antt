-- `meaning::is_meant`: a query is the one of its shape.
use Rattle.std.proofs.Common.{◌↔◌, IsTrue, IfOk, sym, subst}
use Rattle.cs_store_sql.specs.Meaning.{IsMeant}
use Rattle.cs_store_sql.proofs.meaning.is_meant.Goals as goal

pub returns-in-Select : goal.returns-in-Select
returns-in-Select c = subst (λ meant. IfOk c.is_select.result (λ yes. IsTrue yes ↔ IsMeant c.args.command.now c.args.index c.args.tree meant)) (sym c.in-Select.is) c.is_select.ensures
