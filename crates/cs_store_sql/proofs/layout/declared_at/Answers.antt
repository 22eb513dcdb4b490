-- `layout::declared_at`: why the table is not used.
use Rattle.std.proofs.Common.{◌≡◌, ◌∙◌, rules, inr, sym, true≢false}
use Rattle.cs_store_sql.specs.Records.{records_table}
use Rattle.cs_store_sql.proofs.layout.declared_at.Goals as goal

pub returns-then-not-is_apart : goal.returns-then-not-is_apart
returns-then-not-is_apart c =
    let it = c.args.table.now in
    let is : it ≡ records_table it.tree = search rules in
    inr (c.args.index, it, c.requires.named, c.requires.there, is, c.is_apart.ensures.barred c.args.index (search rules))

pub returns-else-branch : goal.returns-else-branch
returns-else-branch c =
    let it = c.args.table.now in
    let is : it ≡ records_table it.tree = search rules in
    inr (c.args.index, it, c.requires.named, c.requires.there, is, inr (inr (inr (λ are. true≢false (sym (c.in_ok-are_statements.ensures.1 are) ∙ c.if-branch.false)))))
