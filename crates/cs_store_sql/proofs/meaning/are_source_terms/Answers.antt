-- `meaning::are_source_terms`: the terms that are lent are these.
use Rattle.std.proofs.Common.{◌≡◌, ◌↔◌, ◌∙◌, IsTrue, ap, subst}
use Rattle.sqlite_sql.specs.Syntax.{terms_of}
use Rattle.cs_store_sql.specs.Statements.{source_terms}
use Rattle.cs_store_sql.proofs.meaning.are_source_terms.Goals as goal

pub returns : goal.returns
returns c = subst (λ terms. IsTrue c.are_expected.result ↔ (terms ≡ source_terms)) (ap (λ nodes. terms_of nodes c.in_ok-lent.lent.roots.now) c.as_slice.ensures.value ∙ c.in_ok-lent.ensures) c.are_expected.ensures
