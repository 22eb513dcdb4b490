-- `check::read_declaration_in`: the clause `refused`.
use Rattle.std.proofs.Common.{inl, refl, sym, ap, subst, ◌∙◌, true≢false}
use Rattle.cs_store_encoding.specs.Declaration.{IsFormer}
use Rattle.cs_store_encoding.specs.Versions.{bytes_of}
use Rattle.cs_store_encoding.proofs.DeclarationLemmas.{declarations_apart}
use Rattle.cs_store_encoding.proofs.check.read_declaration_in.Goals as goal

pub returns-in-Former-clause-refused : goal.returns-in-Former-clause-refused
returns-in-Former-clause-refused c = inl (
  refl,
  λ d.
      let found = c.in_ok-schema.ensures.found in
      let same = declarations_apart d.0 c.in_ok-schema.schema d.1 found.0 (sym d.2 ∙ found.1) in
      true≢false (sym (c.if-not-is_former.ensures.1 (subst IsFormer same (d.3 (ap bytes_of c.in-Former.is))))),
)
