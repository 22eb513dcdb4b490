-- `indices::Indices::get`: what it ensures.
use Rattle.std.proofs.Common.{◌≡◌, ◌∙◌, ℕ, Option, Some, None}
use Rattle.std.specs.Option.{option_map, option_copied}
use Rattle.cs_value.proofs.ByteMaps.{got_seen}
use Rattle.cs_wire.proofs.indices.Indices.get.Goals as goal

-- an index is seen as it is
seen : {found answer : Option ℕ} → option_map (λ v. v) found ≡ answer → found ≡ answer
seen {found = None} e = e
seen {found = Some index} e = e

pub returns : goal.returns
returns c = c.copied.ensures ∙ seen (got_seen (λ k. k.items) (λ v. v) (option_copied c.get.result) c.self.inside.indices.entries c.args.text.now c.args.self.now c.get.ensures.value c.self.view_is)
