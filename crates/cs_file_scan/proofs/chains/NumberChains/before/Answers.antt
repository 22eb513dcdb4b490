-- `chains::NumberChains::before`: what it ensures.
use Rattle.std.proofs.Common.{◌≡◌, ◌<◌, length, map, get_or, sym, ap, ◌∙◌, arith}
use Rattle.std.proofs.lemmas.List.{get_or-map, length-map}
use Rattle.cs_file_scan.specs.declared.chains.Link.{Link}
use Rattle.cs_file_scan.proofs.chains.NumberChains.before.Goals as goal

pub returns : goal.returns
returns c =
    let links = c.self.inside.links.items in
    let within = rw (← c.self.view_is) at c.requires in
    let lt : c.args.index < length links = omega (arith, within, length-map links (λ (l : Link). l.number)) in
    let is : get_or (map (λ (l : Link). l.before) links) c.args.index 0 ≡ c.index.result.now.before = get_or-map (λ (l : Link). l.before) links c.args.index c.index.result.now 0 lt ∙ ap (λ (l : Link). l.before) (sym c.index.ensures) in
    rw (← c.self.view_is, ← is) (c.self.invariant.each_before c.args.index within)
