-- `chains::NumberChains::push`: the invariant of `self`.
use Rattle.std.proofs.Common.{◌≡◌, ◌+◌, ◌<◌, ◌%◌, ℕ, ◌++◌, ◌∷◌, [], length, map, get_or, sym, refl, ap, ◌∙◌, arith}
use Rattle.std.proofs.lemmas.List.{get_or_default, length-append, length-map, map-append}
use Rattle.cs_file_scan.specs.declared.chains.Link.{Link}
use Rattle.cs_file_scan.proofs.ChainLemmas.{AreChained-push}
use Rattle.cs_file_scan.proofs.chains.NumberChains.push.Goals as goal

pub invariant_of-self-2 : goal.invariant_of-self-2
invariant_of-self-2 c =
    let ends = c.self.inside.ends.items in
    let links = c.self.inside.links.items in
    let bucket = c.bucket-at.result in
    let before = c.index-before.result.now in
    let link : Link = record { number = c.args.number; before = before } in
    let number_of = λ (l : Link). l.number in
    let before_of = λ (l : Link). l.before in
    let items = c.in_ok-push.ensures.items in
    let len : c.len.result ≡ length ends = omega (arith, c.len.ensures, c.self.inside.ends.ok) in
    let lt : bucket < length ends = omega (arith, c.bucket-at.ensures.within, len) in
    let numbers : map number_of c.push.new.self.items ≡ map number_of links ++ c.args.number ∷ [] = ap (map number_of) items ∙ map-append number_of links (link ∷ []) in
    let before_is : before ≡ get_or ends bucket 0 = c.index-before.ensures ∙ sym (get_or_default ends bucket 0 before lt) in
    let befores : map before_of c.push.new.self.items ≡ map before_of links ++ get_or ends bucket 0 ∷ [] =
    ap (map before_of) items ∙ map-append before_of links (link ∷ []) ∙ ap (λ (b : ℕ). map before_of links ++ b ∷ []) before_is in
    let as_many : length (map before_of links) ≡ length (map number_of links) = omega (arith, length-map links before_of, length-map links number_of) in
    let is : bucket ≡ c.args.number % length ends = c.bucket-at.ensures.value ∙ ap (λ (n : ℕ). c.args.number % n) len in
    let at : c.len-2.result ≡ length (map number_of links) + 1 = omega (arith, c.len-2.ensures, c.push.new.self.ok, ap length items, length-append links (link ∷ []), length-map links number_of) in
    rw (numbers, befores) (AreChained-push (length ends) c.args.number (map number_of links) ends (map before_of links) refl c.self.invariant as_many bucket c.len-2.result is lt at)
