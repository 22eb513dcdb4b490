-- `first_images::FirstImages::cut_back`: what it ensures.
use Rattle.std.proofs.Common.{map, take, refl, sym, ap, ◌∙◌, arith}
use Rattle.std.proofs.lemmas.List.{drop_all, length-map, length-take, take-map, take-take}
use Rattle.cs_session_notes.specs.Images.{first_of}
use Rattle.cs_session_notes.proofs.first_images.FirstImages.cut_back.Goals as goal

pub returns : goal.returns
returns c =
    let n = c.self.inside.kept in
    let items = c.self.inside.firsts.entries in
    let kept = ap (take n) (sym (take-map first_of n items)) ∙ take-take n n (map first_of items) (omega arith) in
    let pending = drop_all n (map first_of (take n items)) (omega (arith, length-map (take n items) first_of, length-take n items)) in
    rw (c.truncate.ensures.entries, kept, pending) (rw (← c.self.view_is) refl)
