-- `selecting::is_among`: some part of the buffer is the name.
use Rattle.std.proofs.Common.{rules, tests, nat_eq}
use Rattle.std.specs.Cmp.Lexicographic.{pointwise}
use Rattle.std.proofs.lemmas.Iterator.Search.{any_from_yields_List}
use Rattle.std.proofs.lemmas.Iterator.Splits.{YieldsList-from_slice_split}
use Rattle.cs_files.specs.Selecting.{is_among}
use Rattle.cs_files.proofs.selecting.is_among.Goals as goal

pub returns : goal.returns
unfolding is_among
returns c =
    any_from_yields_List (λ n. pointwise nat_eq n c.args.name.now) _ _ _ c.any.ensures.ran
    (YieldsList-from_slice_split _ _ c.args.names.now c.split.ensures.rest c.split.ensures.done c.split.ensures.closure (λ x r q k. search (rules, tests)))
    (λ x b q k. search (rules, tests))
