-- `blob::read_blob`: what it ensures.
use Rattle.std.proofs.Common.{sym, subst, IfOk}
use Rattle.cs_shell_tokens.specs.Reading.{Next, Gives}
use Rattle.cs_shell_tokens.proofs.PartLemmas.{blob_cut}
use Rattle.cs_shell_tokens.proofs.blob.read_blob.Goals as goal

pub returns : goal.returns
returns c =
    subst (λ (next : Next). IfOk c.decode_blob.result (Gives next))
    (sym (blob_cut c.args.line.now c.split_at_quote.result.0.now c.split_at_quote.result.1.now c.in-len1-up.len_at_least c.split_at_quote.ensures.joined c.split_at_quote.ensures.digits c.split_at_quote.ensures.ended))
    c.decode_blob.ensures
