-- `texts::piece::PiecePrint::print`: what it ensures.
use Rattle.std.proofs.Common.{◌∷◌, [], ap, map, sym}
use Rattle.cs_file_texts.specs.Texts.{separated, literal}
use Rattle.cs_file_texts.proofs.GatherLemmas.{Gathers-is}
use Rattle.cs_file_texts.proofs.texts.piece.PiecePrint.print.Goals as goal

pub returns-in-Listed : goal.returns-in-Listed
returns-in-Listed g c = rw c.in-Listed.is (Gathers-is _ (ap (λ l. separated (124 ∷ []) (map literal l)) (sym c.values.ensures.same)) c.add_separated-in-Listed.ensures)
