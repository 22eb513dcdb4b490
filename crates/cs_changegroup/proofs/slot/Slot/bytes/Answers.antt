-- `slot::Slot::bytes`: bytes that are in the files.
use Rattle.std.proofs.Common.{ap, length, length-append, drop, arith}
use Rattle.std.proofs.lemmas.List.{length-drop}
use Rattle.cs_wire.specs.ReadFaults.{Stands}
use Rattle.cs_changegroup.proofs.slot.Slot.bytes.Goals as goal

pub returns-in-Within : goal.returns-in-Within
returns-in-Within c = λ text at some.
    let files = c.args.files.now in
    let stands : Stands files c.in-Within.start text c.in-Within.end = rw c.in-Within.is at at in
    c.part.ensures text stands (omega (arith, some, ap length stands.spelled, length-append text (drop c.in-Within.end files), length-drop c.in-Within.start files))
