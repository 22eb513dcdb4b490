-- `checked::pass_rest`: the loop.
use Rattle.std.proofs.Common.{◌++◌, ◌∷◌, [], ℕ, List, ap, sym, ◌∙◌, append_assoc, append-nil, arith}
use Rattle.cs_file_scan.proofs.PassLemmas.{VisitsEntries-none, VisitsEntries-next, entry_moves}
use Rattle.cs_file_scan.proofs.checked.pass_rest.Goals as goal

pub entries-init : goal.entries-init
entries-init g c = ([], sym (append-nil c.args.keys.now.items), VisitsEntries-none (g.V.Visit.entry_text c.args.flags.now) (g.V.Visit.written c.args.visitor.now) c.args.file.now c.args.at c.args.flags.now c.requires.within)

pub entries-smaller : goal.entries-smaller
entries-smaller g c =
    let v = g.V.Visit in
    let here = c.has_entry.ensures.0 c.entries-test.true in
    omega (arith, here.within, entry_moves (v.entry_text c.args.flags.now) (v.written c.entries.visitor) (v.written c.pass_entry.new.visitor) c.args.file.now c.entries.place c.args.flags.now c.in-Some.number c.in-Some.end (rw c.in-Some.is at c.in_ok-number.ensures) here.within)

pub entries-preserved : goal.entries-preserved
entries-preserved g c =
    let v = g.V.Visit in
    let so = c.entries.invariant in
    let number = c.in-Some.number in (
      so.0 ++ number ∷ [],
      c.in_ok-push.ensures.items ∙ ap (λ (ns : List ℕ). ns ++ number ∷ []) so.1 ∙ append_assoc c.args.keys.now.items so.0 (number ∷ []),
      VisitsEntries-next (v.entry_text c.args.flags.now) (v.written c.args.visitor.now) (v.written c.entries.visitor) (v.written c.pass_entry.new.visitor) c.args.file.now c.args.at c.args.flags.now so.0 c.entries.place number c.in-Some.end so.2
          (rw c.in-Some.is at c.in_ok-number.ensures),
    )
