-- `varint::read_number`: the invariant of the loop at `used`, the clause `exact`.
use Rattle.std.proofs.Common.{sym, arith}
use Rattle.std.proofs.lemmas.Grind.{pow_more}
use Rattle.cs_value.proofs.VarintLemmas.{number_at-first}
use Rattle.cs_value.proofs.VarintLoops.{ends_with, ends_large, ends_long, ends_cut, goes_on}
use Rattle.cs_value.proofs.varint.read_number.Goals as goal

pub returns-in-128-clause-exact : goal.returns-in-128-clause-exact
returns-in-128-clause-exact c = sym (number_at-first c.args.bytes.now (omega arith))

pub returns-then-number-clause-exact : goal.returns-then-number-clause-exact
returns-then-number-clause-exact c =
    let i = c.loop-used.invariant in
    sym (ends_large c.args.bytes.now c.loop-used.used c.loop-used.number (record { reads = i.reads; first = i.first }) (omega arith) (omega arith) (omega arith))

pub returns-then-byte-lt128-clause-exact : goal.returns-then-byte-lt128-clause-exact
returns-then-byte-lt128-clause-exact c =
    let i = c.loop-used.invariant in
    rw c.from.ensures (sym (ends_with c.args.bytes.now c.loop-used.used c.loop-used.number (record { reads = i.reads; first = i.first }) (omega arith) (omega arith) (omega arith)))

pub returns-then-used-eq4-clause-exact : goal.returns-then-used-eq4-clause-exact
returns-then-used-eq4-clause-exact c =
    let i = c.loop-used.invariant in
    sym (ends_long c.args.bytes.now c.loop-used.used c.loop-used.number (record { reads = i.reads; first = i.first }) (omega arith) (omega arith) (omega arith))

pub loop-used-preserved : goal.loop-used-preserved
loop-used-preserved c =
    let i = c.loop-used.invariant in
    record {
      reads = rw c.from.ensures (goes_on c.args.bytes.now c.loop-used.used c.loop-used.number (record { reads = i.reads; first = i.first }) (omega arith) (omega arith) (omega arith));
      first = i.first;
      small = omega (arith, pow_more 128 c.loop-used.used);
      few = omega arith;
    }

pub returns-clause-exact : goal.returns-clause-exact
returns-clause-exact c =
    let i = c.loop-used.invariant in
    sym (ends_cut c.args.bytes.now c.loop-used.used c.loop-used.number (record { reads = i.reads; first = i.first }) (omega arith))
