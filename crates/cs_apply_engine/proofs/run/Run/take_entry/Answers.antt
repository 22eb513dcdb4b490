-- `run::Run::take_entry`: the clauses `behind` and `schemas`.
use Rattle.std.specs.Fn.{FnReturnsAt}
use Rattle.std.specs.Rc.{rc_str_bytes}
use Rattle.cs_apply_engine.specs.Steps.{placed_in_table}
use Rattle.std.proofs.Common.{refl, rules}
use Rattle.cs_apply_engine.proofs.BehindLemmas.{behind_passed, behind_taken, comes_schemas}
use Rattle.cs_apply_engine.proofs.run.Run.take_entry.Goals as goal

pub returns-then-not-takes_entries-clause-behind : goal.returns-then-not-takes_entries-clause-behind
returns-then-not-takes_entries-clause-behind g c = λ honest before closed header entries flags new is.
    behind_passed before closed header entries c.args.entry.entry (FnReturnsAt g.H.Fn c.args.handler.now) c.args.self.now _ is (search rules)

pub returns-clause-behind : goal.returns-clause-behind
returns-clause-behind g c = λ honest before closed header entries flags new is.
    behind_taken before closed header entries c.args.entry.entry (FnReturnsAt g.H.Fn c.args.handler.now) c.args.self.now _ is _ _ c.args.entry (search rules) new flags refl refl refl refl refl refl refl c.in_ok-self.ensures.skipped (c.in_ok-self.ensures.comes_to honest)

pub returns-clause-schemas : goal.returns-clause-schemas
returns-clause-schemas g c = λ honest name. comes_schemas (FnReturnsAt g.H.Fn c.args.handler.now) c.args.self.now.noop (placed_in_table (rc_str_bytes c.args.self.now.table) c.args.entry) (g.B.Rows.state c.args.rows.now) c.args.self.now.tally (g.B.Rows.state c.apply_entry.new.rows) c.apply_entry.new.tally c.in_ok-self.field-0 (c.in_ok-self.ensures.comes_to honest) name
