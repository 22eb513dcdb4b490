-- `changegroup::Changegroup::take_tables`: the clause `taken`.
use Rattle.std.proofs.Common.{◌≡◌, [], Some, ap, sym, ◌∙◌, subst}
use Rattle.cs_changegroup.specs.Chaining.{files_in}
use Rattle.cs_changegroup.specs.Folding.{ChangegroupView, FoldsTo}
use Rattle.cs_changegroup.specs.Slots.{HasGroups}
use Rattle.cs_changegroup.proofs.GrowthLemmas.{folds_only}
use Rattle.cs_changegroup.proofs.changegroup.Changegroup.take_tables.Goals as goal
use Rattle.cs_changegroup.proofs.changegroup.Changegroup.take_tables.Goals.{in-Some, in-None+in-Ok, in-None+in-Err}

pub returns-clause-taken : goal.returns-clause-taken
returns-clause-taken c = λ groups holds.
    let self = c.args.self.now in
    elim c.match-take.branch [
      | in-Some w ↦
          let tables_are : self.tables ≡ Some w.in-Some.tables = ap (λ (v : ChangegroupView). v.tables) (sym c.self.view_is) ∙ sym c.take.ensures.value ∙ w.in-Some.is in
          rw w.result-is (rw tables_are at holds.tables)
      | in-None+in-Ok w ↦
          let files : w.deref.result.now ≡ self.files = w.deref.ensures.value ∙ ap (λ (v : ChangegroupView). v.files) c.self.view_is in
          let lengths : w.deref-in-None.result.now ≡ self.lengths = w.deref-in-None.ensures.value ∙ ap (λ (v : ChangegroupView). v.lengths) c.self.view_is in
          let to : FoldsTo self.files self.lengths w.in-Ok.tables = rw (files, lengths) at w.in-Ok.ensures.joined in
          let same : groups ≡ to.groups = folds_only c.changeset_files_law.ensures [] (files_in self.files self.lengths) groups to.groups holds.folds to.folds in
          rw w.result-is (subst (HasGroups self.files w.in-Ok.tables) (sym same) to.has)
      | in-None+in-Err w ↦ rw w.result-is tt
    ]
