-- Files of a folder by their names.
use Rattle.std.proofs.Common.{◌≡◌, ℕ, List, [], Some, ap, ◌∙◌}
use Rattle.std.specs.Prelude.{unwrap_or}
use Rattle.std.specs.FinMap as map
use Rattle.std.specs.Cmp.Lexicographic.{nat_list_cmp_total}
use Rattle.std.proofs.lemmas.Bool.{cond-true}
use Rattle.cs_value.proofs.ByteMaps.{self_tied}
use Rattle.sqlite.specs.Effect.{Database, IsDatabase}
use Rattle.cs_store.specs.Records.{KeepsOthers}
use Rattle.cs_store.specs.Turns.{SparesOthers, by_nothing, by_each}
use Rattle.cs_store.proofs.TurnLemmas.{spares_then}
use Rattle.cs_folder.specs.Files.{Files}
use Rattle.cs_store_folder.specs.Visits.{bytes_in}

-- a file that was put has these bytes
pub put_bytes : (old new : Files) (name bytes : List ℕ) → Some new ≡ Some (map.insert old name bytes) → bytes_in new name ≡ bytes
put_bytes old new name bytes put =
    ap (λ o. bytes_in (unwrap_or o old) name) put
    ∙ ap (λ o. unwrap_or o []) (map.get-insert nat_list_cmp_total old name bytes name ∙ cond-true _ _ _ (self_tied name))

-- what is kept by an open, and then by a visit
pub opened_spares : (found opened left : Database) → IsDatabase found → KeepsOthers found opened → SparesOthers opened left → SparesOthers found left
opened_spares found opened left sound keeps spares = spares_then found opened left (by_each found opened by_nothing sound keeps) spares
