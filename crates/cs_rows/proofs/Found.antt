-- What look-ups of maps find, as contracts see it.
use Rattle.std.proofs.Common.{◌≡◌, Some, None, Option, IfSome, Bor, sym}
use Rattle.std.specs.Option.{option_map, option_copied}

-- a value is seen as it is
pub seen : {X : Type 0} {found answer : Option X} → option_map (λ v. v) found ≡ answer → found ≡ answer
seen {found = None} e = e
seen {found = Some x} e = e

-- what holds of each value that a look-up may find holds of what it found
pub if_found : {X : Type 0} (found : Option (Bor X)) (answer : Option X) (P : X → Type 0) → option_copied found ≡ answer → ((x : X) → answer ≡ Some x → P x) → IfSome found (λ x. P x.now)
if_found None answer P e each = tt
if_found (Some x) answer P e each = each x.now (sym e)
