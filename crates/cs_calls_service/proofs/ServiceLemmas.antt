-- How the transaction of a host begins and ends, and calls of its session.
use Rattle.std.proofs.Common.{◌≡◌, ◌⊎◌, inl, inr, refl, sym, ap, ◌∙◌, [], map, Bool, true, false, Option, None, Some, is_some, option_map, if◌then◌else◌, IsTrue, Ok, Err, subst}
use Rattle.sqlite.specs.State as sqlite
use Rattle.sqlite.specs.State.{HasCleanDisk}
use Rattle.cs_rows.specs.declared.fault.StoreError.TheVariants.{NoMemory}
use Rattle.cs_store.specs.Laws.{content_itself, keeps_itself}
use Rattle.cs_session_notes.specs.FirstImages.{Notes}
use Rattle.cs_calls_answers.specs.declared.answer.Refused.{Refused}
use Rattle.cs_calls_answers.specs.Refusals.{out_of_memory}
use Rattle.cs_calls_service.specs.Service.{IsUnbegun, with_notes}

-- memory runs out for the answer of *begin*, or for what it is to note
pub unbegun_memory : (why : Refused) (old : sqlite.State) → why ≡ out_of_memory → IsUnbegun why old old
unbegun_memory why old is = record {
  error = NoMemory;
  is = is;
  of = inl refl;
  caused = λ clean. tt;
  kept = record { crash = keeps_itself.crash; content = λ clean. content_itself };
}

-- the session after a call, if it is open
pub if_open_is : (session : Option Notes) (is_open : Bool) (notes : Notes) → is_open ≡ is_some session → (if is_open then Some notes else None) ≡ with_notes session notes
if_open_is None is_open notes is = rw is refl
if_open_is (Some before) is_open notes is = rw is refl
