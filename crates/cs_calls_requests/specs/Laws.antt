-- What holds of the bytes of all calls.
use Rattle.std.specs.Prelude.{◌≡◌, Ok}
use Rattle.cs_calls_requests.specs.declared.call.Call.{Call}
use Rattle.cs_calls_requests.specs.Spelling.{IsCall, call_bytes}
use Rattle.cs_calls_requests.specs.Reading.{call_in}

-- the bytes of a call are read as it, so no two calls have the same bytes
abbrev pub CallBytes : Type 0
CallBytes = (c : Call) → IsCall c → call_in (call_bytes c) ≡ Ok c
