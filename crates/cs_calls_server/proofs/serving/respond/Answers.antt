-- `serving::respond`: what it ensures where the call was not received.
use Rattle.cs_calls_server.specs.Serving.{lost, not_taken}
use Rattle.cs_calls_server.proofs.serving.respond.Goals as goal

pub returns-in-TooLong : goal.returns-in-TooLong
returns-in-TooLong g c = λ call is.
    let received = rw c.in-TooLong.is at is in
    record { given = not_taken received.0 received.1; fits = tt }

pub returns-in-NoMemory : goal.returns-in-NoMemory
returns-in-NoMemory g c = λ call is. record { given = lost (rw c.in-NoMemory.is at is); fits = tt }
