-- What is read can be taken, and leaves less to read. Assumes nothing.
use Rattle.std.proofs.Common.{ℕ, ◌<◌, List, length, IfOk, Some, Ok, Err, Result, refl, ap, arith, length-append}
use Rattle.wire.specs.Exact.{Exactly, Writable}
use Rattle.wire.specs.Format.{bytes_of_event}
use Rattle.wire.specs.declared.events.Event.{Event}
use Rattle.wire.specs.declared.events.Event.TheVariants.{Issued, Revoked, DayPassed}
use Rattle.wire.specs.declared.faults.Fault.{Fault}

some_bytes : (e : Event) → 0 < length (bytes_of_event e)
some_bytes (Issued c) = omega arith
some_bytes (Revoked n) = omega arith
some_bytes DayPassed = omega arith

pub shorter : (s : List ℕ) (read : Result Event Fault) (rest : List ℕ) → Exactly s (Some (read, rest)) → length rest < length s
shorter s (Ok e) rest exact =
    let is = ((exact.reads e rest).0 refl).1 in
    omega (arith, simp length-append at (ap length is), some_bytes e)
shorter s (Err fault) rest exact =
    let (f, fits, out, is) = ((exact.refuses fault rest).0 refl).1 in
    omega (arith, simp length-append at (ap length is))

pub read_writable : (s : List ℕ) (read : Result Event Fault) (rest : List ℕ) → Exactly s (Some (read, rest)) → IfOk read Writable
read_writable s (Ok e) rest exact = ((exact.reads e rest).0 refl).0
read_writable s (Err fault) rest exact = tt
