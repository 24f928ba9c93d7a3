-- A line that was read, judged by tests of what is shown. Assumes nothing.
use Rattle.std.specs.Prelude.{ℕ, Bool, cond, Ok, Err, Result}
use Rattle.certificates.specs.Certificates.{valid, grants}
use Rattle.certificates.specs.declared.Statement.{Statement}
use Rattle.certificates.specs.declared.access.Access.{Access}
use Rattle.certificates.specs.declared.Statement.TheVariants.{Name, Rights}
use Rattle.sheets.specs.Checking.{known_houses}
use Rattle.sheets.specs.Reading.{houses_of, walked_by}
use Rattle.sheets.specs.declared.line.Line.{Line}
use Rattle.wire.specs.declared.faults.Fault.{Fault}
use Rattle.wire.specs.declared.faults.Fault.TheVariants.{LineOutOfRange, NotValid, NotGiven, IssuerNotShown, StepNotShown}

-- a name may always be stated; a right only by whoever is shown to be able to pass it on
abbrev pub permits : Access → Bool → ℕ → Statement → Result (Unit {0}) Fault
permits access shown line (Name who name) = Ok tt
permits access shown line (Rights who set delegable) = cond (grants access (Rights who set delegable)) (cond shown (Ok tt) (Err (IssuerNotShown line))) (Err (NotGiven line))

abbrev pub step_fault : ℕ → Result ℕ ℕ → Result ℕ Fault
step_fault line (Ok last) = Ok last
step_fault line (Err step) = Err (StepNotShown line step)

abbrev pub afterwards : Result (Unit {0}) Fault → Result ℕ Fault → Result ℕ Fault
afterwards (Ok u) next = next
afterwards (Err fault) next = Err fault

-- the last house reached, or the lowest number of the line's faults
abbrev pub judged_by : (ℕ → ℕ → ℕ → Bool) → Bool → ℕ → Access → Line → Result ℕ Fault
judged_by test shown line access l =
    cond (known_houses (houses_of l))
    (cond (valid access.day l.certificate.now)
    (afterwards (permits access shown line l.certificate.now.statement) (step_fault line (walked_by test l)))
    (Err (NotValid line)))
    (Err (LineOutOfRange line))
