-- What is told of each fault. Assumes nothing.
use Rattle.std.specs.Prelude.{ℕ, List, ◌++◌, Some, None, codes, decimal, Option}
use Rattle.wire.specs.declared.faults.Fault.{Fault}
use Rattle.wire.specs.declared.faults.Fault.TheVariants.{Malformed, OutOfRange, TooManyCertificates, UnknownCertificate, LastDay, TooManyLines, LineCut, LineOutOfRange, LineUnknown, NotValid, NotGiven, IssuerNotShown, StepNotShown, HouseNotShown, NoSheet}
use Rattle.wire.specs.declared.faults.Told.{Told}

abbrev pub whole : ℕ → Told
whole number = record { number = number; line = None; step = None }

abbrev pub at_line : ℕ → ℕ → Told
at_line number line = record { number = number; line = Some line; step = None }

-- each case's number, with its line and its step where it has them
abbrev pub told_of : Fault → Told
told_of Malformed = whole 1
told_of OutOfRange = whole 2
told_of TooManyCertificates = whole 3
told_of UnknownCertificate = whole 4
told_of LastDay = whole 5
told_of TooManyLines = whole 6
told_of (LineCut line) = at_line 1 line
told_of (LineOutOfRange line) = at_line 2 line
told_of (LineUnknown line) = at_line 4 line
told_of (NotValid line) = at_line 7 line
told_of (NotGiven line) = at_line 8 line
told_of (IssuerNotShown line) = at_line 9 line
told_of (StepNotShown line step) = record { number = 10; line = Some line; step = Some step }
told_of HouseNotShown = whole 11
told_of NoSheet = whole 12

-- the text that is printed: these numbers in decimal, with spaces between them
abbrev pub spaced : Option ℕ → List ℕ
spaced None = codes ""
spaced (Some n) = codes " " ++ decimal n

abbrev pub text_of : Fault → List ℕ
text_of f = decimal (told_of f).number ++ (spaced (told_of f).line ++ spaced (told_of f).step)
