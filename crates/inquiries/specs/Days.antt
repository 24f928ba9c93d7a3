-- On which days a house may, and what that is worth after any deliveries. Assumes nothing.
use Rattle.certificates.specs.Access.{on_day}
use Rattle.std.specs.Prelude.{◌≡◌, ℕ, false, ◌⊎◌, List, Ok, Err, is_some, vec_items, Vec, Option, Result}
use Rattle.certificates.specs.Meaning.{May}
use Rattle.certificates.specs.declared.Certificate.{Certificate}
use Rattle.finding.specs.Asking.{MemoryFilled, Untouched}
use Rattle.finding.specs.Growing.{MayTo}
use Rattle.finding.specs.declared.sheets_found.Unfound.{Unfound}
use Rattle.finding.specs.declared.sheets_found.Unfound.TheVariants.{NoSheet, TooShort, Malformed, OutOfRange, NoMemory, WrongSize}
use Rattle.inquiries.specs.Spans.{SpansOf, so_far, gone_on}
use Rattle.inquiries.specs.declared.spans.Span.{Span}
use Rattle.inquiries.specs.declared.spans.SpansSoFar.{SpansSoFar}
use Rattle.promise.specs.Happened.{happened, standing}
use Rattle.promise.specs.Promise.{Bytes}
use Rattle.promise.specs.Requests.{asked, question_of, run}
use Rattle.promise.specs.States.{State}
use Rattle.promise.specs.declared.heads.Head.{Head}
use Rattle.finding_lines.specs.Lines.{right_size}
use Rattle.sheets.specs.Passing.{askable}
use Rattle.sheets.specs.declared.checking.Question.{Question}
use Rattle.std.specs.List.{AllByRecursion}
use Rattle.std.specs.declared.alloc.Global.{Global}

-- the same question on another day
abbrev pub asked_on : ℕ → Question → Question
asked_on day q = record { access = on_day day q.access; house = q.house }

-- the house may on a day, by the certificates
abbrev pub MayOn : List Certificate → Question → ℕ → Type 0
MayOn cs q day = May cs (on_day day q.access) q.house

-- lent memory is as it was, or as finding on some day leaves it
pub data Left (cs : List Certificate) (q : Question) (names numbers : List ℕ) : List ℕ → List ℕ → Type 0 where
  as_it_was : {names' numbers' : List ℕ} → names' ≡ names → numbers' ≡ numbers → Left cs q names numbers names' numbers'
  by_finding : {names' numbers' : List ℕ} (day : ℕ) (names₀ numbers₀ : List ℕ) → MemoryFilled cs (asked_on day q) names₀ numbers₀ names' numbers' → Left cs q names numbers names' numbers'

-- what asking on a day comes to: it is known to which day the house may, if it does, and the spans go on; or why not
abbrev pub AskedOn : List Certificate → Question → ℕ → List ℕ → List ℕ → List ℕ → List ℕ → SpansSoFar → SpansSoFar → Result (Option ℕ) Unfound → Type 0
AskedOn cs q day names numbers names' numbers' spans spans' (Ok may_to) =
    MayTo cs (asked_on day q) may_to × (so_far spans' ≡ gone_on (vec_items spans.done) spans.since day (is_some may_to)) × MemoryFilled cs (asked_on day q) names numbers names' numbers'
AskedOn cs q day names numbers names' numbers' spans spans' (Err NoMemory) = MemoryFilled cs (asked_on day q) names numbers names' numbers' ⊎ Untouched cs (asked_on day q) names numbers names' numbers'
AskedOn cs q day names numbers names' numbers' spans spans' (Err OutOfRange) = (askable q ≡ false) × Untouched cs (asked_on day q) names numbers names' numbers'
AskedOn cs q day names numbers names' numbers' spans spans' (Err WrongSize) = (right_size names numbers ≡ false) × Untouched cs (asked_on day q) names numbers names' numbers'
AskedOn cs q day names numbers names' numbers' spans spans' (Err NoSheet) = ⊥
AskedOn cs q day names numbers names' numbers' spans spans' (Err (TooShort needed)) = ⊥
AskedOn cs q day names numbers names' numbers' spans spans' (Err Malformed) = ⊥

-- the spans of the days on which the house may, or why there is no answer
abbrev pub SpansTold : List Certificate → Question → List ℕ → List ℕ → Result (Vec Span Global) Unfound → Type 0
SpansTold cs q names numbers (Ok spans) = SpansOf (MayOn cs q) (vec_items spans)
SpansTold cs q names numbers (Err NoMemory) = Unit {0}
SpansTold cs q names numbers (Err OutOfRange) = askable q ≡ false
SpansTold cs q names numbers (Err WrongSize) = right_size names numbers ≡ false
SpansTold cs q names numbers (Err NoSheet) = ⊥
SpansTold cs q names numbers (Err (TooShort needed)) = ⊥
SpansTold cs q names numbers (Err Malformed) = ⊥

-- a request without lines is told the days of its house; any other is refused
abbrev pub DaysTold : State → List ℕ → List ℕ → Result (Vec Span Global) Unfound → Result Head Unfound → Type 0
DaysTold g names numbers r (Err e) = r ≡ Err e
DaysTold g names numbers r (Ok h) = SpansTold g.certificates (question_of g.day g.owner h) names numbers r

-- what that leaves in lent memory
abbrev pub DaysLeft : State → List ℕ → List ℕ → List ℕ → List ℕ → Result Head Unfound → Type 0
DaysLeft g names numbers names' numbers' (Err e) = (names' ≡ names) × (numbers' ≡ numbers)
DaysLeft g names numbers names' numbers' (Ok h) = Left g.certificates (question_of g.day g.owner h) names numbers names' numbers'

-- after the deliveries: the house may, by the certificates that came and were not taken back, exactly on the days that lie in the spans
abbrev pub DaysAfter : ℕ → List (List ℕ) → Head → Result (Vec Span Global) Unfound → Type 0
DaysAfter owner ds h (Ok spans) = SpansOf (λ day. May (standing (happened ds)) (on_day day (asked owner h)) h.house) (vec_items spans)
DaysAfter owner ds h (Err e) = Unit {0}

-- Whatever the deliveries were by which the gate came about, and however many days passed in them.
abbrev pub DaysKept : State → Result Head Unfound → Result (Vec Span Global) Unfound → Type 0
DaysKept g (Err e) r = Unit {0}
DaysKept g (Ok h) r = (ds : List (List ℕ)) → AllByRecursion Bytes ds → g ≡ run g.owner ds → DaysAfter g.owner ds h r
