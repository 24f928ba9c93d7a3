-- What the answers of finding are worth: by the meaning of the certificates, and at a gate. Assumes nothing.
use Rattle.certificates.specs.Access.{on_day}
use Rattle.std.specs.Prelude.{◌≡◌, ℕ, ◌*◌, ◌^◌, ◌<◌, ◌≤◌, true, List, [], ◌∷◌, length, take, min, Some, None, Ok, Err, Option, Result, is_some, vec_items}
use Rattle.certificates.specs.Certificates.{WellFormed}
use Rattle.certificates.specs.Meaning.{May}
use Rattle.certificates.specs.declared.Certificate.{Certificate}
use Rattle.finding.specs.Asking.{sheet_for, kept_by, lines_of_kept, MemoryFilled, Unsought}
use Rattle.finding.specs.Wanted.{line_of_wanted}
use Rattle.finding.specs.declared.kept_lines.KeptLines.{KeptLines}
use Rattle.promise.specs.Requests.{take_head, receive}
use Rattle.finding.specs.declared.sheets_found.Unfound.{Unfound}
use Rattle.finding.specs.declared.sheets_found.Unfound.TheVariants.{NoSheet, TooShort, Malformed, OutOfRange, NoMemory, WrongSize}
use Rattle.finding.specs.declared.wanted.Wanted.{Wanted}
use Rattle.promise.specs.Promise.{Bytes, request_bytes}
use Rattle.promise.specs.declared.heads.Head.{Head}
use Rattle.promise.specs.States.{State}
use Rattle.promise.specs.declared.answers.Answer.TheVariants.{Open}
use Rattle.finding_lines.specs.declared.lines.Lines.{Lines}
use Rattle.sheets.specs.Passing.{askable}
use Rattle.sheets.specs.Sheets.{Line, certificate_at}
use Rattle.sheets.specs.declared.checking.Question.{Question}
use Rattle.std.specs.Bool.{Decides}
use Rattle.std.specs.List.{AllByRecursion}
use Rattle.finding_turns.specs.Found.{lines_found}
use Rattle.wire.specs.declared.faults.Fault.{Fault}
use Rattle.wire.specs.declared.faults.Fault.TheVariants as faults

-- the fault that an answer is told by; want of memory and the caller's own mistakes are none
abbrev pub fault_of : Unfound → Option Fault
fault_of NoSheet = Some faults.NoSheet
fault_of Malformed = Some faults.Malformed
fault_of OutOfRange = Some faults.OutOfRange
fault_of (TooShort needed) = None
fault_of NoMemory = None
fault_of WrongSize = None

-- the last day on which the certificates of all these lines are valid; without lines it is the last day that there is
unfoldable pub last_day : List Certificate → List Line → ℕ
last_day cs [] = 4294967295
last_day cs (l ∷ lines) = min (certificate_at cs l.certificate).last (last_day cs lines)

module _ (cs : List Certificate) (q : Question) where
  -- the house may
  abbrev pub Allowed : Type 0
  Allowed = May cs q.access q.house

  -- the owner's gate on that day with these certificates, if they were read from bytes
  abbrev pub gate_of : State
  gate_of = record { owner = q.access.owner; day = q.access.day; certificates = cs }

  -- a request with these lines opens that gate
  abbrev pub OpenedBy : List Line → Type 0
  OpenedBy lines = AllByRecursion WellFormed cs → (receive gate_of (request_bytes q.house q.access.right lines)).1 ≡ Open ∷ []

  -- the house may on the question's day, and on all days from there to the last on which the lines' certificates are valid
  abbrev pub LastsBy : List Line → Type 0
  LastsBy lines = (q.access.day < 2 ^ 32 → q.access.day ≤ last_day cs lines) × ((day : ℕ) → q.access.day ≤ day → day ≤ last_day cs lines → May cs (on_day day q.access) q.house)

  -- The lines on which what is wanted rests are the sheet's, open the gate, and hold as long as their certificates; where nothing is wanted there is no sheet.
  abbrev pub SheetBy : Lines → List ℕ → Option Wanted → Type 0
  SheetBy lines numbers None = sheet_for cs q ≡ None
  SheetBy lines numbers (Some w) =
      (sheet_for cs q ≡ Some (kept_by cs q.access.owner (lines_found cs (vec_items lines.found)) (line_of_wanted w) numbers (vec_items lines.right_lines)))
      × OpenedBy (kept_by cs q.access.owner (lines_found cs (vec_items lines.found)) (line_of_wanted w) numbers (vec_items lines.right_lines))
      × LastsBy (kept_by cs q.access.owner (lines_found cs (vec_items lines.found)) (line_of_wanted w) numbers (vec_items lines.right_lines))

  -- All lines were found, no more than there can be, and what is wanted, exactly where the house may; or there is a reason why not, and memory is as it was.
  abbrev pub WantedFound : List ℕ → List ℕ → List ℕ → List ℕ → Result (Lines × Option Wanted) Unfound → Type 0
  WantedFound names numbers names' numbers' (Ok p) =
      (askable q ≡ true) × MemoryFilled cs q names numbers names' numbers' × (length (vec_items p.0.found) ≤ length cs * 1024) × Decides (is_some p.1) Allowed × SheetBy p.0 numbers' p.1
  WantedFound names numbers names' numbers' (Err unfound) = Unsought cs q names numbers names' numbers' unfound

  -- the house may, and the kept lines open the gate and hold as long as their certificates; or there is no sheet and it may not
  abbrev pub KeptWorth : Result KeptLines Unfound → Type 0
  KeptWorth (Ok kept) = Allowed × OpenedBy (lines_of_kept cs kept) × LastsBy (lines_of_kept cs kept)
  KeptWorth (Err NoSheet) = Allowed → ⊥
  KeptWorth (Err (TooShort needed)) = Unit {0}
  KeptWorth (Err Malformed) = Unit {0}
  KeptWorth (Err OutOfRange) = Unit {0}
  KeptWorth (Err NoMemory) = Unit {0}
  KeptWorth (Err WrongSize) = Unit {0}

  -- the request with the sheet opens that gate
  pub record Opens : Type 0 where
    pub lines : List Line
    pub found : sheet_for cs q ≡ Some lines
    pub opens : AllByRecursion WellFormed cs → (receive gate_of (request_bytes q.house q.access.right lines)).1 ≡ Open ∷ []

  -- what was written of the request opens that gate, and nothing behind it is needed
  abbrev pub WrittenOpens : List ℕ → Result ℕ Unfound → Type 0
  WrittenOpens request' (Ok long) = AllByRecursion WellFormed cs → (receive gate_of (take long request')).1 ≡ Open ∷ []
  WrittenOpens request' (Err unfound) = Unit {0}

  -- so it is where the head asks what the question asks
  abbrev pub OpensAsked : List ℕ → List ℕ → Result ℕ Unfound → Type 0
  OpensAsked request request' r = Bytes request → (h : Head) (rest : List ℕ) → take_head request ≡ Some (h, rest) → h.house ≡ q.house → h.right ≡ q.access.right → WrittenOpens request' r

  -- A sheet is written only for a house that may, and opens the gate; without one the house may not.
  abbrev pub Worth : Result ℕ Unfound → Type 0
  Worth (Ok long) = Allowed × Opens
  Worth (Err NoSheet) = Allowed → ⊥
  Worth (Err (TooShort needed)) = Allowed
  Worth (Err Malformed) = Unit {0}
  Worth (Err OutOfRange) = Unit {0}
  Worth (Err NoMemory) = Unit {0}
  Worth (Err WrongSize) = Unit {0}
