-- What finding answers, what it writes into a request, and what it leaves in lent memory. Assumes nothing.
use Rattle.std.specs.Prelude.{◌≡◌, ℕ, ◌+◌, ◌<◌, ◌≤◌, true, false, List, [], ◌++◌, length, take, drop, replicate, Some, None, Ok, Err, Option, Result, vec_items}
use Rattle.certificates.specs.declared.Certificate.{Certificate}
use Rattle.finding.specs.Finding.{find_sheet}
use Rattle.finding.specs.declared.kept_lines.KeptLines.{KeptLines}
use Rattle.finding.specs.declared.sheets_found.Unfound.{Unfound}
use Rattle.finding.specs.declared.sheets_found.Unfound.TheVariants.{NoSheet, TooShort, Malformed, OutOfRange, NoMemory, WrongSize}
use Rattle.finding_lines.specs.Lines.{right_size}
use Rattle.finding_keeping.specs.Marking.{marks_needed}
use Rattle.finding_keeping.specs.Marks.{picked}
use Rattle.finding_rounds.specs.Numbers.{name_numbers}
use Rattle.finding_rounds.specs.Rounds.{written, shown_at_end}
use Rattle.finding_lines.specs.declared.lines.Trouble.{Trouble}
use Rattle.finding_lines.specs.declared.lines.Trouble.TheVariants as troubles
use Rattle.sheets.specs.Bytes.{bytes_of_sheet}
use Rattle.sheets.specs.Memory.{names_table}
use Rattle.sheets.specs.Passing.{askable}
use Rattle.sheets.specs.Sheets.{Line}
use Rattle.sheets.specs.declared.checking.Question.{Question}
use Rattle.finding_turns.specs.Found.{lines_found}
use Rattle.wire.specs.Numbers.{bytes}

-- the sheet that is found for a question
abbrev pub sheet_for : List Certificate → Question → Option (List Line)
sheet_for cs q = find_sheet 1024 cs q.access q.house

-- how many bytes a request with these lines has: a head of eight, and the lines
abbrev pub request_length : List Line → ℕ
request_length lines = 8 + length (bytes_of_sheet lines)

-- the first four bytes of the head stay; then how many lines there are, the lines, and what lay behind them
abbrev pub with_sheet : List ℕ → List Line → List ℕ
with_sheet request lines = take 4 request ++ (bytes 4 (length lines) ++ (bytes_of_sheet lines ++ drop (request_length lines) request))

-- the lines that are marked as those on which a wanted line rests
abbrev pub kept_by : List Certificate → ℕ → List Line → Option ℕ → List ℕ → List ℕ → List Line
kept_by cs owner lines wanted names rights = picked (marks_needed cs owner lines wanted names rights (length lines)) lines

-- those of the found lines that are marked
abbrev pub lines_of_kept : List Certificate → KeptLines → List Line
lines_of_kept cs kept = picked (vec_items kept.marks) (lines_found cs (vec_items kept.found))

-- the same reason
abbrev pub unsearched_of : Trouble → Unfound
unsearched_of troubles.NoMemory = NoMemory
unsearched_of troubles.WrongSize = WrongSize
unsearched_of troubles.OutOfRange = OutOfRange

module _ (cs : List Certificate) (q : Question) where
  -- a sheet was found and written behind the head
  pub record Written (request request' : List ℕ) (long : ℕ) : Type 0 where
    pub lines : List Line
    pub found : sheet_for cs q ≡ Some lines
    pub long_is : long ≡ request_length lines
    pub fits : long ≤ length request
    pub request_is : request' ≡ with_sheet request lines

  -- a sheet was found, but the request is too short for it
  pub record NoRoom (request : List ℕ) (needed : ℕ) : Type 0 where
    pub lines : List Line
    pub found : sheet_for cs q ≡ Some lines
    pub needed_is : needed ≡ request_length lines
    pub short : length request < needed

  -- the lent memory holds what all lines that were written show, and their numbers beside it
  pub record MemoryFilled (names name_lines names' name_lines' : List ℕ) : Type 0 where
    pub names_are : names' ≡ names_table cs (shown_at_end 1024 cs q.access) (replicate 16384 0)
    pub numbers_are : name_lines' ≡ name_numbers cs 0 (written 1024 cs q.access) name_lines

  -- or is as it was
  pub record Untouched (names name_lines names' name_lines' : List ℕ) : Type 0 where
    pub names_same : names' ≡ names
    pub numbers_same : name_lines' ≡ name_lines

  -- Why no lines were looked for; the lent memory is as it was.
  abbrev pub Unsought : List ℕ → List ℕ → List ℕ → List ℕ → Unfound → Type 0
  Unsought names numbers names' numbers' NoSheet = ⊥
  Unsought names numbers names' numbers' (TooShort needed) = ⊥
  Unsought names numbers names' numbers' Malformed = ⊥
  Unsought names numbers names' numbers' OutOfRange = (askable q ≡ false) × Untouched names numbers names' numbers'
  Unsought names numbers names' numbers' NoMemory = Untouched names numbers names' numbers'
  Unsought names numbers names' numbers' WrongSize = (right_size names numbers ≡ false) × Untouched names numbers names' numbers'

  -- The lines of the sheet are kept, or there is a reason why not; memory is filled, or is as it was.
  abbrev pub LinesKept : List ℕ → List ℕ → List ℕ → List ℕ → Result KeptLines Unfound → Type 0
  LinesKept names numbers names' numbers' (Ok kept) =
      (askable q ≡ true) × (sheet_for cs q ≡ Some (lines_of_kept cs kept)) × MemoryFilled names numbers names' numbers'
  LinesKept names numbers names' numbers' (Err NoSheet) = (sheet_for cs q ≡ None) × MemoryFilled names numbers names' numbers'
  LinesKept names numbers names' numbers' (Err (TooShort needed)) = ⊥
  LinesKept names numbers names' numbers' (Err Malformed) = ⊥
  LinesKept names numbers names' numbers' (Err OutOfRange) = (askable q ≡ false) × Untouched names numbers names' numbers'
  LinesKept names numbers names' numbers' (Err NoMemory) = Untouched names numbers names' numbers'
  LinesKept names numbers names' numbers' (Err WrongSize) = (right_size names numbers ≡ false) × Untouched names numbers names' numbers'

  -- Each answer with its reason; where no sheet is written the request is as it was.
  abbrev pub Answered : List ℕ → List ℕ → List ℕ → List ℕ → List ℕ → List ℕ → Result ℕ Unfound → Type 0
  Answered names numbers request names' numbers' request' (Ok long) =
      (askable q ≡ true) × Written request request' long × MemoryFilled names numbers names' numbers'
  Answered names numbers request names' numbers' request' (Err NoSheet) =
      (sheet_for cs q ≡ None) × MemoryFilled names numbers names' numbers' × (request' ≡ request)
  Answered names numbers request names' numbers' request' (Err (TooShort needed)) =
      NoRoom request needed × MemoryFilled names numbers names' numbers' × (request' ≡ request)
  Answered names numbers request names' numbers' request' (Err Malformed) = ⊥
  Answered names numbers request names' numbers' request' (Err OutOfRange) =
      (askable q ≡ false) × Untouched names numbers names' numbers' × (request' ≡ request)
  Answered names numbers request names' numbers' request' (Err WrongSize) =
      (right_size names numbers ≡ false) × Untouched names numbers names' numbers' × (request' ≡ request)
  Answered names numbers request names' numbers' request' (Err NoMemory) = Untouched names numbers names' numbers' × (request' ≡ request)
