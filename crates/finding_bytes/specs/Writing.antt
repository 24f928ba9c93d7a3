-- Marked lines as bytes in the front of lent memory. Assumes nothing.
use Rattle.std.specs.Prelude.{◌≡◌, ℕ, ◌<◌, ◌≤◌, Bool, List, ◌++◌, length, drop}
use Rattle.finding_keeping.specs.Marks.{picked}
use Rattle.sheets.specs.Bytes.{bytes_of_sheet}
use Rattle.sheets.specs.Sheets.{Line}

-- the bytes of the lines that are marked, in their order
abbrev pub bytes_of_marked : List Bool → List Line → List ℕ
bytes_of_marked marks lines = bytes_of_sheet (picked marks lines)

-- The bytes stand in the front of the memory, what lies behind them stays; so many were written.
pub record Wrote (bytes before after : List ℕ) (count : ℕ) : Type 0 where
  pub long : count ≡ length bytes
  pub fits : count ≤ length before
  pub front : after ≡ bytes ++ drop (length bytes) before

-- The memory is too short for the bytes and stays as it was; so many would be needed.
pub record Refused (bytes before after : List ℕ) (needed : ℕ) : Type 0 where
  pub long : needed ≡ length bytes
  pub short : length before < needed
  pub same : after ≡ before
