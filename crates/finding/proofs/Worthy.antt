-- What the answers of finding are worth, by its laws. Assumes nothing.
use Rattle.std.proofs.Common.{◌≡◌, ◌≤◌, true, ◌&&◌, leb, List, length, Some, arith}
use Rattle.certificates.specs.declared.Certificate.{Certificate}
use Rattle.finding.proofs.Lawful.{finds_lawfully}
use Rattle.finding.specs.Asking.{sheet_for}
use Rattle.finding.specs.Laws.{Kept}
use Rattle.finding.specs.Worth.{Allowed, gate_of, OpenedBy}
use Rattle.promise.proofs.Asking.{lets_in}
use Rattle.sheets.proofs.Sound.{sound}
use Rattle.sheets.specs.Laws.{Covers}
use Rattle.sheets.specs.Passing.{askable}
use Rattle.sheets.specs.Sheets.{Line}
use Rattle.sheets.specs.declared.checking.Question.{Question}
use Rattle.std.proofs.lemmas.Bool.{and_parts, leb-true}
use Rattle.finding_turns.specs.Ways.{rising}

module _ (cs : List Certificate) (q : Question) (covers : Covers (rising 1024) cs) (few : length cs ≤ 1024) where
  pub kept_lines : (lines : List Line) → sheet_for cs q ≡ Some lines → Kept 1024 cs q.access q.house lines
  kept_lines lines is = (finds_lawfully 1024 cs covers q.access).kept q.house lines is

  pub found_allowed : (lines : List Line) → sheet_for cs q ≡ Some lines → Allowed cs q
  found_allowed lines is = sound cs q.access q.house lines (kept_lines lines is).hold

  pub lines_open : askable q ≡ true → (lines : List Line) → sheet_for cs q ≡ Some lines → OpenedBy cs q lines
  lines_open asked lines is well =
      let (owner, rest) = and_parts (leb q.access.owner 1023) (leb q.house 1023 && leb q.access.right 63) asked in
      let (house, right) = and_parts (leb q.house 1023) (leb q.access.right 63) rest in
      let k = kept_lines lines is in
      lets_in (gate_of cs q) few q.house q.access.right well (omega (arith, leb-true q.house 1023 house)) (omega (arith, leb-true q.access.right 63 right)) lines (record { held = k.hold; short = k.few })
