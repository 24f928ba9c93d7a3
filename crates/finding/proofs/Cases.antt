-- Each row of the table by computing, and who may by the laws. Assumes nothing.
use Rattle.certificates.specs.declared.access.Access.{Access}
use Rattle.certificates.specs.Certificates.{subject_of}
use Rattle.std.proofs.Common.{◌≡◌, ℕ, ◌<◌, List, [], ◌∷◌, length, is_some, Some, None, Decides, Option, sym, refl, subst, ⊎_elim, lit<}
use Rattle.certificates.specs.Meaning.{May}
use Rattle.certificates.specs.declared.Certificate.{Certificate}
use Rattle.finding.proofs.Lawful.{finds_lawfully}
use Rattle.finding.specs.Cases.{right_3_on, Row, by_name, ring, ring_with_exit, doubled, had_only, not_passed_on, last_day, day_after, wrong_order, the_owner, ComesTrue, AllComeTrue}
use Rattle.finding.specs.Finding.{find_sheet}
use Rattle.finding_keeping.specs.Keeping.{keep}
use Rattle.finding_turns.specs.Resting.{step_facts}
use Rattle.finding_rounds.specs.Rounds.{after, round_from, rounds_within, rounds, written, shown_at_end}
use Rattle.sheets.proofs.Shown.{impossible}
use Rattle.sheets.proofs.Sound.{sound}
use Rattle.sheets.specs.Bytes.{bytes_of_sheet}
use Rattle.sheets.specs.Checking.{known_houses, unshown, lines_checked, check_sheet}
use Rattle.sheets.specs.Facts.{shown}
use Rattle.sheets.specs.Laws.{Covers}
use Rattle.sheets.specs.Sheets.{walks, reached, holds_from}
use Rattle.std.specs.List.{AllByRecursion}
use Rattle.finding_turns.proofs.Members.{in_rising}
use Rattle.finding_turns.specs.Turns.{turn}
use Rattle.finding_turns.specs.Ways.{rising, meant_by, ways, first_to}
use Rattle.wire.specs.Numbers.{bytes, take_numbers}
use mathlib.Core.List.Memᴰ
use mathlib.Core.List.{Memᴰ}

covered : (houses : ℕ) (cs : List Certificate) → AllByRecursion (λ (c : Certificate). (subject_of c.statement).house < houses) cs → Covers (rising houses) cs
covered houses [] known c i = absurd (Memᴰ.not-nil i)
covered houses (x ∷ cs) known c i = ⊎_elim
    (λ e. subst (λ (y : Certificate). Memᴰ (subject_of y.statement).house (rising houses)) (sym e) (in_rising houses (subject_of x.statement).house known.0))
    (covered houses cs known.1 c)
    (Memᴰ.cases_cons i)

-- a house may exactly if a sheet is found for it
may_decided : (cs : List Certificate) (access : Access) (house : ℕ) → Covers (rising 8) cs → (o : Option _) → find_sheet 8 cs access house ≡ o →
    Decides (is_some o) (May cs access house)
may_decided cs access house covers None is =
    ((λ none. impossible (cc)), λ may. absurd (((finds_lawfully 8 cs covers access).not_found house).0 is may))
may_decided cs access house covers (Some lines) is =
    ((λ some. sound cs access house lines ((finds_lawfully 8 cs covers access).kept house lines is).hold), λ may. refl)

module _ (r : Row) where
  row : AllByRecursion (λ (c : Certificate). (subject_of c.statement).house < 8) r.certificates →
      length (rounds 8 r.certificates (right_3_on r.day)) ≡ r.many →
      written 8 r.certificates (right_3_on r.day) ≡ r.lines →
      meant_by 8 (shown_at_end 8 r.certificates (right_3_on r.day)) 1 r.name ≡ r.means →
      find_sheet 8 r.certificates (right_3_on r.day) r.house ≡ r.sheet →
      (check_sheet r.certificates (right_3_on r.day) r.house (length r.tried) (bytes_of_sheet r.tried)).1 ≡ r.checked → ComesTrue r
  row known many lines means sheet check = record {
    rounds_are = many;
    lines_are = lines;
    names_are = means;
    sheet_is = sheet;
    check_is = check;
    may_is = may_decided r.certificates (right_3_on r.day) r.house (covered 8 r.certificates known) r.sheet sheet;
  }

pub all_come_true : AllComeTrue
unfolding after round_from rounds_within turn ways first_to rising shown reached walks keep step_facts holds_from known_houses unshown lines_checked bytes take_numbers
all_come_true = (
  row by_name (lit< tt, (lit< tt, tt)) refl refl refl refl refl,
  (
    row ring (lit< tt, (lit< tt, tt)) refl refl refl refl refl,
    (
      row ring_with_exit (lit< tt, (lit< tt, (lit< tt, tt))) refl refl refl refl refl,
      (
        row doubled (lit< tt, (lit< tt, (lit< tt, tt))) refl refl refl refl refl,
        (
          row had_only (lit< tt, (lit< tt, tt)) refl refl refl refl refl,
          (
            row not_passed_on (lit< tt, (lit< tt, tt)) refl refl refl refl refl,
            (
              row last_day (lit< tt, tt) refl refl refl refl refl,
              (
                row day_after (lit< tt, tt) refl refl refl refl refl,
                (
                  row wrong_order (lit< tt, (lit< tt, tt)) refl refl refl refl refl,
                  (
                    row the_owner tt refl refl refl refl refl,
                    tt,
                  ),
                ),
              ),
            ),
          ),
        ),
      ),
    ),
  ),
)
