-- Every line of a sheet that holds can be written. Assumes nothing.
use Rattle.certificates.specs.declared.access.Access.{Access}
use Rattle.std.proofs.Common.{◌≡◌, ℕ, ◌≤◌, true, List, [], ◌∷◌, ◌∙◌}
use Rattle.certificates.specs.Certificates.{names_of, WellFormed, subject_of}
use Rattle.certificates.specs.declared.Certificate.{Certificate}
use Rattle.sheets.proofs.Formed.{names_at, subject_known}
use Rattle.sheets.proofs.Lines.{Good, last_house, good_backed, first_good}
use Rattle.sheets.proofs.Shown.{impossible, true_from_t, shown_true}
use Rattle.sheets.proofs.Slots.{subject_houses, subjects_covered, Within, start_room, leads_within, more_within}
use Rattle.sheets.proofs.Walks.{walk_length, all_known}
use Rattle.sheets.specs.Bytes.{Writable}
use Rattle.sheets.specs.Facts.{Fact, NameMeans, shown}
use Rattle.sheets.specs.Laws.{HoldsWritable}
use Rattle.sheets.specs.Sheets.{Line, certificate_at, walks, shows, start, holds_from, holds}
use Rattle.std.proofs.ByRecursion.{All-weaker}
use Rattle.std.proofs.lemmas.Bool.{and_parts}
use Rattle.std.specs.List.{AllByRecursion}
use mathlib.Core.List.{Memᴰ}

walk_within : (houses : List ℕ) (facts : List Fact) → Within houses facts → (k : ℕ) (names walk : List ℕ) → walks facts k names walk ≡ true →
    AllByRecursion (λ h. Memᴰ h houses) walk
unfolding walks
walk_within houses facts within k [] [] e = tt
walk_within houses facts within k [] (h ∷ walk) e = impossible (cc)
walk_within houses facts within k (n ∷ names) [] e = impossible (cc)
walk_within houses facts within k (n ∷ names) (h ∷ walk) e =
    let (first, rest) = and_parts (shown (NameMeans k n h) facts) (walks facts h names walk) e in
    (within k n h (shown_true (NameMeans k n h) facts first), walk_within houses facts within h names walk rest)

module _ (cs : List Certificate) (formed : AllByRecursion WellFormed cs) (access : Access) where
  line_writable : (facts : List Fact) → Within (subject_houses cs) facts → (l : Line) → Good cs access facts l → Writable cs l
  line_writable facts within l g =
      let c = certificate_at cs l.certificate in
      let backed = good_backed cs access facts l g in
      record {
        number = backed.number;
        many = walk_length facts (subject_of c.statement).house (names_of (subject_of c.statement)) l.houses backed.walk ∙ names_at cs formed l.certificate backed.number;
        known = all_known l.houses (All-weaker (λ h. Memᴰ h (subject_houses cs)) (λ h. h ≤ 1023) (subject_known cs formed) l.houses
            (walk_within (subject_houses cs) facts within (subject_of c.statement).house (names_of (subject_of c.statement)) l.houses backed.walk));
      }

  lines_writable : (house : ℕ) (facts : List Fact) → Within (subject_houses cs) facts → (lines : List Line) →
      holds_from cs access facts lines house ≡ true → AllByRecursion (Writable cs) lines
  lines_writable house facts within [] e = tt
  lines_writable house facts within (l ∷ lines) e =
      let (g, rest) = first_good cs access facts house l lines e in
      let backed = good_backed cs access facts l g in
      let c = certificate_at cs l.certificate in (
        line_writable facts within l g,
        lines_writable house (shows cs l ∷ facts) (more_within within c (last_house cs l) (leads_within within (subjects_covered cs c backed.member) backed.leads)) lines rest,
      )

pub holds_writable_lem : HoldsWritable
holds_writable_lem cs formed access house lines t =
    lines_writable cs formed access house (start access.owner) (start_room cs (subject_houses cs) access.owner).within lines (true_from_t (holds cs access lines house) t)
