-- A sheet holds as long as all its certificates are valid. Assumes nothing.
use Rattle.certificates.specs.Access.{on_day}
use Rattle.certificates.specs.declared.access.Access.{Access}
use Rattle.std.proofs.Common.{◌≡◌, ℕ, ◌≤◌, ◌^◌, ◌<◌, true, Bool, false, List, [], ◌∷◌, min, ◌⊎◌, inl, inr, length, Some, None, Option, sym, refl, ◌∙◌, arith}
use Rattle.certificates.specs.Certificates.{names_of, Valid, valid, subject_of}
use Rattle.certificates.specs.declared.Certificate.{Certificate}
use Rattle.finding.proofs.Worthy.{kept_lines}
use Rattle.finding.specs.Asking.{sheet_for}
use Rattle.finding.specs.Worth.{last_day, LastsBy}
use Rattle.finding_keeping.specs.Marks.{picked}
use Rattle.sheets.proofs.Lines.{first_good}
use Rattle.sheets.proofs.Shown.{true_from_t, T_from_true, valid_true, valid_from}
use Rattle.sheets.proofs.Sound.{sound}
use Rattle.sheets.specs.Facts.{Fact}
use Rattle.sheets.specs.Laws.{Covers}
use Rattle.sheets.specs.Sheets.{Line, certificate_at, authorized, ripe, walks, good, shows, start, holds_from, holds}
use Rattle.sheets.specs.declared.checking.Question.{Question}
use Rattle.std.proofs.lemmas.Bool.{and_parts, and_from}
use Rattle.std.proofs.lemmas.Fn.{fronts}
use Rattle.std.proofs.lemmas.Iterator.{zips}
use Rattle.std.proofs.lemmas.Slice.Zip.{either_empty_from_Zip}
use Rattle.std.specs.Borrow.{Bor}
use Rattle.std.specs.Iterator.Adapters.{zip_first, zip_second}
use Rattle.std.specs.Slice.Iter.{iter_rest}
use Rattle.std.specs.declared.iter.Zip.{Zip}
use Rattle.std.specs.declared.slice.Iter.{Iter}
use Rattle.finding_turns.specs.Found.{lines_found}
use Rattle.finding_turns.specs.Ways.{rising}
use Rattle.finding_turns.specs.declared.found.Found.{Found}

module _ (cs : List Certificate) (access : Access) where
  -- a line that is good is so on a later day too, if its certificate is valid then; and its certificate lasts
  later_good : (other : ℕ) (facts : List Fact) (l : Line) → access.day ≤ other → other ≤ (certificate_at cs l.certificate).last →
      good access facts (certificate_at cs l.certificate) l.houses ≡ true → good (on_day other access) facts (certificate_at cs l.certificate) l.houses ≡ true
  later_good other facts l from to g =
      let c = certificate_at cs l.certificate in
      let (r, w) = and_parts (ripe access facts c) (walks facts (subject_of c.statement).house (names_of (subject_of c.statement)) l.houses) g in
      let (v, a) = and_parts (valid access.day c) (authorized access facts c.issuer c.statement) r in
      let begun = (valid_true access.day c v).begun in
      let now : Valid other c = record { begun = omega arith; lasts = to } in
      and_from (ripe (on_day other access) facts c) (walks facts (subject_of c.statement).house (names_of (subject_of c.statement)) l.houses)
      (and_from (valid other c) (authorized access facts c.issuer c.statement) (valid_from other c now) a) w

  good_lasts : (facts : List Fact) (l : Line) → good access facts (certificate_at cs l.certificate) l.houses ≡ true → access.day ≤ (certificate_at cs l.certificate).last
  good_lasts facts l g =
      let c = certificate_at cs l.certificate in
      let (r, w) = and_parts (ripe access facts c) (walks facts (subject_of c.statement).house (names_of (subject_of c.statement)) l.houses) g in
      let (v, a) = and_parts (valid access.day c) (authorized access facts c.issuer c.statement) r in
      (valid_true access.day c v).lasts

  -- so it is with lines that hold
  later_holds : (other house : ℕ) (facts : List Fact) (lines : List Line) → access.day ≤ other → other ≤ last_day cs lines →
      holds_from cs access facts lines house ≡ true → holds_from cs (on_day other access) facts lines house ≡ true
  unfolding holds_from last_day
  later_holds other house facts [] from to e = e
  later_holds other house facts (l ∷ lines) from to e =
      let (g, rest) = first_good cs access facts house l lines e in
      and_from (good (on_day other access) facts (certificate_at cs l.certificate) l.houses) (holds_from cs (on_day other access) (shows cs l ∷ facts) lines house)
      (later_good other facts l from (omega (arith, to)) g) (later_holds other house (shows cs l ∷ facts) lines from (omega (arith, to)) rest)

  all_last : (house : ℕ) (facts : List Fact) (lines : List Line) → access.day < 2 ^ 32 → holds_from cs access facts lines house ≡ true → access.day ≤ last_day cs lines
  unfolding last_day
  all_last house facts [] small e = omega arith
  all_last house facts (l ∷ lines) small e =
      let (g, rest) = first_good cs access facts house l lines e in
      let here = good_lasts facts l g in
      let behind = all_last house (shows cs l ∷ facts) lines small rest in
      omega arith

-- the sheet that is found lasts so
pub lines_last : (cs : List Certificate) (q : Question) → Covers (rising 1024) cs → length cs ≤ 1024 → (lines : List Line) → sheet_for cs q ≡ Some lines → LastsBy cs q lines
lines_last cs q covers few lines is =
    let e = true_from_t (holds cs q.access lines q.house) (kept_lines cs q covers few lines is).hold in (
      λ small. all_last cs q.access q.house (start q.access.owner) lines small e,
      λ day from to. sound cs (on_day day q.access) q.house lines (T_from_true (holds cs (on_day day q.access) lines q.house) (later_holds cs q.access day q.house (start q.access.owner) lines from to e)),
    )

-- A loop over lines and their marks: the last day of those that are left.
abbrev pub last_left : List Certificate → List Bool → List Found → ℕ
last_left cs marks found = last_day cs (picked marks (lines_found cs found))

module _ (cs : List Certificate) (last : ℕ) {marks : List Bool} {found : List Found} where
  pub last_marked : (marks' : List Bool) (mark : Bool) (found' : List Found) (f : Found) → found ≡ f ∷ found' → marks ≡ mark ∷ marks' → mark ≡ true →
      min (min last (certificate_at cs f.certificate).last) (last_left cs marks' found') ≡ min last (last_left cs marks found)
  unfolding picked last_day
  last_marked marks' mark found' f is is' e = rw (is, is', e) (omega arith)

  pub last_unmarked : (marks' : List Bool) (mark : Bool) (found' : List Found) (f : Found) → found ≡ f ∷ found' → marks ≡ mark ∷ marks' → mark ≡ false →
      min last (last_left cs marks' found') ≡ min last (last_left cs marks found)
  unfolding picked last_day
  last_unmarked marks' mark found' f is is' e = rw (is, is', e) refl

none_left : (cs : List Certificate) (last : ℕ) (marks : List Bool) (found : List Found) → (found ≡ []) ⊎ (marks ≡ []) → last ≤ 4294967295 → min last (last_left cs marks found) ≡ last
unfolding picked last_day
none_left cs last [] found (inl e) fits = omega arith
none_left cs last (mark ∷ marks) found (inl e) fits = rw e (omega arith)
none_left cs last marks found (inr e) fits = rw e (omega arith)

pub last_ended : (cs : List Certificate) (last all : ℕ) (s t : Zip (Iter Found) (Iter Bool)) (r : Option (Bor Found × Bor Bool)) → r ≡ None → zips fronts fronts s r t →
    last ≤ 4294967295 → min last (last_left cs (iter_rest (zip_second s)) (iter_rest (zip_first s))) ≡ all → last ≡ all
last_ended cs last all s t r is steps fits same =
    sym (none_left cs last (iter_rest (zip_second s)) (iter_rest (zip_first s)) (either_empty_from_Zip s t r is steps) fits) ∙ same

pub last_of_all : (cs : List Certificate) (lines : List Line) → min 4294967295 (last_day cs lines) ≡ last_day cs lines
unfolding last_day
last_of_all cs [] = refl
last_of_all cs (l ∷ lines) = let behind = last_of_all cs lines in omega (arith, behind)
