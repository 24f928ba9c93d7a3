-- What the check finds of a walk: whether its steps are shown and its houses known. Assumes nothing.
use Rattle.std.proofs.Common.{◌≡◌, ℕ, suc, ◌≤◌, Bool, true, false, cond, leb, List, [], ◌∷◌, length, Some, None, Option, refl, ap, arith}
use Rattle.sheets.proofs.Shown.{impossible}
use Rattle.sheets.specs.Checking.{known_houses, unshown}
use Rattle.sheets.specs.Facts.{Fact, NameMeans, shown}
use Rattle.sheets.specs.Sheets.{walks}
use Rattle.std.proofs.lemmas.Bool.{and_parts, and_from, leb-true, le-leb}
use Rattle.std.specs.Option.{option_map}
use Rattle.std.specs.List.{AllByRecursion}

-- where no step is missing, neither the first nor a later one is
none_missing : (b : Bool) (later : Option ℕ) → cond b (option_map suc later) (Some 0) ≡ None → (b ≡ true) × (later ≡ None)
none_missing true None e = (refl, refl)
none_missing true (Some n) e = impossible (cc)
none_missing false None e = impossible (cc)
none_missing false (Some n) e = impossible (cc)

pub walk_shown : (facts : List Fact) (k : ℕ) (names houses : List ℕ) → walks facts k names houses ≡ true → unshown facts k names houses ≡ None
unfolding walks unshown
walk_shown facts k [] [] e = refl
walk_shown facts k [] (h ∷ houses) e = refl
walk_shown facts k (n ∷ names) [] e = refl
walk_shown facts k (n ∷ names) (h ∷ houses) e =
    let (first, rest) = and_parts (shown (NameMeans k n h) facts) (walks facts h names houses) e in
    rw (first, walk_shown facts h names houses rest)

pub shown_walk : (facts : List Fact) (k : ℕ) (names houses : List ℕ) → length houses ≡ length names →
    unshown facts k names houses ≡ None → walks facts k names houses ≡ true
unfolding walks unshown
shown_walk facts k [] [] same e = refl
shown_walk facts k [] (h ∷ houses) same e = impossible (omega arith)
shown_walk facts k (n ∷ names) [] same e = impossible (omega arith)
shown_walk facts k (n ∷ names) (h ∷ houses) same e =
    let (first, rest) = none_missing (shown (NameMeans k n h) facts) (unshown facts h names houses) e in
    and_from (shown (NameMeans k n h) facts) (walks facts h names houses) first (shown_walk facts h names houses (omega arith) rest)

pub walk_length : (facts : List Fact) (k : ℕ) (names houses : List ℕ) → walks facts k names houses ≡ true → length houses ≡ length names
unfolding walks
walk_length facts k [] [] e = refl
walk_length facts k [] (h ∷ houses) e = impossible (cc)
walk_length facts k (n ∷ names) [] e = impossible (cc)
walk_length facts k (n ∷ names) (h ∷ houses) e =
    ap suc (walk_length facts h names houses (and_parts (shown (NameMeans k n h) facts) (walks facts h names houses) e).1)

pub known_all : (houses : List ℕ) → known_houses houses ≡ true → AllByRecursion (λ h. h ≤ 1023) houses
unfolding known_houses
known_all [] e = tt
known_all (h ∷ houses) e =
    let (first, rest) = and_parts (leb h 1023) (known_houses houses) e in
    (leb-true h 1023 first, known_all houses rest)

pub all_known : (houses : List ℕ) → AllByRecursion (λ h. h ≤ 1023) houses → known_houses houses ≡ true
unfolding known_houses
all_known [] known = refl
all_known (h ∷ houses) known = and_from (leb h 1023) (known_houses houses) (le-leb h 1023 known.0) (all_known houses known.1)
