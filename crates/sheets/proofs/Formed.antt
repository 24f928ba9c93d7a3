-- What well formed certificates keep: known houses, and as many names as are counted. Assumes nothing.
use Rattle.std.proofs.Common.{◌≡◌, ℕ, ◌<◌, ◌≤◌, List, length, arith}
use Rattle.certificates.specs.Certificates.{names_of, WellFormed, subject_of}
use Rattle.certificates.specs.declared.Certificate.{Certificate}
use Rattle.sheets.proofs.Shown.{number_of}
use Rattle.sheets.proofs.Slots.{subject_houses}
use Rattle.sheets.specs.Sheets.{never, certificate_at}
use Rattle.std.proofs.ByRecursion.{All-get_or}
use Rattle.std.proofs.lemmas.List.{length-take-le}
use Rattle.std.specs.List.{AllByRecursion}
use mathlib.Core.List.Memᴰ
use mathlib.Core.List.{Memᴰ}

module _ (cs : List Certificate) (formed : AllByRecursion WellFormed cs) where
  formed_at : (i : ℕ) → i < length cs → WellFormed (certificate_at cs i)
  formed_at i below = All-get_or WellFormed cs i never below formed

  pub names_at : (i : ℕ) → i < length cs → length (names_of (subject_of (certificate_at cs i).statement)) ≡ (subject_of (certificate_at cs i).statement).count
  names_at i below =
      let c = certificate_at cs i in
      let w = formed_at i below in
      length-take-le (subject_of c.statement).count (subject_of c.statement).names (omega arith)

  pub subject_known : (h : ℕ) → Memᴰ h (subject_houses cs) → h ≤ 1023
  subject_known h i =
      let (c, j, is) = Memᴰ.of_map (λ (c : Certificate). (subject_of c.statement).house) cs i in
      let (n, below, same) = number_of j in
      let w = rw same at (formed_at n below) in
      omega arith
