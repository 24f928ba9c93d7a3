-- Laws of the meaning: each is a statement, proved where a function's contract names it. Assumes nothing.
use Rattle.std.specs.Prelude.{◌≡◌, ℕ, ◌↔◌, List, [], ◌++◌, ◌≢◌}
use Rattle.certificates.specs.Access.{on_day}
use Rattle.certificates.specs.Certificates.{Valid}
use Rattle.certificates.specs.Meaning.{Means, May}
use Rattle.certificates.specs.declared.Certificate.{Certificate}
use Rattle.certificates.specs.declared.access.Access.{Access}
use mathlib.Core.List.{Memᴰ}

-- More certificates never take a right away.
abbrev pub Grows : Type 0
Grows = (cs ds : List Certificate) → ((c : Certificate) → Memᴰ c cs → Memᴰ c ds) →
    (access : Access) (house : ℕ) → May cs access house → May ds access house

-- Between two days on which the same certificates are valid nothing changes.
abbrev pub Steady : Type 0
Steady = (cs : List Certificate) (day later : ℕ) → ((c : Certificate) → Memᴰ c cs → Valid day c ↔ Valid later c) →
    (access : Access) (house : ℕ) → May cs (on_day day access) house ↔ May cs (on_day later access) house

-- the house issued none of the certificates
abbrev pub IssuedNothing : List Certificate → ℕ → Type 0
IssuedNothing cs house = (c : Certificate) → Memᴰ c cs → c.issuer ≢ house

-- An owner that issued nothing has given nothing to anybody else.
abbrev pub FromOwner : Type 0
FromOwner = (cs : List Certificate) (access : Access) (house : ℕ) → IssuedNothing cs access.owner → May cs access house → house ≡ access.owner

-- A house that issued nothing names nobody: it means only itself, by no names.
abbrev pub FromIssuer : Type 0
FromIssuer = (cs : List Certificate) (day house : ℕ) (names : List ℕ) (m : ℕ) → IssuedNothing cs house →
    Means cs day house names m → (names ≡ []) × (m ≡ house)

-- Meaning splits along a chain of names: its front means some house, and from there its rest means the last one.
abbrev pub Splits : Type 0
Splits = (cs : List Certificate) (day house : ℕ) (names rest : List ℕ) (m : ℕ) →
    Means cs day house (names ++ rest) m ↔ ((between : ℕ) × Means cs day house names between × Means cs day between rest m)
