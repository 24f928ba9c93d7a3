-- The promise of the whole: who is let in, after any deliveries. Assumes nothing.
use Rattle.std.specs.Prelude.{◌≡◌, ℕ, ◌*◌, ◌<◌, ◌≤◌, List, [], ◌∷◌, ◌++◌, length, Some}
use Rattle.certificates.specs.Access.{any_day, on_day}
use Rattle.certificates.specs.declared.access.Access.{Access}
use Rattle.certificates.specs.Laws.{Grows, FromOwner}
use Rattle.certificates.specs.Meaning.{May}
use Rattle.promise.specs.States.{State}
use Rattle.promise.specs.Happened.{happened, today, standing, came}
use Rattle.promise.specs.Requests.{Head, take_head, asked, receive, run}
use Rattle.promise.specs.declared.answers.Answer.{Answer}
use Rattle.promise.specs.declared.answers.Answer.TheVariants.{Open}
use Rattle.sheets.specs.Bytes.{bytes_of_sheet}
use Rattle.sheets.specs.Sheets.{Line}
use Rattle.std.specs.List.{AllByRecursion}
use Rattle.wire.specs.Numbers.{bytes}
use mathlib.Core.List.{Memᴰ}

-- a delivery is a list of bytes
abbrev pub Bytes : List ℕ → Type 0
Bytes d = AllByRecursion (λ b. b < 256) d

-- the bytes of a request with its sheet
abbrev pub request_bytes : ℕ → ℕ → List Line → List ℕ
request_bytes house right lines = 4 ∷ (bytes 2 house ++ (right ∷ (bytes 4 (length lines) ++ bytes_of_sheet lines)))

-- the house may, by the certificates that came and were not taken back, on the day that it is after the deliveries
abbrev pub MayAfter : List (List ℕ) → Access → ℕ → Type 0
MayAfter ds access house = May (standing (happened ds)) (on_day (today (happened ds)) access) house

-- the delivery d is a request of a house that may, by what happened in the deliveries ds before it
abbrev pub LetIn : ℕ → List (List ℕ) → List ℕ → Type 0
LetIn owner ds d = (h : Head) × (rest : List ℕ) × (take_head d ≡ Some (h, rest)) × MayAfter ds (asked owner h) h.house

-- whoever may after the deliveries ds has a request with which the gate g lets them in, its sheet no longer than certificates times houses
abbrev pub AllLetIn : ℕ → List (List ℕ) → State → Type 0
AllLetIn owner ds g =
    (house right : ℕ) → house < 1024 → right < 64 → MayAfter ds (any_day owner right) house →
    (lines : List Line) × ((receive g (request_bytes house right lines)).1 ≡ Open ∷ []) × (length lines ≤ came (happened ds) * 1024)

-- a gate of the owner after some deliveries: whoever is let in may, and whoever may is let in
pub record Promised (owner : ℕ) (ds : List (List ℕ)) : Type 0 where
  pub only : (d : List ℕ) → Bytes d → Memᴰ Open (receive (run owner ds) d).1 → LetIn owner ds d
  pub every : AllLetIn owner ds (run owner ds)

-- together with: more certificates never take a right away, and an owner that issued nothing gave nothing to anybody else
abbrev pub Main : Type 0
Main = ((owner : ℕ) → owner < 1024 → (ds : List (List ℕ)) → AllByRecursion Bytes ds → Promised owner ds) × (Grows × FromOwner)

-- What a gate keeps when it answers a request d: whatever the deliveries ds were by which it came about, who is let in may.
abbrev pub KeptAnswer : State → List ℕ → Answer → Type 0
KeptAnswer g d answered =
    (ds : List (List ℕ)) → AllByRecursion Bytes ds → g ≡ run g.owner ds → answered ≡ Open → LetIn g.owner ds d

-- the answers to some deliveries that follow others: those to the first, by which whoever is let in may, then those to the rest
unfoldable pub EachLetIn : ℕ → List (List ℕ) → List (List ℕ) → List Answer → Type 0
EachLetIn owner before [] answers = answers ≡ []
EachLetIn owner before (d ∷ ds) answers =
    (these : List Answer) × (those : List Answer) × (answers ≡ these ++ those) × (these ≡ (receive (run owner before) d).1)
    × (Memᴰ Open these → LetIn owner before d) × EachLetIn owner (before ++ (d ∷ [])) ds those

-- What a gate keeps when it takes the deliveries ds, one after the other, behind those by which it came about (none, for a new gate).
pub record KeptAll (g : State) (ds : List (List ℕ)) (g' : State) (answers : List Answer) : Type 0 where
  pub goes_on : (before : List (List ℕ)) → g ≡ run g.owner before → g' ≡ run g.owner (before ++ ds)
  pub only : (before : List (List ℕ)) → AllByRecursion Bytes before → g ≡ run g.owner before → EachLetIn g.owner before ds answers
  pub every : (before : List (List ℕ)) → AllByRecursion Bytes before → g ≡ run g.owner before → AllLetIn g.owner (before ++ ds) g'
