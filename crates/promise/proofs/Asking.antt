-- A request with a sheet that holds is answered by an open gate, and whoever may has one. Assumes nothing.
use Rattle.std.proofs.Common.{◌≡◌, ℕ, zero, suc, ◌*◌, ◌/◌, ◌%◌, ◌<◌, ◌≤◌, T, List, [], ◌∷◌, length, refl, ap, ◌∙◌, mul-le-mul_left, arith}
use Rattle.certificates.specs.Access.{any_day, on_day}
use Rattle.certificates.specs.Certificates.{WellFormed}
use Rattle.certificates.specs.declared.access.Access.{Access}
use Rattle.certificates.specs.Meaning.{May}
use Rattle.promise.proofs.HeadRead.{head_read}
use Rattle.promise.specs.States.{State}
use Rattle.promise.specs.Promise.{Bytes, request_bytes}
use Rattle.promise.specs.Requests.{decided, answer_head, receive}
use Rattle.promise.specs.declared.answers.Answer.{Answer}
use Rattle.promise.specs.declared.answers.Answer.TheVariants.{Open}
use Rattle.sheets.proofs.Complete.{complete}
use Rattle.sheets.proofs.SheetRead.{checks_exactly_lem}
use Rattle.sheets.proofs.Slots.{subject_houses, subjects_covered}
use Rattle.sheets.proofs.Written.{holds_writable_lem}
use Rattle.sheets.specs.Bytes.{line_bytes, bytes_of_sheet}
use Rattle.sheets.specs.Sheets.{Line, holds}
use Rattle.std.proofs.lemmas.Nat.{mod_below}
use Rattle.std.proofs.ByRecursion.{All-push, All-append}
use Rattle.std.proofs.lemmas.Bool.{le-leb}
use Rattle.std.specs.List.{flat_map, AllByRecursion}
use Rattle.wire.specs.Numbers.{bytes}
use lib.ListN.{length-map}

bytes_small : (k n : ℕ) → Bytes (bytes k n)
unfolding bytes
bytes_small zero n = tt
bytes_small (suc k) n = All-push (λ b. b < 256) (bytes k (n / 256)) (n % 256) (bytes_small k (n / 256)) (mod_below n 256 (omega arith))

joined_small : {X : Type 0} (f : X → List ℕ) → ((x : X) → Bytes (f x)) → (xs : List X) → Bytes (flat_map f xs)
joined_small f small [] = tt
joined_small f small (x ∷ xs) = All-append (λ b. b < 256) (f x) (flat_map f xs) (small x) (joined_small f small xs)

sheet_small : (lines : List Line) → Bytes (bytes_of_sheet lines)
sheet_small = joined_small line_bytes λ l. All-append (λ b. b < 256) (bytes 2 l.certificate) (flat_map (bytes 2) l.houses) (bytes_small 2 l.certificate) (joined_small (bytes 2) (bytes_small 2) l.houses)

-- what is asked for at a gate: its owner's right, on the day that it is
abbrev pub access_at : State → ℕ → Access
access_at g right = on_day g.day (any_day g.owner right)

-- a sheet for the house that holds, and is short enough for the gate
pub record Sheet (g : State) (house right : ℕ) (lines : List Line) : Type 0 where
  pub held : T (holds g.certificates (access_at g right) lines house)
  pub short : length lines ≤ length g.certificates * 1024

module _ (g : State) (few : length g.certificates ≤ 1024) (house right : ℕ) where
  -- a sheet leads only to subjects' houses, and there are no more of these than certificates
  pub sheet_for : May g.certificates (access_at g right) house → (lines : List Line) × Sheet g house right lines
  sheet_for may =
      let cs = g.certificates in
      let (lines, held, most) = complete cs (subject_houses cs) (subjects_covered cs) (access_at g right) house may in
      (lines, record { held = held; short = omega (arith, simp length-map at most, mul-le-mul_left (length cs) few) })

  pub lets_in : AllByRecursion WellFormed g.certificates → house < 1024 → right < 64 → (lines : List Line) → Sheet g house right lines →
      (receive g (request_bytes house right lines)).1 ≡ Open ∷ []
  lets_in well known small lines s =
      let cs = g.certificates in
      let n = length lines in
      let head = head_read house right n known small (omega arith) (bytes_of_sheet lines) in
      let writable = holds_writable_lem cs well (access_at g right) house lines s.held in
      let found = (checks_exactly_lem cs well few (access_at g right) house n (bytes_of_sheet lines) (sheet_small lines)).1 (lines, refl, writable, refl, s.held) in
      ap (λ (a : Answer). a ∷ []) (ap (answer_head g) head
      ∙ rw (le-leb house 1023 (omega arith), le-leb right 63 (omega arith), le-leb n (length cs * 1024) s.short) (ap decided found))
