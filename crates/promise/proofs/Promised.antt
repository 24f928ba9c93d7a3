-- The promise of the whole. Assumes nothing.
use Rattle.std.proofs.Common.{ℕ, ◌≤◌, List, length, sym, subst, arith}
use Rattle.certificates.proofs.Meaning.{grows, from_owner_lem}
use Rattle.certificates.specs.Access.{any_day, on_day}
use Rattle.certificates.specs.Meaning.{May}
use Rattle.certificates.specs.declared.access.Access.{Access}
use Rattle.promise.proofs.Asking.{access_at, sheet_for, lets_in}
use Rattle.promise.proofs.HeadRead.{lines_bytes}
use Rattle.promise.proofs.Opening.{opened_found}
use Rattle.promise.proofs.Ran.{Ran, asked_here, ran}
use Rattle.promise.specs.States.{State}
use Rattle.promise.specs.Happened.{happened, today}
use Rattle.promise.specs.Promise.{Bytes, MayAfter, LetIn, AllLetIn, Main}
use Rattle.promise.specs.Requests.{receive, run}
use Rattle.promise.specs.declared.answers.Answer.TheVariants.{Open}
use Rattle.sheets.proofs.SheetRead.{checks_exactly_lem}
use Rattle.sheets.proofs.Sound.{sound}
use mathlib.Core.List.{Memᴰ}

module _ (owner : ℕ) (ds : List (List ℕ)) (g : State) (r : Ran owner ds g) where
  few : length g.certificates ≤ 1024
  few = omega arith

  -- whoever may by what the gate has
  abbrev MayHere : ℕ → ℕ → Type 0
  MayHere right house = May g.certificates (access_at g right) house

  after_here : (right house : ℕ) → MayHere right house → MayAfter ds (any_day owner right) house
  after_here right house may = (r.same_may (on_day (today (happened ds)) (any_day owner right)) house).0 (subst (λ (a : Access). May g.certificates a house) (asked_here r right) may)

  here_after : (right house : ℕ) → MayAfter ds (any_day owner right) house → MayHere right house
  here_after right house may = subst (λ (a : Access). May g.certificates a house) (sym (asked_here r right)) ((r.same_may (on_day (today (happened ds)) (any_day owner right)) house).1 may)

  only_these : (d : List ℕ) → Bytes d → Memᴰ Open (receive g d).1 → LetIn owner ds d
  only_these d small i =
      let (h, rest, is, found) = opened_found g d i in
      let (lines, many, writable, same, held) = (checks_exactly_lem g.certificates r.well few (access_at g h.right) h.house h.lines rest (lines_bytes d small h rest is)).0 found in
      (h, rest, is, after_here h.right h.house (sound g.certificates (access_at g h.right) h.house lines held))

  all_these : AllLetIn owner ds g
  all_these house right known small may =
      let (lines, s) = sheet_for g few house right (here_after right house may) in
      (lines, lets_in g few house right r.well known small lines s, rw r.all_came at s.short)

pub main : Main
main = (
  (λ owner known ds small.
      let r = ran owner ds small in
      record { only = only_these owner ds (run owner ds) r; every = all_these owner ds (run owner ds) r }),
  (grows, from_owner_lem),
)
