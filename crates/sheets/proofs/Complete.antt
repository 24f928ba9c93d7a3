-- Whoever may has a sheet that holds, and whether a house may is decided: both by the lines that come to an end. Assumes nothing.
use Rattle.certificates.specs.declared.access.Access.{Access}
use Rattle.std.proofs.Common.{◌≡◌, ℕ, ◌*◌, true, T, List, length, refl, ◌∙◌, inl, inr, ⊎_elim}
use Rattle.certificates.specs.Meaning.{May}
use Rattle.certificates.specs.declared.Certificate.{Certificate}
use Rattle.sheets.proofs.Closed.{closed_entitled}
use Rattle.sheets.proofs.Ending.{Ending, ending}
use Rattle.sheets.proofs.Shown.{T_from_true}
use Rattle.sheets.proofs.Slots.{subject_houses, subjects_covered, start_room}
use Rattle.sheets.proofs.Sound.{sound}
use Rattle.sheets.specs.Facts.{HasRight}
use Rattle.sheets.specs.Laws.{Covers, Complete, Decided}
use Rattle.sheets.specs.Sheets.{start, entitled, holds}
use Rattle.std.proofs.lemmas.Bool.{cases_Bool, both_ways}
use mathlib.Core.List.Memᴰ

module _ (cs : List Certificate) (houses : List ℕ) (covers : Covers houses cs) (access : Access) where
  -- the lines and facts at the end
  pub end_of : Ending cs access (start access.owner) (length cs * length houses)
  end_of = ending cs access houses covers (length cs * length houses) (start access.owner) (start_room cs houses access.owner)

  may_entitled : (house : ℕ) → May cs access house → entitled house end_of.end ≡ true
  may_entitled house may =
      closed_entitled cs access end_of.end end_of.closed (end_of.kept (HasRight true access.owner) (Memᴰ.head refl)) house may

  entitled_holds : (house : ℕ) → entitled house end_of.end ≡ true → T (holds cs access end_of.lines house)
  entitled_holds house e = T_from_true _ (end_of.holds_as house ∙ e)

pub complete : Complete
complete cs houses covers access house may =
    let end = end_of cs houses covers access in
    (end.lines, entitled_holds cs houses covers access house (may_entitled cs houses covers access house may), end.few)

pub decided : Decided
decided cs access house =
    let houses = subject_houses cs in
    let covers = subjects_covered cs in
    let end = end_of cs houses covers access in
    ⊎_elim
    (λ e. inl (sound cs access house end.lines (entitled_holds cs houses covers access house e)))
    (λ none. inr (λ may. both_ways _ none (may_entitled cs houses covers access house may)))
    (cases_Bool (entitled house end.end))
