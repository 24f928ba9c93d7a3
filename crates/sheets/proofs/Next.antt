-- Either some good line shows something new, or the facts are closed. Assumes nothing.
use Rattle.certificates.specs.declared.access.Access.{Access}
use Rattle.std.proofs.Common.{◌≡◌, ℕ, true, ◌⊎◌, List, inl, inr, ⊎_elim}
use Rattle.certificates.specs.Certificates.{names_of, subject_of}
use Rattle.certificates.specs.declared.Certificate.{Certificate}
use Rattle.sheets.proofs.Closed.{Closed}
use Rattle.sheets.proofs.Decisions.{Decision, test_decided, not_decided, both_decided, Somewhere, somewhere_decided}
use Rattle.sheets.proofs.Leads.{SubjectLeads, leads_decided}
use Rattle.sheets.proofs.Lines.{Good, good_line}
use Rattle.sheets.proofs.Shown.{fact_decided, number_of}
use Rattle.sheets.proofs.Slots.{slots, slot_fact, in_slots, Within, leads_within}
use Rattle.sheets.specs.Facts.{Fact}
use Rattle.sheets.specs.Laws.{Covers}
use Rattle.sheets.specs.Sheets.{Line, certificate_at, ripe, fact_of, shows}
use mathlib.Core.List.{Memᴰ}

module _ (cs : List Certificate) (access : Access) (facts : List Fact) where
  -- a good line that shows something new
  abbrev pub NewLine : Type 0
  NewLine = (l : Line) × Good cs access facts l × (Memᴰ (shows cs l) facts → ⊥)

  -- the certificate is ripe, its subject leads to the house, and what it shows of the house is new
  abbrev Due : ℕ × ℕ → Type 0
  Due s =
      (ripe access facts (certificate_at cs s.0) ≡ true) ×
      (SubjectLeads facts (certificate_at cs s.0) s.1 × (Memᴰ (slot_fact cs s) facts → ⊥))

  due_decided : (s : ℕ × ℕ) → Decision (Due s)
  due_decided s =
      let c = certificate_at cs s.0 in
      both_decided (test_decided (ripe access facts c))
      (both_decided (leads_decided facts (subject_of c.statement).house (names_of (subject_of c.statement)) s.1) (not_decided (fact_decided (slot_fact cs s) facts)))

  due_line : (s : ℕ × ℕ) → Due s → NewLine
  due_line s (r, (leads, new)) =
      let (l, g, same) = good_line cs access facts s.0 s.1 r leads in
      (l, g, λ i. new (rw same at i))

  none_due : (houses : List ℕ) → Covers houses cs → Within houses facts → (Somewhere Due (slots cs houses) → ⊥) → Closed cs access facts
  none_due houses covers within none c i r m l =
      let (n, below, is) = number_of i in
      let known : Memᴰ m houses = leads_within within (covers c i) l in
      ⊎_elim (λ old. old) (λ new. absurd (none ((n, m), in_slots cs houses n m below known, rw is (r, (l, new))))) (fact_decided (fact_of c m) facts)

  pub next_line : (houses : List ℕ) → Covers houses cs → Within houses facts → NewLine ⊎ Closed cs access facts
  next_line houses covers within =
      ⊎_elim (λ (s, i, due). inl (due_line s due)) (λ none. inr (none_due houses covers within none))
      (somewhere_decided Due due_decided (slots cs houses))
