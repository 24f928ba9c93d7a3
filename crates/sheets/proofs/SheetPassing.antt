-- From wiped memory to the answer: the start, the lines, and the conclusion. Assumes nothing.
use Rattle.std.proofs.Common.{◌≡◌, ℕ, ◌<◌, ◌≤◌, true, false, cond, ◌&&◌, ◌||◌, leb, List, [], ◌∷◌, length, replicate, Ok, Err, Result, sym, refl, ap, ◌∙◌, ap₂, arith}
use Rattle.certificates.specs.declared.Certificate.{Certificate}
use Rattle.facts.specs.Table.{with_bit}
use Rattle.sheets.proofs.Remembering.{right_shown}
use Rattle.sheets.specs.Checking.{lines_checked, concluded}
use Rattle.sheets.specs.Facts.{Fact}
use Rattle.sheets.specs.Memory.{Remembers, names_table, rights_table}
use Rattle.sheets.specs.Passing.{LinesPassed, entitled_by, concluded_by, askable, Wiped, Done}
use Rattle.sheets.specs.Sheets.{start}
use Rattle.sheets.specs.declared.checking.Question.{Question}
use Rattle.std.proofs.lemmas.Bool.{and_parts, leb-true}
use Rattle.wire.specs.declared.faults.Fault.{Fault}
use Rattle.wire.specs.declared.faults.Fault.TheVariants.{HouseNotShown}

module _ (cs : List Certificate) (q : Question) (few : length cs ≤ 1024) (ok : askable q ≡ true) where
  owner_known : q.access.owner < 1024
  owner_known =
      let (owner, rest) = and_parts (leb q.access.owner 1023) (leb q.house 1023 && leb q.access.right 63) ok in
      omega (arith, leb-true q.access.owner 1023 owner)

  house_known : q.house < 1024
  house_known =
      let (owner, rest) = and_parts (leb q.access.owner 1023) (leb q.house 1023 && leb q.access.right 63) ok in
      let (house, right) = and_parts (leb q.house 1023) (leb q.access.right 63) rest in
      omega (arith, leb-true q.house 1023 house)

  -- at the start the owner's right is remembered, and nothing else
  pub start_remembered : (memory : List ℕ) → Wiped memory → Remembers cs (start q.access.owner) memory (with_bit (replicate 32 0) 0 q.access.owner)
  unfolding names_table rights_table
  start_remembered memory wiped = record { names_are = wiped.zeros; rights_are = refl; sane = (owner_known, tt); long = wiped.long; few = few }

  module _ (count : ℕ) (s memory memory' rights rights' : List ℕ) (wiped : Wiped memory) (begun : rights ≡ with_bit (replicate 32 0) 0 q.access.owner) where
    begin : Remembers cs (start q.access.owner) memory rights
    begin = rw begun (start_remembered memory wiped)

    pub faulty_sheet : (fault : Fault) → LinesPassed cs q count s memory rights memory' rights' (Err fault) → Done cs q count s memory' (Err fault)
    faulty_sheet fault passed =
        let (is, remembers) = passed (start q.access.owner) begin in
        record { answer = sym (ap (concluded q.house (lines_checked cs q.access count 0 (start q.access.owner) s).0) is); holds = remembers.names_are }

    conclusion : (facts : List Fact) → Remembers cs facts memory' rights' → (rest : List ℕ) → concluded_by (entitled_by rights' q.house) rest ≡ concluded q.house facts (Ok rest)
    conclusion facts r (b ∷ rest) = refl
    conclusion facts r [] =
        ap (λ b. cond b (Ok tt) (Err HouseNotShown)) (sym (ap₂ (λ a b. a || b) (right_shown r true q.house house_known) (right_shown r false q.house house_known)))

    pub concluded_sheet : (rest : List ℕ) (answer : Result (Unit {0}) Fault) → LinesPassed cs q count s memory rights memory' rights' (Ok rest) →
        answer ≡ concluded_by (entitled_by rights' q.house) rest → Done cs q count s memory' answer
    concluded_sheet rest answer passed is =
        let (read, remembers) = passed (start q.access.owner) begin in
        let facts = (lines_checked cs q.access count 0 (start q.access.owner) s).0 in
        record { answer = is ∙ (conclusion facts remembers rest ∙ sym (ap (concluded q.house facts) read)); holds = remembers.names_are }
