-- A gate opens only to a request whose head is read and whose sheet is found to hold. Assumes nothing.
use Rattle.std.proofs.Common.{◌≡◌, ℕ, ◌*◌, Bool, true, false, cond, ◌&&◌, eqb, leb, List, [], ◌∷◌, map, length, Some, None, Ok, Err, Result, sym, refl, ap, ◌∙◌}
use Rattle.promise.specs.States.{State, deliver}
use Rattle.promise.specs.Happened.{is_request}
use Rattle.promise.specs.Requests.{Head, take_asked, take_head, question_of, decided, answer_head, answer, receive}
use Rattle.promise.specs.declared.answers.Answer.{Answer}
use Rattle.promise.specs.declared.answers.Answer.TheVariants.{Open, Refused}
use Rattle.sheets.proofs.Shown.{impossible}
use Rattle.sheets.specs.Passing.{check_for}
use Rattle.wire.proofs.Numerals.{byte_taken}
use Rattle.wire.specs.Numbers.{Taken, and_then}
use Rattle.wire.specs.declared.faults.Fault.{Fault}
use Rattle.wire.specs.declared.faults.Fault.TheVariants.{OutOfRange, TooManyLines}
use mathlib.Core.List.Memᴰ
use mathlib.Core.List.{Memᴰ}

-- the sheet that follows the head is found to hold
abbrev pub Found : State → Head → List ℕ → Type 0
Found g h rest = (check_for g.certificates (question_of g.day g.owner h) h.lines rest).1 ≡ Ok tt

passed_on : (t : Bool) (a : Answer) (fault : Fault) → Open ≡ cond t a (Refused fault) → Open ≡ a
passed_on true a fault e = e
passed_on false a fault e = impossible (cc)

decided_open : (r : Result (Unit {0}) Fault) → Open ≡ decided r → r ≡ Ok tt
decided_open (Ok u) e = refl
decided_open (Err fault) e = impossible (cc)

open_found : (g : State) (t : Taken Head) → Open ≡ answer_head g t → (h : Head) × (rest : List ℕ) × (t ≡ Some (h, rest)) × Found g h rest
open_found g None e = impossible (cc)
open_found g (Some p) e =
    let h = p.0 in
    let within = passed_on (leb h.house 1023 && leb h.right 63) _ OutOfRange e in
    (h, p.1, refl, decided_open _ (passed_on (leb h.lines (length g.certificates * 1024)) _ TooManyLines within))

-- among the answers to events none is open
asked_open : (t : Bool) (g later : State) (a : Answer) (faults : List Fault) →
    Memᴰ Open (cond {A = State × List Answer} t (g, a ∷ []) (later, map Refused faults)).1 → Open ≡ a
asked_open true g later a faults i = Memᴰ.eq_of_singleton i
asked_open false g later a faults i = let (fault, j, e) = Memᴰ.of_map Refused faults i in impossible (cc)

pub opened_found : (g : State) (d : List ℕ) → Memᴰ Open (receive g d).1 → (h : Head) × (rest : List ℕ) × (take_head d ≡ Some (h, rest)) × Found g h rest
opened_found g d i = open_found g (take_head d) (asked_open (is_request d) g _ (answer g d) (deliver g d).1 i)

-- only a request has a head
head_asks : (d : List ℕ) (t : Taken Head) → take_head d ≡ t → (p : Head × List ℕ) → t ≡ Some p → is_request d ≡ true
head_asks [] t is p some = impossible (cc)
head_asks (b ∷ s) t is p some = by_kind (eqb b 4) (sym (ap (λ x. and_then x λ kind rest. cond (eqb kind 4) (take_asked rest) None) (byte_taken b s)) ∙ (is ∙ some))
  where
    by_kind : (k : Bool) → cond k (take_asked s) None ≡ Some p → k ≡ true
    by_kind true e = refl
    by_kind false e = impossible (cc)

-- so what is answered by an open gate is received as a request
pub opening : (g : State) (d : List ℕ) → answer g d ≡ Open → Memᴰ Open (receive g d).1
opening g d opens =
    let (h, rest, read, found) = open_found g (take_head d) (sym opens) in
    let asks = head_asks d (take_head d) refl (h, rest) read in
    rw asks (Memᴰ.head (sym opens))
