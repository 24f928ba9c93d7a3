-- Pieces of a delivery join to the whole. Assumes nothing.
use Rattle.std.proofs.Common.{◌≡◌, ℕ, ◌<◌, Bool, true, false, eqb, List, [], ◌∷◌, ◌++◌, Some, None, Option, sym, refl, ap, ◌∙◌, append_assoc, append-nil}
use Rattle.gates_pieces.proofs.PieceByPiece.{Taken}
use Rattle.gates_pieces.specs.Pieces.{gone_on, holds_events, KeptPiece, PiecesJoin}
use Rattle.promise.proofs.OnCall.{one_after}
use Rattle.promise.specs.Promise.{Bytes}
use Rattle.promise.specs.Requests.{receive, run}
use Rattle.promise.specs.States.{State, deliver, deliver_within, fresh_gate}
use Rattle.promise.specs.declared.answers.Answer.{Answer}
use Rattle.sheets.proofs.LineRead.{bytes_rest}
use Rattle.sheets.proofs.Shown.{impossible}
use Rattle.std.proofs.ByRecursion.{All-append}
use Rattle.std.proofs.lemmas.Bool.{not-true}

-- answers are told apart from the gate
same_gate : (g : State) (answers : List Answer) (rest : Option (List ℕ)) (more : List ℕ) → (gone_on g answers rest more).0 ≡ (gone_on g [] rest more).0
same_gate g answers None more = refl
same_gate g answers (Some rest) more = refl

pub piece_kept : (g : State) (answers : List Answer) (piece : List ℕ) (last : Bool) (g' : State) (answers' : List Answer) (rest : Option (List ℕ)) →
    Taken g answers piece last g' answers' rest → KeptPiece g piece last g' rest
piece_kept g answers piece last g' answers' rest t owner ds front left fresh is way more small follows events =
    let fresh_small : Bytes fresh = bytes_rest left fresh (rw is at t.bytes) in
    let joins : (front ++ fresh) ++ more ≡ front ++ (fresh ++ more) = append_assoc front fresh more in
    rw joins
    (way (fresh ++ more) (All-append (λ b. b < 256) fresh more fresh_small small) (λ never. never_true never) (rw joins at events)
    ∙ (ap (λ (s : List ℕ). (deliver g s).0) (sym (append_assoc left fresh more) ∙ ap (λ (s : List ℕ). s ++ more) (sym is))
    ∙ (ap (λ (p : State × List Answer). p.0) (t.whole more small follows) ∙ same_gate g' answers' rest more)))
  where
    never_true : {A : Type 0} → ◌≡◌ {A = Bool} false true → A
    never_true e = impossible (cc)

received : (g : State) (d : List ℕ) → holds_events d ≡ true → (receive g d).0 ≡ (deliver g d).0
unfolding deliver_within
received g [] events = refl
received g (b ∷ s) events = rw (not-true (eqb b 4) events)

pub pieces_join : PiecesJoin
unfolding deliver_within
pieces_join = record {
  begins = λ owner ds more small follows events. one_after (fresh_gate owner) ds more ∙ received (run owner ds) more events;
  ends = λ owner ds d g events way. sym (ap (λ (s : List ℕ). run owner (ds ++ (s ∷ []))) (sym (append-nil d)) ∙ way [] tt (λ is. refl) (rw append-nil events));
  stops = λ owner ds front last g more small follows events way. sym (way more small follows events);
}
