use Rattle.std.proofs.Common.{ℕ, false, List, Some, None, Option, vec_items, sym, refl, ap, ◌∙◌, inl, inr, ⊎_elim, arith}
use Rattle.gates.proofs.FirstRead.{none_read}
use Rattle.gates.specs.Gates.{state_of}
use Rattle.gates_pieces.proofs.Joined.{piece_kept}
use Rattle.gates_pieces.proofs.PieceByPiece.{none_taken, one_taken, reading_ends, piece_ends, filled, sure_end, unsettled, empty}
use Rattle.gates_pieces.proofs.take_piece.Goals as goal
use Rattle.gates_pieces.proofs.take_piece.Goals.{then-loop-gate-test+else-not-is_empty, else-loop-gate-test}
use Rattle.std.specs.Borrow.{Bor}
use Rattle.wire.proofs.Exact.{bytes_of_slice}
use Rattle.wire.specs.Numbers.{split}
use Rattle.wire.specs.Reading.{event_read}
use Rattle.wire.specs.declared.faults.Fault.{Fault}

pub loop-gate-init : goal.loop-gate-init
loop-gate-init c = (
  none_taken (state_of c.args.gate) (vec_items c.args.answers.now) c.args.piece.now c.args.last
      (bytes_of_slice c.args.piece.now c.type_inv.piece),
  refl,
)

pub loop-gate-preserved : goal.loop-gate-preserved
loop-gate-preserved c =
    let next = state_of c.take_first-next.result.0 in (
      one_taken (state_of c.args.gate) (state_of c.loop-gate.gate) next (vec_items c.args.answers.now) c.args.piece.now c.args.last
          (vec_items c.loop-gate.answers) c.loop-gate.rest.now c.loop-gate.invariant.0 (filled c.loop-gate.rest.now (sym c.if-not-is_empty.ensures)) c.in-Some.fault c.in-Some.behind.now
          (ap (λ (taken : Option (Option Fault × Bor (List ℕ))). (next, split taken)) (sym c.in-Some.is) ∙ c.take_first-next.ensures.value)
          (vec_items c.note_within-in-loop-gate.new.answers) c.note_within-in-loop-gate.ensures.items,
      c.note_within-in-loop-gate.ensures.room ∙ c.loop-gate.invariant.1,
    )

-- nothing can be read yet
pub returns-then-not-is_settled : goal.returns-then-not-is_settled
returns-then-not-is_settled c =
    let gate = state_of c.args.gate in
    let before = vec_items c.args.answers.now in
    let after = vec_items c.loop-gate.answers in
    let piece = c.args.piece.now in
    let rest = c.loop-gate.rest.now in
    let (unread, stays) = none_read (state_of c.loop-gate.gate) (state_of c.take_first-next.result.0) (event_read rest)
    (ap (λ (taken : Option (Option Fault × Bor (List ℕ))). (state_of c.take_first-next.result.0, split taken)) (sym c.in_default.is) ∙ c.take_first-next.ensures.value) in
    let taken = piece_ends gate (state_of c.take_first-next.result.0) before piece c.args.last after rest
    (bytes_of_slice piece c.type_inv.piece) (rw stays c.loop-gate.invariant.0) in
    record {
      taken = taken.whole;
      behind = taken.behind;
      until = inr (unsettled rest c.args.last unread (sym c.if-not-is_settled.ensures));
      fewer = omega (arith, taken.fewer, c.loop-gate.answers.ok.0, c.args.answers.now.ok.0);
      room = c.loop-gate.invariant.1;
      promised = piece_kept gate before piece c.args.last (state_of c.take_first-next.result.0) after (Some rest) taken;
    }

-- nothing ever can
pub returns-in_default : goal.returns-in_default
returns-in_default c =
    let gate = state_of c.args.gate in
    let next = state_of c.take_first-next.result.0 in
    let before = vec_items c.args.answers.now in
    let after = vec_items c.note_within.new.answers in
    let piece = c.args.piece.now in
    let rest = c.loop-gate.rest.now in
    let taken = reading_ends gate (state_of c.loop-gate.gate) next before piece c.args.last (vec_items c.loop-gate.answers) rest c.loop-gate.invariant.0
    (filled rest (sym c.if-not-is_empty.ensures)) after (bytes_of_slice piece c.type_inv.piece)
    (ap (λ (taken : Option (Option Fault × Bor (List ℕ))). (next, split taken)) (sym c.in_default.is) ∙ c.take_first-next.ensures.value)
    (sure_end rest c.args.last (sym c.if-not-is_settled.ensures)) c.note_within.ensures.items in
    record {
      taken = taken.whole;
      behind = taken.behind;
      until = tt;
      fewer = omega (arith, taken.fewer, c.note_within.new.answers.ok.0, c.args.answers.now.ok.0);
      room = c.note_within.ensures.room ∙ c.loop-gate.invariant.1;
      promised = piece_kept gate before piece c.args.last next after None taken;
    }

pub returns : goal.returns
returns c =
    let gate = state_of c.args.gate in
    let before = vec_items c.args.answers.now in
    let after = vec_items c.loop-gate.answers in
    let piece = c.args.piece.now in
    let rest = c.loop-gate.rest.now in
    let taken = piece_ends gate (state_of c.loop-gate.gate) before piece c.args.last after rest
    (bytes_of_slice piece c.type_inv.piece) c.loop-gate.invariant.0 in
    record {
      taken = taken.whole;
      behind = taken.behind;
      until = elim c.loop-gate-test.branch [
        | then-loop-gate-test+else-not-is_empty w ↦ inr (empty rest c.args.last (sym w.if-not-is_empty.ensures))
        | else-loop-gate-test w ↦ inl (omega (arith, w.loop-gate-test.false, c.len.ensures, c.capacity.ensures, c.loop-gate.invariant.1))
      ];
      fewer = omega (arith, taken.fewer, c.loop-gate.answers.ok.0, c.args.answers.now.ok.0);
      room = c.loop-gate.invariant.1;
      promised = piece_kept gate before piece c.args.last (state_of c.loop-gate.gate) after (Some rest) taken;
    }
