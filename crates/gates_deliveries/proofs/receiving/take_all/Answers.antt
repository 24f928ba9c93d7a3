use Rattle.std.proofs.Common.{◌<◌, length, Option, vec_items, sym, ap, ◌∙◌, arith}
use Rattle.gates_deliveries.proofs.Deliveries.{none_taken, one_taken, none_left, all_taken}
use Rattle.gates_deliveries.proofs.receiving.take_all.Goals as goal
use Rattle.gates.specs.Gates.{state_of}
use Rattle.std.proofs.Common.{ℕ, List}
use Rattle.std.proofs.lemmas.Bool.{eqb-true, eqb-false}
use Rattle.std.specs.Borrow.{Bor}
use Rattle.wire.specs.Numbers.{split}
use Rattle.wire.specs.declared.faults.Fault.{Fault}

pub loop-rest-init : goal.loop-rest-init
loop-rest-init c = none_taken (state_of c.args.gate) (vec_items c.args.answers.now) c.args.bytes.now

pub loop-rest-preserved : goal.loop-rest-preserved
loop-rest-preserved c =
    let some : 0 < length c.loop-rest.rest.now = omega (arith, eqb-false _ 0 (sym c.loop-rest-test.ensures)) in
    let next = state_of c.take_first-next.result.0 in
    one_taken (state_of c.args.gate) (state_of c.loop-rest.gate) next (vec_items c.args.answers.now) c.args.bytes.now
    (vec_items c.loop-rest.answers) (vec_items c.note-in-loop-rest.new.answers) c.in-Some.fault c.in-Some.behind.now c.loop-rest.rest.now c.loop-rest.invariant some (rw c.in-Some.is at c.take_first-next.ensures.shorter)
    (ap (λ (taken : Option (Option Fault × Bor (List ℕ))). (next, split taken)) (sym c.in-Some.is) ∙ c.take_first-next.ensures.value) c.in_ok-note-2.ensures

pub returns-in_default : goal.returns-in_default
returns-in_default c =
    let some : 0 < length c.loop-rest.rest.now = omega (arith, eqb-false _ 0 (sym c.loop-rest-test.ensures)) in
    let next = state_of c.take_first-next.result.0 in
    none_left (state_of c.args.gate) (state_of c.loop-rest.gate) next (vec_items c.args.answers.now) c.args.bytes.now
    (vec_items c.loop-rest.answers) (vec_items c.note.new.answers) c.loop-rest.rest.now c.loop-rest.invariant some
    (ap (λ (taken : Option (Option Fault × Bor (List ℕ))). (next, split taken)) (sym c.in_default.is) ∙ c.take_first-next.ensures.value) c.in_ok-note.ensures

pub returns : goal.returns
returns c =
    all_taken (state_of c.args.gate) (state_of c.loop-rest.gate) (vec_items c.args.answers.now) c.args.bytes.now (vec_items c.loop-rest.answers) c.loop-rest.rest.now
    c.loop-rest.invariant (eqb-true _ 0 (sym c.loop-rest-test.ensures))
