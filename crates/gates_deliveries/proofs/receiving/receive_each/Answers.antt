use Rattle.std.proofs.Common.{◌<◌, take, vec_items, arith}
use Rattle.gates_deliveries.proofs.InOrder.{none_along, one_along, one_more, stopped}
use Rattle.gates_deliveries.proofs.receiving.receive_each.Goals as goal
use Rattle.gates_deliveries.specs.Lists.{bytes_of}
use Rattle.gates.specs.Gates.{state_of}
use Rattle.promise.proofs.OnCall.{all_kept}
use Rattle.std.proofs.lemmas.List.{take_all}
use Rattle.std.proofs.lemmas.Result.{err_from_is_err_and}

pub loop-delivery-init : goal.loop-delivery-init
loop-delivery-init c = none_along (state_of c.args.gate) c.args.memory.now (vec_items c.new-answers.result) c.new-answers.ensures.items

pub returns-in_err-gate : goal.returns-in_err-gate
returns-in_err-gate c =
    let p = err_from_is_err_and c.from_residual.result c.from_residual.ensures.1 in
    let ds = c.args.deliveries.now in
    let i = c.loop-delivery.delivery-index in
    rw (p.1, p.2)
    (record {
      value = stopped ds i c.delivery-item.result c.as_slice.result.now c.loop-delivery-test.true c.delivery-item.is c.as_slice.ensures.value
          c.in_err-gate.field-0.0 (state_of c.args.gate) (state_of c.loop-delivery.gate)
          (vec_items c.loop-delivery.answers) c.args.memory.now c.loop-delivery.memory c.take_delivery.new.memory c.loop-delivery.invariant c.loop-delivery.auto.memory
          c.in_err-gate.ensures.value c.in_err-gate.ensures.memory;
      memory = tt;
      promised = tt;
    })

pub loop-delivery-preserved : goal.loop-delivery-preserved
loop-delivery-preserved c =
    let ds = c.args.deliveries.now in
    let i = c.loop-delivery.delivery-index in
    let d = c.as_slice.result.now in
    rw (one_more ds i c.delivery-item.result d c.loop-delivery-test.true c.delivery-item.is c.as_slice.ensures.value)
    (one_along (state_of c.args.gate) c.args.memory.now (bytes_of (take i ds)) (state_of c.loop-delivery.gate) (state_of c.in_ok-gate.gate)
    (vec_items c.loop-delivery.answers) (vec_items c.take_delivery.new.answers) c.loop-delivery.memory c.take_delivery.new.memory d
    c.take_delivery.ensures.bytes c.loop-delivery.invariant c.in_ok-gate.ensures.value c.in_ok-gate.ensures.memory)

pub returns : goal.returns
returns c =
    let gate = c.args.gate in
    let ds = c.args.deliveries.now in
    let known : gate.owner < 1024 = omega (arith, gate.known) in
    let so = rw (take_all c.loop-delivery.delivery-index ds c.loop-delivery-test.false) at c.loop-delivery.invariant in
    record {
      value = so.same;
      memory = so.left;
      promised = all_kept (state_of gate) (bytes_of ds) (state_of c.loop-delivery.gate) (vec_items c.loop-delivery.answers) known so.small so.same;
    }
