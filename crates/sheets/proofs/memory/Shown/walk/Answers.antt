use Rattle.registry.specs.Numbered.{certificates_of}
use Rattle.sheets.proofs.Stepping.{step_more, step_not, steps_all}
use Rattle.sheets.proofs.memory.Shown.walk.Goals as goal
use Rattle.sheets.specs.Memory.{remembered}
use Rattle.std.proofs.Common.{Some, None, sym, refl, ap, ◌∙◌, length, arith}
use Rattle.std.proofs.lemmas.Slice.Zip.{Zip-more, either_empty_from_Zip}
use Rattle.std.specs.Iterator.Adapters.{enumerate_source}

pub returns-in_default : goal.returns-in_default
returns-in_default c =
    let test = remembered (certificates_of c.args.self.now.registry.now) c.args.self.now.names.now in
    let (taken, at, counted, fits) = c.in-Some.ensures.steps in
    let (more, further) = Zip-more (enumerate_source c.loop-step.step-iterator) (enumerate_source c.next.new.self) (Some (c.in-Some.name, c.in-Some.house)) (c.in-Some.name, c.in-Some.house) refl taken in
    rw at (sym (c.loop-step.invariant.same ∙ step_not test _ c.loop-step.at _ _ c.in-Some.name.now c.in-Some.house.now _ _ more further c.in_default.ensures))

pub loop-step-preserved : goal.loop-step-preserved
loop-step-preserved c =
    let test = remembered (certificates_of c.args.self.now.registry.now) c.args.self.now.names.now in
    let (taken, at, counted, fits) = c.in-Some.ensures.steps in
    let (more, further) = Zip-more (enumerate_source c.loop-step.step-iterator) (enumerate_source c.next.new.self) (Some (c.in-Some.name, c.in-Some.house)) (c.in-Some.name, c.in-Some.house) refl taken in
    record {
      few = omega (arith, c.loop-step.invariant.few, counted, ap length further);
      same = rw counted (c.loop-step.invariant.same ∙ step_more test _ c.loop-step.at _ _ c.in-Some.name.now c.in-Some.house.now _ _ more further c.in-Some-step.reached c.in-Some-step.ensures);
    }

pub returns : goal.returns
returns c =
    let test = remembered (certificates_of c.args.self.now.registry.now) c.args.self.now.names.now in
    let ended = either_empty_from_Zip (enumerate_source c.loop-step.step-iterator) (enumerate_source c.next.new.self) None refl c.in-None.ensures.steps.0 in
    sym (c.loop-step.invariant.same ∙ steps_all test _ c.loop-step.at _ _ ended)
