use Rattle.registry.specs.Numbered.{certificates_of}
use Rattle.sheets.proofs.memory.Shown.walk.Given as goal
use Rattle.sheets.specs.Memory.{remembered}
use Rattle.sheets.specs.Reading.{walk_by, walked_by}
use Rattle.std.proofs.Common.{◌≡◌, ◌+◌, ◌≤◌, length}
use Rattle.std.specs.Iterator.Adapters.{enumerate_count, enumerate_source, zip_first, zip_second}
use Rattle.std.specs.Slice.Iter.{iter_rest}

-- the steps that are left give the same as all
abbrev pub invariant-loop-step : goal.invariant-loop-step
invariant-loop-step l =
    let test = remembered (certificates_of l.self.registry.now) l.self.names.now in
    let pairs = enumerate_source l.step-iterator in
    record {
      few : enumerate_count l.step-iterator + length (iter_rest (zip_second pairs)) ≤ 6;
      same : walked_by test l.line ≡ walk_by test (enumerate_count l.step-iterator) l.at (iter_rest (zip_first pairs)) (iter_rest (zip_second pairs));
    }
