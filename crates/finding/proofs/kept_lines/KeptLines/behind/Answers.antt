use Rattle.std.proofs.Common.{◌-◌, ◌++◌, take, replicate, vec_len, ap, ap₂, ◌∙◌}
use Rattle.finding.proofs.Opening.{behind_head}
use Rattle.finding.proofs.kept_lines.KeptLines.behind.Goals as goal
use Rattle.finding.specs.Asking.{lines_of_kept, with_sheet}
use Rattle.registry.specs.Numbered.{certificates_of}

pub returns : goal.returns
returns c small h taken =
    let lines = lines_of_kept (certificates_of c.args.registry.now) c.args.self.now in
    behind_head c.args.head.now c.resize.new.self.items c.write.new.request _ _ lines c.resize.new.self.len
    (c.in_ok-resize.ensures.items ∙ ap₂ (λ n xs. take n xs ++ replicate (c.needed.result - vec_len c.in_ok-request.request) 0) c.needed.ensures c.in_ok-request.ensures.items)
    (c.in_ok-resize.ensures.len ∙ c.needed.ensures) (c.write.ensures ∙ ap (λ xs. with_sheet xs lines) c.as_mut_slice.ensures.value) small h taken
