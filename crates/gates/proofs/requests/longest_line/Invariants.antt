use Rattle.gates.proofs.requests.longest_line.Given as goal
use Rattle.sheets.specs.Bytes.{longest_line}
use Rattle.std.proofs.Common.{◌≡◌, ◌≤◌, take}

abbrev pub invariant-loop-certificate : goal.invariant-loop-certificate
invariant-loop-certificate l = (l.longest ≡ longest_line (take l.certificate-index l.certificates)) × (l.longest ≤ 512)
