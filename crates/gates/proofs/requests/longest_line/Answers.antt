use Rattle.gates.proofs.Keeping.{longest_more}
use Rattle.gates.proofs.requests.longest_line.Goals as goal
use Rattle.sheets.specs.Bytes.{longest_line}
use Rattle.std.proofs.Common.{◌≡◌, ◌∙◌, ℕ, max, nat_cmp, refl, arith}
use Rattle.std.specs.Ordering.{ord_max}
use Rattle.std.proofs.lemmas.Grind.{common_steps}

larger : (a b : ℕ) → ord_max nat_cmp a b ≡ max a b
larger a b = grind (arith, common_steps)

pub loop-certificate-init : goal.loop-certificate-init
unfolding longest_line
loop-certificate-init c = (refl, omega arith)

pub loop-certificate-preserved : goal.loop-certificate-preserved
loop-certificate-preserved c =
    let is = c.max-longest.ensures ∙ larger c.loop-certificate.longest c.line_size.result in
    let most = longest_more c.args.certificates.now c.loop-certificate.certificate-index _ c.loop-certificate-test.true c.loop-certificate.invariant.0 c.line_size.ensures.value in
    (is ∙ most, omega (arith, is, c.loop-certificate.invariant.1, c.line_size.ensures.small))
