use Rattle.std.proofs.Common.{◌++◌, take, ap₂, ◌∙◌, arith}
use Rattle.finding.proofs.writing.write_count.Goals as goal
use Rattle.wire.proofs.BigEndian.{bytes_of_4}
use borrow.Rule.Slice.PartMut.{Post-is}

pub returns : goal.returns
returns c =
    ap₂ (λ xs ys. take 4 c.args.request.now ++ (xs ++ ys)) (c.copy_from_slice.ensures.after ∙ (c.to_be_bytes.ensures ∙ bytes_of_4 c.args.count)) (Post-is 4 8 c.args.request.now (omega arith))
