use Rattle.inquiries.proofs.Sooner.{next_begin}
use Rattle.inquiries.proofs.changes.next_begin.Goals as goal
use Rattle.registry.specs.Numbered.{certificates_of}

pub returns : goal.returns
returns c = rw (c.soonest.ensures, c.certificates.ensures.value) (next_begin c.args.day (certificates_of c.args.registry.now) c.ranges.day.fits)
