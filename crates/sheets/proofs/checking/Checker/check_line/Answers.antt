use Rattle.std.proofs.Common.{sym, ap, ◌∙◌, arith}
use Rattle.certificates.proofs.Ranges.{ranged, counted_names}
use Rattle.registry.specs.Numbered.{certificates_of}
use Rattle.sheets.proofs.JudgedBy.{showing, judged_by_lem}
use Rattle.sheets.proofs.LinePassing.{last_known, sane_fact}
use Rattle.sheets.proofs.LineTaken.{line_taken}
use Rattle.sheets.proofs.Remembering.{remembers_more}
use Rattle.sheets.proofs.Stepping.{paired}
use Rattle.sheets.proofs.checking.Checker.check_line.Goals as goal
use Rattle.sheets.specs.Checking.{followed}
use Rattle.sheets.specs.Reading.{Kept}
use Rattle.sheets.specs.Sheets.{fact_of}
use Rattle.sheets.specs.declared.line.Line.{Line}
use Rattle.std.proofs.lemmas.Result.{err_from_is_err_and}
use Rattle.wire.specs.Numbers.{take_numbers, keep_six, and_then}

pub returns-in_err-judge_then_note : goal.returns-in_err-judge_then_note
returns-in_err-judge_then_note c facts remembers =
    let p = err_from_is_err_and c.from_residual.result c.from_residual.ensures.1 in
    let cs = certificates_of c.args.self.now.registry.now in
    let access = c.args.self.now.question.now.access in
    let certificate = c.in-Some-get.certificate in
    let got = c.in-Some-get.ensures in
    let houses = c.in-Some-read_u16s.houses in
    let line : Line = record { certificate = certificate; houses = houses; sound = got.2 } in
    let few = (ranged certificate.now got.2).subject.few_names in
    let (counted, named) = counted_names c.subject.ensures c.names-steps.ensures.value c.names-steps.ensures.many few in
    let judged = c.in_err-judge_then_note.ensures in
    rw (p.1, p.2) (
      line_taken cs access c.args.number facts c.args.bytes.now c.in-Some.named c.in-Some.rest.now certificate.now houses c.in-Some-read_u16s.rest.now
          c.in-Some.ensures got.0 got.1 few (c.in-Some-read_u16s.ensures ∙ ap (λ n. and_then (take_numbers n c.in-Some.rest.now) keep_six) counted)
          ∙ ap (followed c.in-Some-read_u16s.rest.now) (judged_by_lem remembers c.args.number access line got.2 (paired line named (grind (arith, few)))
          ∙ ap (showing certificate.now) (sym judged.value)),
      judged.names,
      judged.rights,
    )

pub returns : goal.returns
returns c facts remembers =
    let cs = certificates_of c.args.self.now.registry.now in
    let access = c.args.self.now.question.now.access in
    let certificate = c.in-Some-get.certificate in
    let got = c.in-Some-get.ensures in
    let kept : Kept cs certificate.now = record { number = c.in-Some.named; below = got.0; is = got.1; ranged = got.2 } in
    let houses = c.in-Some-read_u16s.houses in
    let line : Line = record { certificate = certificate; houses = houses; sound = got.2 } in
    let last = c.in_ok-judge_then_note.field-0 in
    let few = (ranged certificate.now got.2).subject.few_names in
    let (counted, named) = counted_names c.subject.ensures c.names-steps.ensures.value c.names-steps.ensures.many few in
    let judged = c.in_ok-judge_then_note.ensures in
    let fact = fact_of certificate.now last in
    let small = last_known cs _ _ c.args.number access line last kept (sym judged.value) in (
      fact,
      line_taken cs access c.args.number facts c.args.bytes.now c.in-Some.named c.in-Some.rest.now certificate.now houses c.in-Some-read_u16s.rest.now
          c.in-Some.ensures got.0 got.1 few (c.in-Some-read_u16s.ensures ∙ ap (λ n. and_then (take_numbers n c.in-Some.rest.now) keep_six) counted)
          ∙ ap (followed c.in-Some-read_u16s.rest.now) (judged_by_lem remembers c.args.number access line got.2 (paired line named (grind (arith, few)))
          ∙ ap (showing certificate.now) (sym judged.value)),
      rw (judged.names, judged.rights) (remembers_more fact (sane_fact cs certificate.now last kept small) remembers),
    )
