-- The days on which a house may, after the deliveries by which a gate came about. Assumes nothing.
use Rattle.certificates.specs.Access.{on_day}
use Rattle.std.proofs.Common.{ℕ, ◌↔◌, List, Ok, Err, vec_items, Vec, Result, subst}
use Rattle.certificates.specs.Meaning.{May}
use Rattle.promise.specs.Requests.{asked, question_of, run}
use Rattle.finding.specs.declared.sheets_found.Unfound.{Unfound}
use Rattle.inquiries.specs.Days.{MayOn, SpansTold, DaysTold, DaysAfter, DaysKept}
use Rattle.inquiries.specs.Spans.{SpansOf}
use Rattle.inquiries.specs.declared.spans.Span.{Span}
use Rattle.promise.proofs.Ran.{ran}
use Rattle.promise.specs.Happened.{happened, standing}
use Rattle.promise.specs.Promise.{Bytes}
use Rattle.promise.specs.States.{State}
use Rattle.promise.specs.declared.heads.Head.{Head}
use Rattle.std.specs.List.{AllByRecursion}
use Rattle.std.specs.declared.alloc.Global.{Global}

-- the same days for the same property
spans_as : (P Q : ℕ → Type 0) (spans : List Span) → ((day : ℕ) → P day ↔ Q day) → SpansOf P spans → SpansOf Q spans
spans_as P Q spans same s = record {
  apart = s.apart;
  exact = λ day below. ((λ c. (same day).0 ((s.exact day below).0 c)), (λ q. (s.exact day below).1 ((same day).1 q)));
}

days_here : (owner : ℕ) (ds : List (List ℕ)) → AllByRecursion Bytes ds → (h : Head) (names numbers : List ℕ) (r : Result (Vec Span Global) Unfound) →
    SpansTold (run owner ds).certificates (question_of (run owner ds).day owner h) names numbers r → DaysAfter owner ds h r
days_here owner ds small h names numbers (Ok spans) told =
    let cs = (run owner ds).certificates in
    spans_as (MayOn cs (question_of (run owner ds).day owner h)) (λ day. May (standing (happened ds)) (on_day day (asked owner h)) h.house) (vec_items spans)
    (λ day. (ran owner ds small).same_may (on_day day (asked owner h)) h.house) told
days_here owner ds small h names numbers (Err e) told = tt

pub days_kept : (g : State) (asked : Result Head Unfound) (names numbers : List ℕ) (r : Result (Vec Span Global) Unfound) → DaysTold g names numbers r asked → DaysKept g asked r
days_kept g (Err e) names numbers r told = tt
days_kept g (Ok h) names numbers r told = λ ds small from.
    days_here g.owner ds small h names numbers r (subst (λ (x : State). SpansTold x.certificates (question_of x.day g.owner h) names numbers r) from told)
