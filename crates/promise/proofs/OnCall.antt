-- The promise on the calls that take deliveries and answer requests. Assumes nothing.
use Rattle.std.proofs.Common.{◌≡◌, ℕ, ◌<◌, List, [], ◌∷◌, ◌++◌, IfOk, Ok, Err, Result, sym, refl, ap, ◌∙◌, subst, MatchResult}
use Rattle.promise.proofs.Opening.{opening}
use Rattle.promise.proofs.Promised.{main}
use Rattle.promise.specs.Promise.{Bytes, AllLetIn, KeptAnswer, EachLetIn, KeptAll, request_bytes}
use Rattle.promise.specs.Requests.{answer, receive, receive_all, after, run}
use Rattle.promise.specs.States.{State}
use Rattle.promise.specs.declared.answers.Answer.{Answer}
use Rattle.promise.specs.declared.answers.Answer.TheVariants.{Open}
use Rattle.std.proofs.ByRecursion.{All-append, All-push}
use Rattle.std.specs.List.{AllByRecursion}
use mathlib.Core.List.{Memᴰ}

-- what is known of an answer that was given
pub of_answer : {X E : Type 0} (r : Result X E) (P Q : X → Type 0) (R : E → Type 0) → ((x : X) → P x → Q x) → MatchResult r P R → IfOk r Q
of_answer (Ok x) P Q R f p = f x p
of_answer (Err e) P Q R f p = tt

-- more deliveries at the end
more_after : (g : State) (ds more : List (List ℕ)) → after g (ds ++ more) ≡ after (after g ds) more
unfolding after
more_after g [] more = refl
more_after g (d ∷ ds) more = more_after (receive g d).0 ds more

pub one_after : (g : State) (ds : List (List ℕ)) (d : List ℕ) → after g (ds ++ (d ∷ [])) ≡ (receive (after g ds) d).0
unfolding after
one_after g ds d = more_after g ds (d ∷ [])

-- taking them all leaves the gate after them
received_after : (g : State) (ds : List (List ℕ)) → (receive_all g ds).0 ≡ after g ds
unfolding receive_all after
received_after g [] = refl
received_after g (d ∷ ds) = received_after (receive g d).0 ds

every_kept : (owner : ℕ) → owner < 1024 → (ds : List (List ℕ)) → AllByRecursion Bytes ds → (g : State) → g ≡ run owner ds → AllLetIn owner ds g
every_kept owner known ds all g from house right small small-right may =
    let (lines, opens, few) = (main.0 owner known ds all).every house right small small-right may in
    (lines, ap (λ (h : State). (receive h (request_bytes house right lines)).1) from ∙ opens, few)

-- an answer is open only for a request, so it is the gate's answer to a delivery
pub answer_kept_lem : (g : State) (d : List ℕ) (answered : Answer) → g.owner < 1024 → Bytes d → answered ≡ answer g d → KeptAnswer g d answered
answer_kept_lem g d answered known small is ds all from opens =
    let given : Memᴰ Open (receive g d).1 = opening g d (sym is ∙ opens) in
    (main.0 g.owner known ds all).only d small (subst (λ (h : State). Memᴰ Open (receive h d).1) from given)

each_kept : (owner : ℕ) → owner < 1024 → (before ds : List (List ℕ)) → AllByRecursion Bytes before → AllByRecursion Bytes ds → (g : State) → g ≡ run owner before →
    EachLetIn owner before ds (receive_all g ds).1
unfolding receive_all EachLetIn
each_kept owner known before [] small-before small g from = refl
each_kept owner known before (d ∷ ds) small-before small g from = (
  (receive g d).1,
  (receive_all (receive g d).0 ds).1,
  refl,
  ap (λ (h : State). (receive h d).1) from,
  (λ open-there. (main.0 owner known before small-before).only d small.0
      (subst (λ (given : List Answer). Memᴰ Open given) (ap (λ (h : State). (receive h d).1) from) open-there)),
  each_kept owner known (before ++ (d ∷ [])) ds (All-push Bytes before d small-before small.0) small.1 (receive g d).0
      (ap (λ (h : State). (receive h d).0) from ∙ sym (one_after _ before d)),
)

pub all_kept : (g : State) (ds : List (List ℕ)) (g' : State) (answers : List Answer) → g.owner < 1024 → AllByRecursion Bytes ds → (g', answers) ≡ receive_all g ds → KeptAll g ds g' answers
all_kept g ds g' answers known small is =
    let goes : (before : List (List ℕ)) → g ≡ run g.owner before → g' ≡ run g.owner (before ++ ds)
    = λ before from. ap (λ (p : State × List Answer). p.0) is ∙ (received_after g ds ∙ (ap (λ (h : State). after h ds) from ∙ sym (more_after _ before ds))) in
    record {
      goes_on = goes;
      only = λ before all from. subst (EachLetIn g.owner before ds) (sym (ap (λ (p : State × List Answer). p.1) is)) (each_kept g.owner known before ds all small g from);
      every = λ before all from. every_kept g.owner known (before ++ ds) (All-append Bytes before ds all small) g' (goes before from);
    }
