-- A delivery, event by event: what is still to be read gives the same as the whole. Assumes nothing.
use Rattle.std.proofs.Common.{◌≡◌, ℕ, zero, suc, ◌<◌, ◌≤◌, List, [], ◌∷◌, ◌++◌, map, length, Some, None, Option, sym, refl, ap, ap₂, ◌∙◌, append-nil, arith}
use Rattle.gates.proofs.FirstRead.{read_taken, none_read}
use Rattle.gates.specs.Gates.{first_read}
use Rattle.promise.specs.States.{State, AfterEvent, first_taken, noting, deliver_within, deliver}
use Rattle.promise.proofs.Told.{told_noting}
use Rattle.std.specs.Option.{option_to_list}
use Rattle.promise.specs.Requests.{told}
use Rattle.promise.specs.declared.answers.Answer.{Answer}
use Rattle.promise.specs.declared.answers.Answer.TheVariants.{Refused}
use Rattle.wire.specs.Numbers.{Taken as Reads}
use Rattle.wire.specs.Reading.{Reading, event_read}
use Rattle.wire.specs.declared.faults.Fault.{Fault}
use Rattle.wire.specs.declared.faults.Fault.TheVariants.{Malformed}

-- some events were taken: the gate and the answers so far, and what is still to be read
pub record SoFar (before : State) (noted : List Answer) (s : List ℕ) (g : State) (answers : List Answer) (rest : List ℕ) : Type 0 where
  pub turns : ℕ
  pub enough : length rest ≤ turns
  pub same : told noted (deliver before s) ≡ told answers (deliver_within turns g rest)

pub none_taken : (g : State) (noted : List Answer) (s : List ℕ) → SoFar g noted s g noted s
none_taken g noted s = record { turns = length s; enough = omega arith; same = refl }

module _ (before g next : State) (noted : List Answer) (s : List ℕ) (answers more : List Answer) where
  -- one event more, and its fault where it has one
  pub one_taken : (fault : Option Fault) (behind rest : List ℕ) → SoFar before noted s g answers rest → 0 < length rest → length behind < length rest →
      ◌≡◌ {A = State × Reads (Option Fault)} (next, Some (fault, behind)) (first_read g (event_read rest)) → more ≡ answers ++ map Refused (option_to_list fault) →
      SoFar before noted s next more behind
  unfolding deliver_within
  one_taken fault behind [] so some less first added = let none : ⊥ = omega arith in absurd none
  one_taken fault behind (b ∷ rest) so some less first added = go so.turns so.enough so.same
    where
      go : (turns : ℕ) → length (b ∷ rest) ≤ turns → told noted (deliver before s) ≡ told answers (deliver_within turns g (b ∷ rest)) →
          SoFar before noted s next more behind
      go zero enough same = let none : ⊥ = omega arith in absurd none
      go (suc n) enough same =
          let (read, is, taken) = read_taken g next fault behind (event_read (b ∷ rest)) first in
          record {
            turns = n;
            enough = omega arith;
            same = same ∙ (ap (λ (r : Reading). told answers (first_taken g r (deliver_within n))) is
                ∙ (ap (λ (t : AfterEvent). told answers (noting t.1 (deliver_within n t.0 behind))) (sym taken)
                ∙ rw added (told_noting answers fault (deliver_within n next behind))));
          }

  -- nothing can be read, and that is told
  pub none_left : (rest : List ℕ) → SoFar before noted s g answers rest → 0 < length rest →
      ◌≡◌ {A = State × Reads (Option Fault)} (next, None) (first_read g (event_read rest)) → more ≡ answers ++ (Refused Malformed ∷ []) →
      (next, more) ≡ told noted (deliver before s)
  unfolding deliver_within
  none_left [] so some first added = let none : ⊥ = omega arith in absurd none
  none_left (b ∷ rest) so some first added = go so.turns so.enough so.same
    where
      go : (turns : ℕ) → length (b ∷ rest) ≤ turns → told noted (deliver before s) ≡ told answers (deliver_within turns g (b ∷ rest)) →
          (next, more) ≡ told noted (deliver before s)
      go zero enough same = let none : ⊥ = omega arith in absurd none
      go (suc n) enough same =
          let (unread, stays) = none_read g next (event_read (b ∷ rest)) first in
          ap₂ (λ (h : State) (given : List Answer). (h, given)) stays added
          ∙ sym (same ∙ ap (λ (r : Reading). told answers (first_taken g r (deliver_within n))) unread)

pub all_taken : (before g : State) (noted : List Answer) (s : List ℕ) (answers : List Answer) (rest : List ℕ) → SoFar before noted s g answers rest → length rest ≡ 0 →
    (g, answers) ≡ told noted (deliver before s)
unfolding deliver_within
all_taken before g noted s answers (b ∷ rest) so none = let never : ⊥ = omega arith in absurd never
all_taken before g noted s answers [] so none = sym (so.same ∙ ended so.turns)
  where
    ended : (turns : ℕ) → told answers (deliver_within turns g []) ≡ (g, answers)
    ended zero = ap (λ (fs : List Answer). (g, fs)) (append-nil answers)
    ended (suc n) = ap (λ (fs : List Answer). (g, fs)) (append-nil answers)
