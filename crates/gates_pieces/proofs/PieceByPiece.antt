-- Events of a piece, whatever follows it. Assumes nothing.
use Rattle.std.proofs.Common.{◌≡◌, ℕ, zero, suc, ◌+◌, ◌<◌, ◌≤◌, Bool, true, false, not, ◌&&◌, ◌||◌, eqb, leb, ◌⊎◌, List, [], ◌∷◌, ◌++◌, map, length, Some, None, Ok, Err, Option, Result, sym, refl, ap, ◌∙◌, ap₂, inl, inr, ⊎_elim, append_assoc, append-nil, arith, length-append}
use Rattle.gates.proofs.FirstRead.{read_taken, none_read}
use Rattle.gates.specs.Gates.{first_read}
use Rattle.gates_pieces.specs.Pieces.{PieceTaken, left_length, StandsLast, is_ready}
use Rattle.promise.proofs.Readable.{rest_bytes}
use Rattle.promise.proofs.Shorter.{shorter}
use Rattle.promise.proofs.Told.{told_noting}
use Rattle.promise.specs.Promise.{Bytes}
use Rattle.promise.specs.Requests.{told}
use Rattle.promise.specs.States.{State, AfterEvent, take_read, first_taken, Delivered, noting, deliver_within, deliver}
use Rattle.promise.specs.declared.answers.Answer.{Answer}
use Rattle.promise.specs.declared.answers.Answer.TheVariants.{Refused}
use Rattle.std.proofs.ByRecursion.{All-append}
use Rattle.std.proofs.lemmas.Bool.{eqb-false, or_cases, or_right}
use Rattle.std.specs.Option.{option_to_list}
use Rattle.wire.proofs.Exact.{exactly}
use Rattle.wire.proofs.Longest as longest
use Rattle.wire.specs.Exact.{Exactly, fields_bytes}
use Rattle.wire.specs.Format.{bytes_of_event}
use Rattle.wire.specs.Numbers.{Taken as Reads}
use Rattle.wire.specs.Reading.{Reading, event_read}
use Rattle.wire.specs.Settled.{settles, followed_by}
use Rattle.wire.specs.declared.events.Event.{Event}
use Rattle.wire.specs.declared.faults.Fault.{Fault}
use Rattle.wire.specs.declared.faults.Fault.TheVariants.{Malformed}

-- what follows an event that was read are the last bytes
left_last : (s : List ℕ) (read : Result Event Fault) (rest : List ℕ) → Exactly s (Some (read, rest)) → StandsLast s (Some rest)
left_last s (Ok e) rest exact = (bytes_of_event e, ((exact.reads e rest).0 refl).1)
left_last s (Err fault) rest exact =
    let (f, fits, faulty, is) = ((exact.refuses fault rest).0 refl).1 in
    (1 ∷ fields_bytes f, is)

-- what is done with the rest counts only for the rest that there is
taken_alike : (g : State) (r : Reading) (f h : State → List ℕ → Delivered) →
    ((next : State) (read : Result Event Fault) (rest : List ℕ) → r ≡ Some (read, rest) → f next rest ≡ h next rest) → first_taken g r f ≡ first_taken g r h
taken_alike g None f h same = refl
taken_alike g (Some p) f h same = ap (noting (take_read g p.0).1) (same (take_read g p.0).0 p.0 p.1 refl)

-- the rest of some bytes is bytes, and fewer
module _ (b : ℕ) (s : List ℕ) (small : Bytes (b ∷ s)) (read : Result Event Fault) (rest : List ℕ) (is : event_read (b ∷ s) ≡ Some (read, rest)) where
  abbrev exact : Exactly (b ∷ s) (Some (read, rest))
  exact = rw is at (exactly (b ∷ s) small)

  behind_bytes : Bytes rest
  behind_bytes = rest_bytes (b ∷ s) read rest exact small

  behind_shorter : length rest ≤ length s
  behind_shorter = omega (arith, shorter (b ∷ s) read rest exact)

-- turns beyond the number of bytes change nothing
same_turns : (n m : ℕ) (g : State) (s : List ℕ) → Bytes s → length s ≤ n → length s ≤ m → deliver_within n g s ≡ deliver_within m g s
unfolding deliver_within
same_turns zero zero g s small p q = refl
same_turns zero (suc m) g [] small p q = refl
same_turns zero (suc m) g (b ∷ s) small p q = let none : ⊥ = omega arith in absurd none
same_turns (suc n) zero g [] small p q = refl
same_turns (suc n) zero g (b ∷ s) small p q = let none : ⊥ = omega arith in absurd none
same_turns (suc n) (suc m) g [] small p q = refl
same_turns (suc n) (suc m) g (b ∷ s) small p q =
    taken_alike g (event_read (b ∷ s)) (deliver_within n) (deliver_within m)
    (λ next read rest is. same_turns n m next rest (behind_bytes b s small read rest is) (omega (arith, behind_shorter b s small read rest is)) (omega (arith, behind_shorter b s small read rest is)))

-- a delivery is its first event, and then the rest
deliver_first : (g : State) (s : List ℕ) → Bytes s → 0 < length s → deliver g s ≡ first_taken g (event_read s) deliver
unfolding deliver_within
deliver_first g [] small some = let none : ⊥ = omega arith in absurd none
deliver_first g (b ∷ s) small some =
    taken_alike g (event_read (b ∷ s)) (deliver_within (length s)) deliver
    (λ next read rest is. same_turns (length s) (length rest) next rest (behind_bytes b s small read rest is) (behind_shorter b s small read rest is) (omega arith))

nothing_follows : (r : Reading) → r ≡ followed_by [] r
nothing_follows None = refl
nothing_follows (Some p) = ap (λ (rest : List ℕ). Some (p.0, rest)) (sym (append-nil p.1))

-- the bytes settle what stands first, or nothing follows them
read_first : (s more : List ℕ) → Bytes s → Bytes more → (settles s ≡ true) ⊎ (more ≡ []) → event_read (s ++ more) ≡ followed_by more (event_read s)
read_first s more small small-more (inl sure) = longest.settled s more small small-more sure
read_first s more small small-more (inr none) = rw (none, append-nil s) (nothing_follows (event_read s))

-- a piece was taken; there are no more answers than bytes, since each is to an event, which has at least one
pub record Taken (g : State) (answers : List Answer) (piece : List ℕ) (last : Bool) (g' : State) (answers' : List Answer) (rest : Option (List ℕ)) : Type 0 where
  pub bytes : Bytes piece
  pub whole : PieceTaken g answers piece last g' answers' rest
  pub behind : StandsLast piece rest
  pub fewer : length answers' + left_length rest ≤ length answers + length piece

-- some events of a piece were taken: whatever follows, the rest gives the same as the whole
pub record SoFar (before : State) (noted : List Answer) (piece : List ℕ) (last : Bool) (g : State) (answers : List Answer) (rest : List ℕ) : Type 0 where
  pub small : Bytes rest
  pub behind : StandsLast piece (Some rest)
  pub fewer : length answers + length rest ≤ length noted + length piece
  pub same : (more : List ℕ) → Bytes more → (last ≡ true → more ≡ []) → told noted (deliver before (piece ++ more)) ≡ told answers (deliver g (rest ++ more))

pub none_taken : (g : State) (answers : List Answer) (piece : List ℕ) (last : Bool) → Bytes piece → SoFar g answers piece last g answers piece
none_taken g answers piece last small = record { small = small; behind = ([], refl); fewer = omega arith; same = λ more small-more follows. refl }

module _ (before g next : State) (noted : List Answer) (piece : List ℕ) (last : Bool) (answers : List Answer) (rest : List ℕ)
    (so : SoFar before noted piece last g answers rest) (some : 0 < length rest) where
  -- whatever follows, what is left begins with what is read of it now
  first_step : (more : List ℕ) → Bytes more → (last ≡ true → more ≡ []) → (settles rest ≡ true) ⊎ (last ≡ true) →
      told noted (deliver before (piece ++ more)) ≡ told answers (first_taken g (followed_by more (event_read rest)) deliver)
  first_step more small-more follows sure =
      let long : 0 < length (rest ++ more) = simp length-append (omega (arith, some)) in
      so.same more small-more follows
      ∙ ap (told answers)
      (deliver_first g (rest ++ more) (All-append (λ b. b < 256) rest more so.small small-more) long
      ∙ ap (λ (r : Reading). first_taken g r deliver) (read_first rest more so.small small-more (⊎_elim inl (λ is. inr (follows is)) sure)))

  module _ (fault : Option Fault) (behind : List ℕ) (taken : ◌≡◌ {A = State × Reads (Option Fault)} (next, Some (fault, behind)) (first_read g (event_read rest))) where
    abbrev what : (read : Result Event Fault) × (event_read rest ≡ Some (read, behind)) × (◌≡◌ {A = AfterEvent} (next, fault) (take_read g read))
    what = read_taken g next fault behind (event_read rest) taken

    exact_rest : Exactly rest (Some (what.0, behind))
    exact_rest = rw what.1 at (exactly rest so.small)

    one_step : (more : List ℕ) → Bytes more → (last ≡ true → more ≡ []) →
        told noted (deliver before (piece ++ more)) ≡ told answers (noting fault (deliver next (behind ++ more)))
    one_step more small-more follows =
        let sure : settles rest ≡ true = rw what.1 refl in
        first_step more small-more follows (inl sure)
        ∙ (ap (λ (r : Reading). told answers (first_taken g (followed_by more r) deliver)) what.1
        ∙ ap (λ (t : AfterEvent). told answers (noting t.1 (deliver t.0 (behind ++ more)))) (sym what.2))

    rest_last : StandsLast piece (Some behind)
    rest_last =
        let (front, is) = so.behind in
        let (first, left) = left_last rest what.0 behind exact_rest in
        (front ++ first, is ∙ (ap (λ (s : List ℕ). front ++ s) left ∙ sym (append_assoc front first behind)))

    -- an event has at most one answer
    answered_once : (more-answers : List Answer) → more-answers ≡ answers ++ map Refused (option_to_list fault) → length more-answers ≤ length answers + 1
    answered_once more-answers added = by_fault fault added
      where
        by_fault : (o : Option Fault) → more-answers ≡ answers ++ map Refused (option_to_list o) → length more-answers ≤ length answers + 1
        by_fault None is = omega (arith, ap length is, length-append answers [])
        by_fault (Some f) is = omega (arith, ap length is, length-append answers (Refused f ∷ []))

    -- one event more
    pub one_taken : (more-answers : List Answer) → more-answers ≡ answers ++ map Refused (option_to_list fault) → SoFar before noted piece last next more-answers behind
    one_taken more-answers added = record {
      small = rest_bytes rest what.0 behind exact_rest so.small;
      behind = rest_last;
      fewer = omega (arith, answered_once more-answers added, so.fewer, shorter rest what.0 behind exact_rest);
      same = λ more small-more follows.
          one_step more small-more follows
          ∙ (told_noting answers fault (deliver next (behind ++ more)) ∙ ap (λ (as' : List Answer). told as' (deliver next (behind ++ more))) (sym added));
    }

  -- nothing can be read, whatever follows
  pub reading_ends : (more-answers : List Answer) → Bytes piece → ◌≡◌ {A = State × Reads (Option Fault)} (next, None) (first_read g (event_read rest)) →
      (settles rest ≡ true) ⊎ (last ≡ true) → more-answers ≡ answers ++ (Refused Malformed ∷ []) → Taken before noted piece last next more-answers None
  reading_ends more-answers small none sure added =
      let (unread, stays) = none_read g next (event_read rest) none in
      record {
        bytes = small;
        behind = tt;
        fewer = omega (arith, ap length added, length-append answers (Refused Malformed ∷ []), so.fewer, some);
        whole = λ more small-more follows.
            first_step more small-more follows sure
            ∙ (ap (λ (r : Reading). told answers (first_taken g (followed_by more r) deliver)) unread
            ∙ ap₂ (λ (h : State) (given : List Answer). (h, given)) (sym stays) (sym added));
      }

pub piece_ends : (before g : State) (noted : List Answer) (piece : List ℕ) (last : Bool) (answers : List Answer) (rest : List ℕ) → Bytes piece →
    SoFar before noted piece last g answers rest → Taken before noted piece last g answers (Some rest)
piece_ends before g noted piece last answers rest small so = record { bytes = small; whole = so.same; behind = so.behind; fewer = so.fewer }

-- what the tests of the code tell: there are bytes, and what can't be read is settled or not
pub filled : (rest : List ℕ) → eqb (length rest) 0 ≡ false → 0 < length rest
filled rest some = omega (arith, eqb-false (length rest) 0 some)

pub sure_end : (rest : List ℕ) (last : Bool) → (last || leb 533 (length rest)) ≡ true → (settles rest ≡ true) ⊎ (last ≡ true)
sure_end rest last sure = ⊎_elim inr (λ long. inl (or_right _ _ long)) (or_cases last (leb 533 (length rest)) sure)

pub unsettled : (rest : List ℕ) (last : Bool) → event_read rest ≡ None → (last || leb 533 (length rest)) ≡ false → is_ready rest last ≡ false
unsettled rest last unread unsure = rw (unread, unsure) (and_false (not (eqb (length rest) 0)))
  where
    and_false : (b : Bool) → (b && false) ≡ false
    and_false true = refl
    and_false false = refl

pub empty : (rest : List ℕ) (last : Bool) → eqb (length rest) 0 ≡ true → is_ready rest last ≡ false
empty rest last none = rw none refl
