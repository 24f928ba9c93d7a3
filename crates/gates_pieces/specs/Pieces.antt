-- A delivery of events that is taken in pieces. Assumes nothing.
use Rattle.std.specs.Prelude.{◌≡◌, ℕ, ◌≤◌, Bool, true, false, not, ◌&&◌, ◌||◌, ◌⊎◌, List, [], ◌∷◌, ◌++◌, length, Some, None, Option, ◌==◌}
use Rattle.promise.specs.States.{State, deliver}
use Rattle.promise.specs.Happened.{is_request}
use Rattle.promise.specs.Promise.{Bytes}
use Rattle.promise.specs.Requests.{told, run}
use Rattle.promise.specs.declared.answers.Answer.{Answer}
use Rattle.wire.specs.Settled.{settles}

-- the rest of a delivery: nothing more of it is read, or what is left of a piece stands before what follows
abbrev pub gone_on : State → List Answer → Option (List ℕ) → List ℕ → State × List Answer
gone_on g answers None more = (g, answers)
gone_on g answers (Some rest) more = told answers (deliver g (rest ++ more))

-- a piece was taken: whatever follows it, the rest gives the same as the whole
abbrev pub PieceTaken : State → List Answer → List ℕ → Bool → State → List Answer → Option (List ℕ) → Type 0
PieceTaken g answers piece last g' answers' rest =
    (more : List ℕ) → Bytes more → (last ≡ true → more ≡ []) → told answers (deliver g (piece ++ more)) ≡ gone_on g' answers' rest more

-- some bytes are left, and they settle which event stands first, or nothing follows them
abbrev pub is_ready : List ℕ → Bool → Bool
is_ready rest last = not (length rest == 0) && (last || settles rest)

-- a piece is left only where there is no room for another answer, or where no event can be read for certain
abbrev pub LeftOver : ℕ → ℕ → Bool → Option (List ℕ) → Type 0
LeftOver room held last None = Unit {0}
LeftOver room held last (Some rest) = (room ≤ held) ⊎ (is_ready rest last ≡ false)

abbrev pub left_length : Option (List ℕ) → ℕ
left_length None = 0
left_length (Some rest) = length rest

-- what is left of a piece are its last bytes
abbrev pub StandsLast : List ℕ → Option (List ℕ) → Type 0
StandsLast piece None = Unit {0}
StandsLast piece (Some rest) = (front : List ℕ) × (piece ≡ front ++ rest)

-- a delivery that is no request
abbrev pub holds_events : List ℕ → Bool
holds_events d = not (is_request d)

-- Behind the deliveries ds the gate g is on its way through one more, of which `front` came and `left` is not taken:
-- whatever follows (nothing, behind the last piece), going on with what is left gives the gate after the whole delivery.
abbrev pub Underway : ℕ → List (List ℕ) → List ℕ → Bool → State → Option (List ℕ) → Type 0
Underway owner ds front last g left =
    (more : List ℕ) → Bytes more → (last ≡ true → more ≡ []) → holds_events (front ++ more) ≡ true → run owner (ds ++ ((front ++ more) ∷ [])) ≡ (gone_on g [] left more).0

-- what a gate keeps when it takes a piece, which is what was left of those before it and some fresh bytes: it goes on its way
abbrev pub KeptPiece : State → List ℕ → Bool → State → Option (List ℕ) → Type 0
KeptPiece g piece last g' rest =
    (owner : ℕ) (ds : List (List ℕ)) (front left fresh : List ℕ) → piece ≡ left ++ fresh → Underway owner ds front false g (Some left) →
    Underway owner ds (front ++ fresh) last g' rest

-- the way begins at the gate after the deliveries before, and ends at the gate after the whole delivery
pub record PiecesJoin : Type 0 where
  pub begins : (owner : ℕ) (ds : List (List ℕ)) → Underway owner ds [] false (run owner ds) (Some [])
  pub ends : (owner : ℕ) (ds : List (List ℕ)) (d : List ℕ) (g : State) → holds_events d ≡ true → Underway owner ds d true g (Some []) → g ≡ run owner (ds ++ (d ∷ []))
  -- where nothing more of a delivery is read, it is the gate after it, whatever more the delivery has
  pub stops : (owner : ℕ) (ds : List (List ℕ)) (front : List ℕ) (last : Bool) (g : State) (more : List ℕ) → Bytes more → (last ≡ true → more ≡ []) →
      holds_events (front ++ more) ≡ true → Underway owner ds front last g None → g ≡ run owner (ds ++ ((front ++ more) ∷ []))
