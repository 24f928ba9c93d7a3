-- Deliveries that come together, taken one after the other. Assumes nothing.
use Rattle.std.specs.Prelude.{◌≡◌, ℕ, ◌<◌, true, List, ◌∷◌, ◌++◌, map, length, vec_items, Vec}
use Rattle.gates.specs.declared.troubles.Trouble.{Trouble}
use Rattle.gates.specs.declared.troubles.Trouble.TheVariants.{UnknownHouse, NoMemory, ShortMemory}
use Rattle.promise.specs.Happened.{is_request}
use Rattle.promise.specs.Requests.{left_by_all}
use Rattle.promise.specs.States.{State}
use Rattle.std.specs.declared.alloc.Global.{Global}

-- the bytes of each
abbrev pub bytes_of : List (Vec ℕ Global) → List (List ℕ)
bytes_of deliveries = map vec_items deliveries

-- Why a delivery was not taken: it is not empty and memory can't be had, or it is a request and the lent memory has too few words.
abbrev pub Untaken : Trouble → List ℕ → ℕ → Type 0
Untaken UnknownHouse d words = ⊥
Untaken NoMemory d words = 0 < length d
Untaken ShortMemory d words = (is_request d ≡ true) × (words < 16384)

-- One of the deliveries was not taken: the lent memory is as those before it left it.
pub record Stopped (trouble : Trouble) (g : State) (ds : List (List ℕ)) (memory memory' : List ℕ) : Type 0 where
  pub before : List (List ℕ)
  pub here : List ℕ
  pub behind : List (List ℕ)
  pub some : ds ≡ before ++ (here ∷ behind)
  pub why : Untaken trouble here (length memory)
  pub left : memory' ≡ left_by_all g before memory
