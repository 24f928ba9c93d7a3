-- What is taken of the bytes that are held of a file. Assumes nothing.
use Rattle.std.specs.Prelude.{◌≡◌, ℕ, ◌<◌, ◌≤◌, Bool, true, List, [], ◌++◌, Some, None, Option}
use Rattle.gates_pieces.specs.Pieces.{gone_on}
use Rattle.programs.specs.Files.{last_bytes}
use Rattle.promise.specs.Promise.{Bytes}
use Rattle.promise.specs.States.{State, deliver}
use Rattle.std.specs.Option.{option_map}
use Rattle.wire.specs.Settled.{longest_event}

-- what is left of the bytes that are held: the last, so many; none where nothing more of the file is read
abbrev pub left_of : List ℕ → Option ℕ → Option (List ℕ)
left_of held left = option_map (λ count. last_bytes count held) left

-- whatever follows in the file (nothing, behind its last bytes), going on with what is left gives the gate after all of it
abbrev pub HeldTaken : State → List ℕ → Bool → State → Option ℕ → Type 0
HeldTaken g held last g' left =
    (more : List ℕ) → Bytes more → (last ≡ true → more ≡ []) → (deliver g (held ++ more)).0 ≡ (gone_on g' [] (left_of held left) more).0

-- fewer bytes are left than the longest event has, and none of the last ones
abbrev pub FewLeft : ℕ → Bool → Option ℕ → Type 0
FewLeft held last None = Unit {0}
FewLeft held last (Some count) = (count ≤ held) × (count < longest_event) × (last ≡ true → count ≡ 0)
