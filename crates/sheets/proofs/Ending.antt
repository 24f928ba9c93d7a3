-- Good lines that show something new come to an end, and the facts there are closed. Assumes nothing.
use Rattle.certificates.specs.declared.access.Access.{Access}
use Rattle.std.proofs.Common.{◌≡◌, ℕ, zero, suc, ◌≤◌, ◌&&◌, List, [], ◌∷◌, length, refl, ap, ◌∙◌, ⊎_elim, arith}
use Rattle.certificates.specs.declared.Certificate.{Certificate}
use Rattle.sheets.proofs.Closed.{Closed}
use Rattle.sheets.proofs.Lines.{Good}
use Rattle.sheets.proofs.Next.{next_line}
use Rattle.sheets.proofs.Slots.{Room, line_room}
use Rattle.sheets.specs.Facts.{Fact}
use Rattle.sheets.specs.Laws.{Covers}
use Rattle.sheets.specs.Sheets.{Line, shows, entitled, holds_from}
use mathlib.Core.List.{Memᴰ}

-- lines from some facts to closed ones, at most so many
pub record Ending (cs : List Certificate) (access : Access) (facts : List Fact) (most : ℕ) : Type 0 where
  pub lines : List Line
  pub end : List Fact
  pub kept : (f : Fact) → Memᴰ f facts → Memᴰ f end
  pub closed : Closed cs access end
  pub holds_as : (house : ℕ) → holds_from cs access facts lines house ≡ entitled house end
  pub few : length lines ≤ most

module _ (cs : List Certificate) (access : Access) where
  no_lines : (facts : List Fact) (most : ℕ) → Closed cs access facts → Ending cs access facts most
  unfolding holds_from
  no_lines facts most closed = record { lines = []; end = facts; kept = λ f i. i; closed = closed; holds_as = λ house. refl; few = omega arith }

  line_more : (facts : List Fact) (most : ℕ) (l : Line) → Good cs access facts l →
      Ending cs access (shows cs l ∷ facts) most → Ending cs access facts (suc most)
  unfolding holds_from
  line_more facts most l g rest = record {
    lines = l ∷ rest.lines;
    end = rest.end;
    kept = λ f i. rest.kept f (Memᴰ.tail i);
    closed = rest.closed;
    holds_as = λ house. ap (λ b. b && holds_from cs access (shows cs l ∷ facts) rest.lines house) g ∙ rest.holds_as house;
    few = omega arith;
  }

  -- while there is room, either the facts are closed or a new line follows
  pub ending : (houses : List ℕ) → Covers houses cs → (most : ℕ) (facts : List Fact) → Room cs houses facts most → Ending cs access facts most
  ending houses covers zero facts room = ⊎_elim
      (λ (l, g, new). let (less, is, after) = line_room cs access facts houses zero covers room l g new in let none : ⊥ = omega arith in absurd none)
      (no_lines facts zero)
      (next_line cs access facts houses covers room.within)
  ending houses covers (suc most) facts room = ⊎_elim
      (λ (l, g, new).
      let (less, is, after) = line_room cs access facts houses (suc most) covers room l g new in
      let same : less ≡ most = omega arith in
      line_more facts most l g (ending houses covers most (shows cs l ∷ facts) (rw same at after)))
      (no_lines facts (suc most))
      (next_line cs access facts houses covers room.within)
