-- The bytes that are held of a file, taken part by part. Assumes nothing.
use Rattle.std.proofs.Common.{◌≡◌, ℕ, ◌-◌, Bool, true, List, [], ◌++◌, length, drop, Some, Option, Bor, sym, ap, ◌∙◌, append_assoc, length-append, arith}
use Rattle.gates_pieces.specs.Pieces.{PieceTaken, StandsLast}
use Rattle.programs.specs.Files.{last_bytes}
use Rattle.programs.specs.Taking.{HeldTaken}
use Rattle.promise.specs.Promise.{Bytes}
use Rattle.promise.specs.States.{State, deliver}
use Rattle.promise.specs.declared.answers.Answer.{Answer}
use Rattle.std.specs.Option.{option_map}
use Rattle.std.proofs.Math.Seq.{drop-append_seam}

-- some of the held bytes were taken, and the rest stands last: whatever follows, it gives the same gate as all of them
pub record Along (before : State) (held : List ℕ) (last : Bool) (g : State) (rest : List ℕ) : Type 0 where
  pub behind : StandsLast held (Some rest)
  pub same : (more : List ℕ) → Bytes more → (last ≡ true → more ≡ []) → (deliver before (held ++ more)).0 ≡ (deliver g (rest ++ more)).0

-- the last bytes of those that are held, as many as are left
pub last_left : (held rest : List ℕ) → StandsLast held (Some rest) → last_bytes (length rest) held ≡ rest
last_left held rest (front, is) =
    let long : length held - length rest ≡ length front = omega (arith, simp length-append at (ap length is)) in
    ap (λ (n : ℕ). drop n held) long ∙ (ap (λ (s : List ℕ). drop (length front) s) is ∙ drop-append_seam front rest)

module _ (before g next : State) (held : List ℕ) (last : Bool) (rest : List ℕ) (noted answers : List Answer) where
  -- one part more
  part_taken : (left : List ℕ) → Along before held last g rest → PieceTaken g noted rest last next answers (Some left) → StandsLast rest (Some left) →
      Along before held last next left
  part_taken left so taken behind =
      let (front, is) = so.behind in
      let (part, parted) = behind in
      record {
        behind = (front ++ part, is ∙ (ap (λ (s : List ℕ). front ++ s) parted ∙ sym (append_assoc front part left)));
        same = λ more small follows. so.same more small follows ∙ ap (λ (p : State × List Answer). p.0) (taken more small follows);
      }

  module _ (o : Option (Bor (List ℕ))) (left : Bor (List ℕ)) (is : o ≡ Some left) (so : Along before held last g rest)
      (taken : PieceTaken g noted rest last next answers (option_map (λ x. x.now) o)) (behind : StandsLast rest (option_map (λ x. x.now) o)) where
    pub more_taken : Along before held last next left.now
    more_taken = part_taken left.now so (rw is at taken) (rw is at behind)

    -- the last part that can be taken
    pub few_left : HeldTaken before held last next (Some (length left.now))
    few_left more small follows =
        more_taken.same more small follows
        ∙ ap (λ (s : List ℕ). (deliver next (s ++ more)).0) (sym (last_left held left.now more_taken.behind))
