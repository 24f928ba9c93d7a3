-- Lines walked over one after the other. Assumes nothing.
use Rattle.std.proofs.Common.{◌≡◌, ℕ, suc, ◌+◌, ◌-◌, ◌<◌, ◌≤◌, List, Some, None, Option, sym, ap, ◌∙◌, arith}
use Rattle.certificates.specs.declared.Certificate.{Certificate}
use Rattle.sheets.specs.Reading.{line_skipped, onward, lines_skipped}

module _ (cs : List Certificate) (count line : ℕ) (s rest : List ℕ) (so : lines_skipped cs count s ≡ lines_skipped cs (count - line) rest) where
  first_left : line < count → lines_skipped cs count s ≡ onward (line_skipped cs rest) (lines_skipped cs (count - (line + 1)))
  unfolding lines_skipped
  first_left below =
      let more : count - line ≡ suc (count - (line + 1)) = omega arith in
      so ∙ rw more

  pub one_skipped : (behind : List ℕ) → line < count → Some behind ≡ line_skipped cs rest → lines_skipped cs count s ≡ lines_skipped cs (count - (line + 1)) behind
  one_skipped behind below is = first_left below ∙ ap (λ (o : Option (List ℕ)). onward o (lines_skipped cs (count - (line + 1)))) (sym is)

  pub none_skipped : line < count → None ≡ line_skipped cs rest → None ≡ lines_skipped cs count s
  none_skipped below is = sym (first_left below ∙ ap (λ (o : Option (List ℕ)). onward o (lines_skipped cs (count - (line + 1)))) (sym is))

  pub all_skipped : count ≤ line → Some rest ≡ lines_skipped cs count s
  unfolding lines_skipped
  all_skipped past =
      let none : count - line ≡ 0 = omega arith in
      sym (so ∙ rw none)
