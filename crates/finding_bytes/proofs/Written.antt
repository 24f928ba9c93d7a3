-- Bytes written one after the other into memory. Assumes nothing.
use Rattle.std.proofs.Common.{◌≡◌, ℕ, suc, ◌+◌, ◌-◌, ◌*◌, ◌/◌, ◌%◌, ◌≤◌, ◌<◌, Bool, true, false, List, [], ◌∷◌, ◌++◌, length, get_or, drop, set, Some, None, Option, sym, refl, ap, ◌∙◌, ap₂, zero-add, ⊎_elim, arith}
use Rattle.certificates.specs.declared.Certificate.{Certificate}
use Rattle.finding_keeping.specs.Marks.{picked}
use Rattle.finding_bytes.proofs.Sizes.{two_bytes}
use Rattle.finding_bytes.specs.Writing.{bytes_of_marked}
use Rattle.sheets.specs.Bytes.{line_bytes}
use Rattle.std.proofs.lemmas.List.{at_drop_more, at_drop_all, length-append}
use Rattle.std.proofs.lemmas.Slice.{put_mid-paste}
use Rattle.std.proofs.lemmas.Fn.{fronts}
use Rattle.std.proofs.lemmas.Iterator.{zips}
use Rattle.std.proofs.lemmas.Slice.Zip.{Zip-more, either_empty_from_Zip}
use Rattle.std.specs.Borrow.{Bor}
use Rattle.std.specs.Iterator.Adapters.{zip_first, zip_second}
use Rattle.std.specs.List.{flat_map}
use Rattle.std.specs.Slice.Iter.{iter_rest}
use Rattle.std.specs.declared.iter.Zip.{Zip}
use Rattle.std.specs.declared.slice.Iter.{Iter}
use Rattle.finding_turns.specs.Found.{line_of, lines_found}
use Rattle.finding_turns.specs.declared.found.Found.{Found}
use Rattle.wire.specs.Numbers.{bytes}
use borrow.Rule.Slice.PartMut.{put_mid}
use lib.Seq.{sets, sets-eq}

pub sets_append : (xs ys out : List ℕ) (at : ℕ) → sets out at (xs ++ ys) ≡ sets (sets out at xs) (at + length xs) ys
sets_append [] ys out at = ap (λ i. sets out i ys) (omega arith)
sets_append (x ∷ xs) ys out at = sets_append xs ys (set out at x) (suc at) ∙ ap (λ i. sets (sets (set out at x) (suc at) xs) i ys) (omega arith)

-- a number is written
pub u16_written : (out written : List ℕ) (at n : ℕ) → at + 2 ≤ length out → written ≡ (n / 256 % 256) ∷ (n % 256) ∷ [] → put_mid at (at + 2 - at) out written ≡ sets out at (bytes 2 n)
unfolding bytes
u16_written out written at n fits is =
    put_mid-paste at (at + 2 - at) out written (bytes 2 n) 2 is (omega arith) refl ∙ sym (sets-eq (bytes 2 n) out at fits)

-- one number more is written
pub number_more : (out numbers : List ℕ) (at i : ℕ) → i < length numbers →
    sets out (at + 2 * i) (flat_map (bytes 2) (drop i numbers))
    ≡ sets (sets out (at + 2 * i) (bytes 2 (get_or numbers i 0))) (at + 2 * (i + 1)) (flat_map (bytes 2) (drop (i + 1) numbers))
number_more out numbers at i below =
    at_drop_more (λ ns. sets out (at + 2 * i) (flat_map (bytes 2) ns)) numbers i 0 below
    ∙ (sets_append (bytes 2 (get_or numbers i 0)) (flat_map (bytes 2) (drop (i + 1) numbers)) out (at + 2 * i)
    ∙ ap (λ p. sets (sets out (at + 2 * i) (bytes 2 (get_or numbers i 0))) p (flat_map (bytes 2) (drop (i + 1) numbers))) (omega (arith, two_bytes (get_or numbers i 0))))

pub numbers_all : (out numbers : List ℕ) (at i : ℕ) → length numbers ≤ i → sets out at (flat_map (bytes 2) (drop i numbers)) ≡ out
numbers_all out numbers at i past = at_drop_all (λ ns. sets out at (flat_map (bytes 2) ns)) numbers i past

-- a certificate's number, and then the steps
pub line_written : (cs : List Certificate) (f : Found) (steps : List ℕ) → steps ≡ (line_of cs f).houses → (out : List ℕ) (at : ℕ) →
    sets (sets out at (bytes 2 f.certificate)) (at + 2) (flat_map (bytes 2) steps) ≡ sets out at (line_bytes (line_of cs f))
line_written cs f steps is out at =
    ap₂ (λ p ns. sets (sets out at (bytes 2 f.certificate)) p (flat_map (bytes 2) ns)) (omega (arith, two_bytes f.certificate)) is
    ∙ sym (sets_append (bytes 2 f.certificate) (flat_map (bytes 2) (line_of cs f).houses) out at)

-- what was written stands in front
in_front : (bytes out : List ℕ) → length bytes ≤ length out → sets out 0 bytes ≡ bytes ++ drop (length bytes) out
in_front bytes out fits = sets-eq bytes out 0 (omega arith) ∙ ap (λ n. bytes ++ drop n out) (zero-add (length bytes))

no_lines : (marks : List Bool) → bytes_of_marked marks [] ≡ []
unfolding picked
no_lines [] = refl
no_lines (mark ∷ marks) = refl

-- A loop over lines and their marks: the bytes of those that are left are those of the next, if it is marked, and of the others.
module _ (cs : List Certificate) where
  abbrev pub bytes_left : Zip (Iter Found) (Iter Bool) → List ℕ
  bytes_left s = bytes_of_marked (iter_rest (zip_second s)) (lines_found cs (iter_rest (zip_first s)))

  module _ (s t : Zip (Iter Found) (Iter Bool)) (r : Option (Bor Found × Bor Bool)) where
    pub left_marked : (line : Bor Found) (mark : Bor Bool) → r ≡ Some (line, mark) → zips fronts fronts s r t → mark.now ≡ true → bytes_left s ≡ line_bytes (line_of cs line.now) ++ bytes_left t
    unfolding picked
    left_marked line mark is steps marked =
        let (more, further) = Zip-more s t r (line, mark) is steps in
        ap₂ (λ ms found. bytes_of_marked ms (lines_found cs found)) (further ∙ ap (λ m. m ∷ iter_rest (zip_second t)) marked) more

    pub left_unmarked : (line : Bor Found) (mark : Bor Bool) → r ≡ Some (line, mark) → zips fronts fronts s r t → mark.now ≡ false → bytes_left s ≡ bytes_left t
    unfolding picked
    left_unmarked line mark is steps unmarked =
        let (more, further) = Zip-more s t r (line, mark) is steps in
        ap₂ (λ ms found. bytes_of_marked ms (lines_found cs found)) (further ∙ ap (λ m. m ∷ iter_rest (zip_second t)) unmarked) more

    -- there is one fewer
    pub left_fewer : (line : Bor Found) (mark : Bor Bool) → r ≡ Some (line, mark) → zips fronts fronts s r t → length (iter_rest (zip_first s)) ≡ 1 + length (iter_rest (zip_first t))
    left_fewer line mark is steps = omega (arith, ap length (Zip-more s t r (line, mark) is steps).0)

    pub left_none : r ≡ None → zips fronts fronts s r t → bytes_left s ≡ []
    unfolding picked
    left_none is steps = ⊎_elim
        (λ ended. ap (λ found. bytes_of_marked (iter_rest (zip_second s)) (lines_found cs found)) ended ∙ no_lines (iter_rest (zip_second s)))
        (λ ended. ap (λ marks. bytes_of_marked marks (lines_found cs (iter_rest (zip_first s)))) ended)
        (either_empty_from_Zip s t r is steps)

-- Some of all bytes are written, up to a place: those that are left give all.
pub record Begun (all before out left : List ℕ) (at : ℕ) : Type 0 where
  pub place : at + length left ≡ length all
  pub rest : sets before 0 all ≡ sets out at left

module _ (all before : List ℕ) where
  pub begun_more : (out next left here left' : List ℕ) (at at' : ℕ) → left ≡ here ++ left' → at' ≡ at + length here → next ≡ sets out at here →
      Begun all before out left at → Begun all before next left' at'
  begun_more out next left here left' at at' more at-is next-is begun = record {
    place = omega (arith, begun.place, at-is, ap length more, length-append here left');
    rest = begun.rest ∙ (ap (sets out at) more ∙ (sets_append here left' out at ∙ ap₂ (λ o p. sets o p left') (sym next-is) (sym at-is)));
  }

  pub begun_room : (out left here left' : List ℕ) (at : ℕ) → left ≡ here ++ left' → Begun all before out left at → at + length here ≤ length all
  begun_room out left here left' at more begun = omega (arith, begun.place, ap length more, length-append here left')

  -- all are written: they stand in front
  pub begun_all : (out left : List ℕ) (at : ℕ) → left ≡ [] → length all ≤ length before → Begun all before out left at → out ≡ all ++ drop (length all) before
  begun_all out left at ended fits begun = sym (begun.rest ∙ ap (sets out at) ended) ∙ in_front all before fits
