-- Where the entries of each house start, and what is found among them. Assumes nothing.
use Rattle.std.proofs.Common.{◌≡◌, ℕ, ◌+◌, ◌-◌, ◌<◌, ◌≤◌, Bool, true, false, cond, ltb, List, [], length, get_or, slice_index, ap, take, drop, replicate, ◌/◌, ◌*◌, Ok, Err, sym, refl, ◌∙◌, inl, inr, arith}
use Rattle.certificates.specs.declared.Certificate.{Certificate}
use Rattle.registry.proofs.Indexed.{searched}
use Rattle.registry.proofs.Order.{at_inserted}
use Rattle.registry.specs.Index.{compared, Place, HouseStart, Starts, start_behind, one_more, OfHouses, Indexes, HasRow, Missing}
use Rattle.registry.specs.declared.Entry.{Entry}
use Rattle.std.proofs.lemmas.Bool.{cases_eq, cases_lt, ltb-true, ltb-false}
use Rattle.std.proofs.lemmas.Bool.Decides.{nat_tests}
use Rattle.std.proofs.lemmas.List.{get_or-take, get_or-drop, get_or-replicate, length-take, length-drop}
use Rattle.std.proofs.lemmas.List.Edits.{length-insert}
use Rattle.std.specs.List.{insert, HoldsAt}
use Rattle.std.specs.List.Sorted.{IsNonDecreasingBy, IsPartitionPoint}
use Rattle.std.specs.Ordering.{nat_cmp, ordering_index}
use Rattle.std.specs.declared.cmp.Ordering.{Ordering}
use Rattle.std.specs.declared.cmp.Ordering.TheVariants.{Less, Equal, Greater}

-- the same entry for lists that may be empty
any : Entry
any = record { house = 0; name = 0; row = 0 }

module _ (e : Entry) (house name : ℕ) where
  low_of : compared house name e ≡ Less → e.house ≤ house
  low_of stands = grind (arith, nat_tests)

  high_of : compared house name e ≡ Greater → house ≤ e.house
  high_of stands = grind (arith, nat_tests)

  of_lower : e.house < house → compared house name e ≡ Less
  of_lower lower = grind (arith, nat_tests)

  of_higher : house < e.house → compared house name e ≡ Greater
  of_higher higher = grind (arith, nat_tests)

  of_same : e.house ≡ house → compared house name e ≡ nat_cmp e.name name
  of_same same = grind (arith, nat_tests)

name_below : (e f : Entry) → e.house ≡ f.house → compared f.house f.name e ≡ Less → e.name < f.name
name_below e f same stands = grind (arith, nat_tests)

index_rises : (m n name : ℕ) → m < n → ordering_index (nat_cmp m name) ≤ ordering_index (nat_cmp n name)
index_rises m n name less = grind (arith, nat_tests)

-- a house that there is not starts behind all entries
pub behind_all : (es : List Entry) → OfHouses es → (house : ℕ) → 1024 ≤ house → HouseStart es house (length es)
behind_all es all house past = (
  omega arith,
  ((λ k d low less. let small = all k d low (omega arith) in omega (arith, small)), (λ k d low less. let never : ⊥ = omega arith in absurd never)),
)

-- without entries each house starts at 0
pub no_starts : (blocks starts : List ℕ) (es : List Entry) → blocks ≡ replicate 33 0 → starts ≡ replicate 1025 0 → es ≡ [] → Starts blocks starts es
no_starts blocks starts es none zeros empty house small =
    rw (none, zeros, empty, get_or-replicate {A = ℕ} 33 (house / 32) 0 0 (omega arith), get_or-replicate {A = ℕ} 1025 house 0 0 (omega arith))
    (omega arith, ((λ k d low less. let never : ⊥ = omega arith in absurd never), (λ k d low less. let never : ⊥ = omega arith in absurd never)))

-- when a house gets an entry, those of its block behind it start one place later, and all higher blocks
start_moves_by : (other house own block at start : ℕ) → 32 * own ≤ other → other < 32 * own + 32 → 32 * block ≤ house → house < 32 * block + 32 → block < 33 →
    start_behind other house (at + start) ≡ one_more (own + 1) 33 block at + one_more (other + 1) ((own + 1) * 32) house start
start_moves_by other house own block at start low high low' high' within = grind (arith, nat_tests)

pub start_moves : (other house at start : ℕ) → house ≤ 1024 → start_behind other house (at + start) ≡ one_more (other / 32 + 1) 33 (house / 32) at + one_more (other + 1) ((other / 32 + 1) * 32) house start
start_moves other house at start small = start_moves_by other house (other / 32) (house / 32) at start (omega arith) (omega arith) (omega arith) (omega arith) (omega arith)

block_of : (block : ℕ) → 32 * block / 32 ≡ block
block_of block = omega arith

-- no block starts behind all entries
pub block_within : (blocks starts : List ℕ) (es : List Entry) → Starts blocks starts es → (block : ℕ) → block < 33 → slice_index blocks block ≤ length es
block_within blocks starts es started block within =
    let first = started (32 * block) (omega arith) in
    let here = ap (λ b. slice_index blocks b) (block_of block) in
    omega (arith, first.0, here)

-- a house's entries end where those of the next start
pub starts_in_order : (es : List Entry) (house start end : ℕ) → HouseStart es house start → HouseStart es (house + 1) end → start ≤ end
starts_in_order es house start end from to = elim (cases_lt end start) [
  | inl before ↦
      let low = from.1.0 end any (omega arith) before in
      let high = to.1.1 end any (omega arith) (omega (arith, from.0)) in
      omega (arith, low, high)
  | inr behind ↦ behind
]

module _ (es : List Entry) (place : ℕ) (x : Entry) (at : Place es x.house x.name place) where
  long : length (insert es place x) ≡ length es + 1
  long = length-insert es place x at.within

  pub of_houses : x.house < 1024 → OfHouses es → OfHouses (insert es place x)
  of_houses small all j d low less =
      at_inserted es place x at.within (λ e. e.house < 1024) j d (λ front. all j d (omega arith) (omega (arith, at.within))) (λ same. small) (λ back. all (j - 1) d (omega arith) (omega (arith, long)))

  module _ (house start : ℕ) (was : HouseStart es house start) where
    -- the new entry of a house below stands before its start
    lower : x.house < house → place ≤ start
    lower below = elim (cases_lt start place) [
      | inl before ↦
          let front = low_of (get_or es start x) x.house x.name (at.parted.0 start x (omega arith) before) in
          let back = was.1.1 start x (omega arith) (omega (arith, at.within)) in
          omega (arith, front, back)
      | inr behind ↦ behind
    ]

    -- that of any other stands behind it
    others : house ≤ x.house → start ≤ place
    others above = elim (cases_lt place start) [
      | inl before ↦
          let back = high_of (get_or es place x) x.house x.name (at.parted.1 place x (omega arith) (omega (arith, was.0))) in
          let front = was.1.0 place x (omega arith) before in
          omega (arith, front, back)
      | inr behind ↦ behind
    ]

    pub start_moved : HouseStart (insert es place x) house (start_behind x.house house start)
    start_moved = go (ltb x.house house) refl
      where
        go : (b : Bool) → ltb x.house house ≡ b → HouseStart (insert es place x) house (cond b (start + 1) start)
        go true is =
            let below = ltb-true x.house house is in
            let far = lower below in (
              omega (arith, long, was.0),
              (
                (λ j d low less.
                    at_inserted es place x at.within (λ e. e.house < house) j d (λ front. was.1.0 j d (omega arith) (omega (arith, far))) (λ same. below) (λ back. was.1.0 (j - 1) d (omega arith) (omega arith))),
                (λ j d low less.
                    at_inserted es place x at.within (λ e. house ≤ e.house) j d (λ front. let never : ⊥ = omega (arith, far) in absurd never) (λ same. let never : ⊥ = omega (arith, far) in absurd never) (λ back. was.1.1 (j - 1) d (omega arith) (omega (arith, long)))),
              ),
            )
        go false is =
            let above = ltb-false x.house house is in
            let near = others above in (
              omega (arith, long, was.0),
              (
                (λ j d low less.
                    at_inserted es place x at.within (λ e. e.house < house) j d (λ front. was.1.0 j d (omega arith) less) (λ same. let never : ⊥ = omega (arith, near) in absurd never) (λ back. let never : ⊥ = omega (arith, near) in absurd never)),
                (λ j d low less.
                    at_inserted es place x at.within (λ e. house ≤ e.house) j d (λ front. was.1.1 j d (omega arith) (omega (arith, at.within))) (λ same. above) (λ back. was.1.1 (j - 1) d (omega (arith, near)) (omega (arith, long)))),
              ),
            )

module _ (es : List Entry) (cs : List Certificate) (so : Indexes es cs) (house name start end : ℕ) (from : HouseStart es house start) (to : HouseStart es (house + 1) end) where
  abbrev part : List Entry
  part = take (end - start) (drop start es)

  in_part : (k : ℕ) (d : Entry) → start + k < end → get_or part k d ≡ get_or es (start + k) d
  in_part k d within = get_or-take (end - start) (drop start es) k d (omega arith) ∙ get_or-drop start es k d

  length_part : length part ≡ end - start
  length_part = let ordered = starts_in_order es house start end from to in omega (arith, ordered, to.0, length-take (end - start) (drop start es), length-drop start es)

  house_of_part : (k : ℕ) (d : Entry) → start + k < end → (get_or es (start + k) d).house ≡ house
  house_of_part k d within =
      let low = from.1.1 (start + k) d (omega arith) (omega (arith, to.0)) in
      let high = to.1.0 (start + k) d (omega arith) within in
      omega (arith, low, high)

  -- so they rise by name, and can be halved by it
  part_rises : IsNonDecreasingBy (λ e. ordering_index (nat_cmp e.name name)) part
  part_rises i j d upto within =
      let long = length_part in
      let less : start + j < end = omega arith in
      let first : start + i < end = omega arith in
      rw (in_part i d first, in_part j d less)
      (elim (cases_eq i j) [
        | inl same ↦ rw same (omega arith)
        | inr other ↦
            let one = get_or es (start + i) d in
            let two = get_or es (start + j) d in
            let below = name_below one two (house_of_part i d first ∙ sym (house_of_part j d less)) (so.rising (start + i) (start + j) d (omega arith) (omega (arith, to.0))) in
            index_rises one.name two.name name below
      ])

  -- what stands in the house's entries stands in all, so much further back
  at_part : (o : Ordering) (k : ℕ) (d : Entry) → start + k < end → nat_cmp (get_or part k d).name name ≡ o → compared house name (get_or es (start + k) d) ≡ o
  at_part o k d within is = of_same (get_or es (start + k) d) house name (house_of_part k d within) ∙ rw (in_part k d within) at is

  pub found_in_part : (k : ℕ) → k < length part → HoldsAt (λ e. nat_cmp e.name name ≡ Equal) part k → HasRow es cs house name (start + k)
  found_in_part k less at =
      let within : start + k < end = omega (arith, length_part) in
      searched es cs so house name (Ok (start + k)) (omega (arith, to.0)) (λ d. at_part Equal k d within (at d))

  pub missing_in_part : (k : ℕ) → k ≤ length part → (IsNonDecreasingBy (λ e. ordering_index (nat_cmp e.name name)) part → IsPartitionPoint (λ e. nat_cmp e.name name ≡ Less) (λ e. nat_cmp e.name name ≡ Greater) part k) →
      Missing es cs house name (start + k)
  missing_in_part k upto parted =
      let (low, high) = parted part_rises in
      let long = length_part in
      let ordered = starts_in_order es house start end from to in
      searched es cs so house name (Err (start + k)) (omega (arith, to.0)) (λ sorted. (
        (λ j d low' less. elim (cases_lt j start) [
          | inl front ↦ of_lower (get_or es j d) house name (from.1.0 j d (omega arith) front)
          | inr own ↦
              let place : start + (j - start) ≡ j = omega arith in
              rw place at (at_part Less (j - start) d (omega arith) (low (j - start) d (omega arith) (omega arith)))
        ]),
        (λ j d low' less. elim (cases_lt j end) [
          | inl own ↦
              let place : start + (j - start) ≡ j = omega arith in
              rw place at (at_part Greater (j - start) d (omega arith) (high (j - start) d (omega arith) (omega arith)))
          | inr behind ↦ of_higher (get_or es j d) house name (let high' = to.1.1 j d behind less in omega (arith, high'))
        ]),
      ))
