-- The index: entries in order, and the row that they have for a house's name. Assumes nothing.
use Rattle.std.specs.Prelude.{◌≡◌, ℕ, ◌+◌, ◌<◌, ◌≤◌, Bool, cond, ◌&&◌, not, ◌/◌, List, [], ◌∷◌, length, ◌==◌, nat_lt, slice_index, slice_index_or}
use Rattle.certificates.specs.declared.Certificate.{Certificate}
use Rattle.registry.specs.Rows.{row_of}
use Rattle.registry.specs.declared.Entry.{Entry}
use Rattle.std.specs.List.{AllWithin, HoldsAt}
use Rattle.std.specs.List.Sorted.{IsPartitionPoint}
use Rattle.std.specs.Ordering.{nat_cmp, ordering_then}
use Rattle.std.specs.declared.cmp.Ordering.{Ordering}
use Rattle.std.specs.declared.cmp.Ordering.TheVariants.{Less, Greater}

-- how an entry stands to a house's name: by house, and within a house by name
abbrev pub compared : ℕ → ℕ → Entry → Ordering
compared house name e = ordering_then (nat_cmp e.house house) (nat_cmp e.name name)

abbrev pub is_of : Entry → ℕ → ℕ → Bool
is_of e house name = e.house == house && e.name == name

-- every entry stands before all behind it
abbrev pub Rising : List Entry → Type 0
Rising es = (i j : ℕ) (d : Entry) → i < j → j < length es → compared (slice_index_or es j d).house (slice_index_or es j d).name (slice_index_or es i d) ≡ Less

-- the entries in front of this place stand before a house's name, the others behind it
pub record Place (es : List Entry) (house name place : ℕ) : Type 0 where
  pub within : place ≤ length es
  pub parted : IsPartitionPoint (λ e. compared house name e ≡ Less) (λ e. compared house name e ≡ Greater) es place

-- the entries in front of this place are of houses below this one, the others are not
abbrev pub HouseStart : List Entry → ℕ → ℕ → Type 0
HouseStart es house place = (place ≤ length es) × IsPartitionPoint (λ e. e.house < house) (λ e. house ≤ e.house) es place

-- where a house's entries start: what its block of 32 houses starts at, and how many entries of the block are of lower houses
abbrev pub start_of : List ℕ → List ℕ → ℕ → ℕ
start_of blocks starts house = slice_index blocks (house / 32) + slice_index starts house

-- for each house, and behind the last, the place where its entries start
abbrev pub Starts : List ℕ → List ℕ → List Entry → Type 0
Starts blocks starts es = (house : ℕ) → house ≤ 1024 → HouseStart es house (start_of blocks starts house)

-- the place where a house's entries start, when another house gets one more
abbrev pub start_behind : ℕ → ℕ → ℕ → ℕ
start_behind other house start = cond (nat_lt other house) (start + 1) start

-- the numbers from one place to before another are one more
abbrev pub one_more : ℕ → ℕ → ℕ → ℕ → ℕ
one_more from to place number = cond (not (nat_lt place from) && nat_lt place to) (number + 1) number

-- every entry is of a house that there is
abbrev pub OfHouses : List Entry → Type 0
OfHouses es = AllWithin (λ e. e.house < 1024) es 0 (length es)

-- the row that the entries have for a house's name; `none` where they don't have it
unfoldable pub row_among : List Entry → ℕ → ℕ → ℕ → ℕ
row_among [] house name none = none
row_among (e ∷ es) house name none = cond (is_of e house name) e.row (row_among es house name none)

-- every house's name has the same row by the entries as by the certificates
abbrev pub Agrees : List Entry → List Certificate → Type 0
Agrees es cs = (house name : ℕ) → row_among es house name (length cs) ≡ row_of cs house name

-- the entries' rows are numbers of certificates, so they have no name that none states
abbrev pub Numbers : List Entry → List Certificate → Type 0
Numbers es cs = AllWithin (λ e. e.row < length cs) es 0 (length es)

-- what the index is beside the certificates
pub record Indexes (es : List Entry) (cs : List Certificate) : Type 0 where
  pub rising : Rising es
  pub agrees : Agrees es cs
  pub numbers : Numbers es cs

-- the entry at this place has the row of a house's name
pub record HasRow (es : List Entry) (cs : List Certificate) (house name place : ℕ) : Type 0 where
  pub within : place < length es
  pub row : HoldsAt (λ e. e.row ≡ row_of cs house name) es place
  pub known : row_of cs house name < length cs

-- no certificate states a house's name, and this would be its place
pub record Missing (es : List Entry) (cs : List Certificate) (house name place : ℕ) : Type 0 where
  pub parts : Place es house name place
  pub none : row_of cs house name ≡ length cs
