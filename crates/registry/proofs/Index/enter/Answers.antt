use Rattle.registry.proofs.Starts.{block_within, of_houses, start_moved, start_moves}
use Rattle.registry.proofs.Index.enter.Goals as goal
use Rattle.registry.specs.Index.{OfHouses, HouseStart, start_behind, start_of}
use Rattle.std.proofs.Common.{◌≡◌, ◌/◌, rules, arith, vec_items, slice_index, subst}
use Rattle.std.specs.List.{insert}

pub invariant_of-self-clause-houses : goal.invariant_of-self-clause-houses
invariant_of-self-clause-houses c =
    let index = c.args.self.now in
    subst OfHouses (search (rules, c.insert_at.ensures.items)) (of_houses index.entries.items c.args.place c.args.entry c.requires.place c.requires.house index.houses)

pub invariant_of-self-clause-started : goal.invariant_of-self-clause-started
invariant_of-self-clause-started c =
    let index = c.args.self.now in
    let x = c.args.entry in
    let entered : insert index.entries.items c.args.place x ≡ vec_items c.insert_at.new.entries = search (rules, c.insert_at.ensures.items) in
    λ house small.
    let start = start_of index.blocks.items index.starts.items house in
    let moved = start_moved index.entries.items c.args.place x c.requires.place house start (index.started house small) in
    let moves = start_moves x.house house (slice_index index.blocks.items (house / 32)) (slice_index index.starts.items house) small in
    let is : start_behind x.house house start ≡ start_of (vec_items c.add_one-2.new.numbers) (vec_items c.add_one.new.numbers) house =
    rw (c.add_one.ensures.items house, c.add_one-2.ensures.items (house / 32), c.from-house.ensures) moves in
    subst (HouseStart (vec_items c.insert_at.new.entries) house) is (subst (λ es. HouseStart es house (start_behind x.house house start)) entered moved)

pub add_one-requires-2-clause-small : goal.add_one-requires-2-clause-small
add_one-requires-2-clause-small c =
    let index = c.args.self.now in
    λ block within. omega (arith, index.few, block_within index.blocks.items index.starts.items index.entries.items index.started block within)
