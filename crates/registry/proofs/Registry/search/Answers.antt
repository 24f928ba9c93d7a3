use Rattle.registry.proofs.Registry.search.Goals as goal
use Rattle.registry.proofs.Starts.{starts_in_order, found_in_part, missing_in_part}
use Rattle.registry.specs.Numbered.{certificates_of}
use Rattle.std.proofs.Common.{rules}
use Rattle.std.proofs.lemmas.List.Sorted.{answers_always}

pub slice_bounds-names-count : goal.slice_bounds-names-count
slice_bounds-names-count c = starts_in_order c.args.self.now.index.entries.items c.args.house c.entries_of-start.result.0 c.entries_of-start.result.1 c.entries_of-start.ensures.0 c.entries_of-start.ensures.1

pub slice_bounds-names-start : goal.slice_bounds-names-start
slice_bounds-names-start c =
    let order = starts_in_order c.args.self.now.index.entries.items c.args.house c.entries_of-start.result.0 c.entries_of-start.result.1 c.entries_of-start.ensures.0 c.entries_of-start.ensures.1 in
    search (rules, order)

pub returns-in-Ok : goal.returns-in-Ok
returns-in-Ok c =
    let g = c.args.self.now in
    let facts = c.binary_search_by_key.ensures in
    let by_name = facts.position (λ e. e.name) (answers_always _ _ _ (λ f a r g called. search rules)) in
    found_in_part g.index.entries.items (certificates_of g) g.indexed c.args.house c.args.name c.entries_of-start.result.0 c.entries_of-start.result.1 c.entries_of-start.ensures.0 c.entries_of-start.ensures.1
    c.in-Ok.place (search rules) (search (rules, by_name))

pub returns-in-Err : goal.returns-in-Err
returns-in-Err c =
    let g = c.args.self.now in
    let facts = c.binary_search_by_key.ensures in
    let by_name = facts.position (λ e. e.name) (answers_always _ _ _ (λ f a r g called. search rules)) in
    missing_in_part g.index.entries.items (certificates_of g) g.indexed c.args.house c.args.name c.entries_of-start.result.0 c.entries_of-start.result.1 c.entries_of-start.ensures.0 c.entries_of-start.ensures.1
    c.in-Err.place (search rules) (rw (c.in-Err.is, c.deref.ensures.value) at by_name)
