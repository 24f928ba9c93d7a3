-- Deliveries taken one after the other: one more at the end. Assumes nothing.
use Rattle.std.proofs.Common.{◌≡◌, ℕ, ◌+◌, ◌<◌, List, [], ◌∷◌, ◌++◌, length, get_or, take, drop, vec_items, Vec, sym, refl, ap, ◌∙◌, append_assoc, append-nil}
use Rattle.gates_deliveries.specs.Lists.{bytes_of, Untaken, Stopped}
use Rattle.gates.specs.declared.troubles.Trouble.{Trouble}
use Rattle.promise.specs.Promise.{Bytes}
use Rattle.promise.specs.Requests.{onto, receive, left_by_delivery, receive_all, left_by_all}
use Rattle.promise.specs.States.{State}
use Rattle.promise.specs.declared.answers.Answer.{Answer}
use Rattle.std.proofs.ByRecursion.{All-push}
use Rattle.std.proofs.lemmas.List.{map-append, take_more, drop_more, take-append-drop}
use Rattle.std.specs.List.{AllByRecursion}
use Rattle.std.specs.declared.alloc.Global.{Global}

-- the gate, its answers and the lent memory after some deliveries
pub record Along (g : State) (memory : List ℕ) (ds : List (List ℕ)) (g' : State) (answers : List Answer) (memory' : List ℕ) : Type 0 where
  pub same : (g', answers) ≡ receive_all g ds
  pub left : memory' ≡ left_by_all g ds memory
  pub small : AllByRecursion Bytes ds

pub none_along : (g : State) (memory : List ℕ) (answers : List Answer) → answers ≡ [] → Along g memory [] g answers memory
unfolding receive_all left_by_all
none_along g memory answers none = record { same = rw none; left = refl; small = tt }

all_push_one : (g : State) (ds : List (List ℕ)) (d : List ℕ) → receive_all g (ds ++ (d ∷ [])) ≡ onto (receive_all g ds).1 (receive (receive_all g ds).0 d)
unfolding receive_all
all_push_one g [] d = ap (λ (answers : List Answer). ((receive g d).0, answers)) (append-nil (receive g d).1)
all_push_one g (e ∷ ds) d =
    let behind = all_push_one (receive g e).0 ds d in
    ap (onto (receive g e).1) behind
    ∙ ap (λ (answers : List Answer). ((receive (receive_all (receive g e).0 ds).0 d).0, answers)) (sym (append_assoc (receive g e).1 _ _))

left_push_one : (g : State) (ds : List (List ℕ)) (d memory : List ℕ) → left_by_all g (ds ++ (d ∷ [])) memory ≡ left_by_delivery (receive_all g ds).0 d (left_by_all g ds memory)
unfolding receive_all left_by_all
left_push_one g [] d memory = refl
left_push_one g (e ∷ ds) d memory = left_push_one (receive g e).0 ds d (left_by_delivery g e memory)

module _ (g : State) (memory : List ℕ) (ds : List (List ℕ)) (g' next : State) (answers more : List Answer) (memory' after : List ℕ) where
  pub one_along : (d : List ℕ) → Bytes d → Along g memory ds g' answers memory' → (next, more) ≡ onto answers (receive g' d) → after ≡ left_by_delivery g' d memory' →
      Along g memory (ds ++ (d ∷ [])) next more after
  one_along d small so taken left = record {
    same = taken ∙ (ap (λ (p : State × List Answer). onto p.1 (receive p.0 d)) so.same ∙ sym (all_push_one g ds d));
    left = left ∙ (ap (λ (p : State × List Answer). left_by_delivery p.0 d memory') so.same
        ∙ (ap (left_by_delivery (receive_all g ds).0 d) so.left ∙ sym (left_push_one g ds d memory)));
    small = All-push Bytes ds d so.small small;
  }

module _ (ds : List (Vec ℕ Global)) (i : ℕ) where
  pub one_more : (d : Vec ℕ Global) (s : List ℕ) → i < length ds → d ≡ get_or ds i d → s ≡ vec_items d → bytes_of (take (i + 1) ds) ≡ bytes_of (take i ds) ++ (s ∷ [])
  one_more d s below is same =
      ap bytes_of (take_more ds i d below ∙ ap (λ (e : Vec ℕ Global). take i ds ++ (e ∷ [])) (sym is))
      ∙ (map-append vec_items (take i ds) (d ∷ []) ∙ ap (λ (e : List ℕ). bytes_of (take i ds) ++ (e ∷ [])) (sym same))

  -- the next delivery is not taken
  pub stopped : (d : Vec ℕ Global) (s : List ℕ) → i < length ds → d ≡ get_or ds i d → s ≡ vec_items d →
      (t : Trouble) (g g' : State) (answers : List Answer) (memory memory' left : List ℕ) → Along g memory (bytes_of (take i ds)) g' answers memory' →
      length memory' ≡ length memory → Untaken t s (length memory') → left ≡ memory' → Stopped t g (bytes_of ds) memory left
  stopped d s below is read t g g' answers memory memory' left so long why same = record {
    before = bytes_of (take i ds);
    here = s;
    behind = bytes_of (drop (i + 1) ds);
    some =
        ap bytes_of (sym (take-append-drop i ds))
        ∙ (map-append vec_items (take i ds) (drop i ds)
        ∙ ap (λ (rest : List (List ℕ)). bytes_of (take i ds) ++ rest)
        (ap bytes_of (drop_more ds i d below ∙ ap (λ (e : Vec ℕ Global). e ∷ drop (i + 1) ds) (sym is))
        ∙ ap (λ (e : List ℕ). e ∷ bytes_of (drop (i + 1) ds)) (sym read)));
    why = rw long at why;
    left = same ∙ so.left;
  }
