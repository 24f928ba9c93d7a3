-- 533 bytes are enough to read any event. Assumes nothing.
use Rattle.std.proofs.Common.{◌≡◌, ℕ, ◌*◌, ◌<◌, ◌≤◌, List, [], ◌∷◌, ◌++◌, length, take, drop, Ok, Err, sym, refl, ap, ◌∙◌, arith, true, ◌||◌, leb, Some, None}
use Rattle.certificates.specs.declared.Statement.{Statement}
use Rattle.certificates.specs.declared.Statement.TheVariants.{Name, Rights}
use Rattle.std.proofs.ByRecursion.{All-append}
use Rattle.std.proofs.lemmas.Bool.{leb-true}
use Rattle.std.specs.Prelude.{is_some}
use Rattle.std.proofs.lemmas.List.{take-append-drop, take_at, take-append-le, length-append, append_assoc}
use Rattle.std.specs.List.{flat_map, AllByRecursion}
use Rattle.wire.proofs.Exact.{Outcome, event, refused, stop, outcome, read_back, fields_read}
use Rattle.wire.proofs.Formed.{fields_of, fields_of_lem}
use Rattle.wire.proofs.Numerals.{length_bytes}
use Rattle.wire.proofs.Parts.{impossible}
use Rattle.wire.specs.Settled.{followed_by, Settled}
use Rattle.wire.specs.Exact.{Writable, Fields, Fits, fields_bytes}
use Rattle.wire.specs.Format.{statement_bytes, bytes_of_event}
use Rattle.wire.specs.Numbers.{bytes}
use Rattle.wire.specs.Reading.{Reading, event_read}
use Rattle.wire.specs.declared.events.Event.{Event}
use Rattle.wire.specs.declared.events.Event.TheVariants.{Issued, Revoked, DayPassed}
use Rattle.wire.specs.declared.faults.Fault.TheVariants.{OutOfRange}

pub names_length : (names : List ℕ) → length (flat_map (bytes 2) names) ≡ 2 * length names
names_length [] = refl
names_length (n ∷ names) =
    omega (arith, length-append (bytes 2 n) (flat_map (bytes 2) names), length_bytes 2 n, names_length names)

statement_length : (st : Statement) → length (statement_bytes st) ≤ 9
statement_length (Name who name) = omega (arith, length_bytes 2 name)
statement_length (Rights who set delegable) = omega (arith, length_bytes 8 set)

-- a kind, 13 bytes, at most 255 names of two bytes each, and at most 9 bytes of a statement
fields_length : (f : Fields) → Fits f → length (1 ∷ fields_bytes f) ≤ 533
fields_length f fits =
    simp length-append
    (omega (
      arith,
      length_bytes 2 f.issuer,
      length_bytes 4 f.first,
      length_bytes 4 f.last,
      length_bytes 2 f.house,
      names_length f.names,
      statement_length f.statement,
      fits.count_fits,
    ))

event_length : (e : Event) → Writable e → length (bytes_of_event e) ≤ 533
event_length (Issued c) w = let so = fields_of_lem c w in rw so.same_bytes (fields_length (fields_of c) so.fits)
event_length (Revoked number) w = omega (arith, length_bytes 2 number)
event_length DayPassed w = omega arith

-- what a longer list begins with, a list that is long enough begins with
begins : (s more w rest : List ℕ) → length w ≤ length s → s ++ more ≡ w ++ rest → s ≡ w ++ drop (length w) s
begins s more w rest long is =
    let front : take (length w) s ≡ w
    = sym (take-append-le (length w) s more long) ∙ (ap (take (length w)) is ∙ take_at w rest (length w) refl) in
    sym (take-append-drop (length w) s) ∙ ap (λ t. t ++ drop (length w) s) front

module _ (s more : List ℕ) where
  -- where nothing can be read of as many bytes as the longest event has, nothing can with more behind them
  still : {r : Reading} → 533 ≤ length s → event_read s ≡ None → Outcome (s ++ more) r → r ≡ None
  still long none (event {e = e} {rest = rest} w is) =
      let b = bytes_of_event e in
      let short : length b ≤ length s = omega (arith, event_length e w) in
      let read : event_read s ≡ Some (Ok e, drop (length b) s)
      = ap event_read (begins s more b rest short is) ∙ read_back e w (drop (length b) s) in
      impossible (cc)
  still long none (refused {rest = rest} f fits out is) =
      let b = 1 ∷ fields_bytes f in
      let short : length b ≤ length s = omega (arith, fields_length f fits) in
      let read : event_read s ≡ Some (Err OutOfRange, drop (length b) s)
      = ap event_read (begins s more b rest short is) ∙ rw (fields_read f fits (drop (length b) s), out) in
      impossible (cc)
  still long none stop = refl

  followed : {r : Reading} → AllByRecursion (λ b. b < 256) (s ++ more) → event_read s ≡ r → (is_some r || leb 533 (length s)) ≡ true → Outcome s r →
      event_read (s ++ more) ≡ followed_by more r
  followed small same sure (event {e = e} {rest = rest} w is) =
      ap (λ t. event_read (t ++ more)) is ∙ (ap event_read (append_assoc (bytes_of_event e) rest more) ∙ read_back e w (rest ++ more))
  followed small same sure (refused {rest = rest} f fits out is) =
      ap (λ t. event_read (t ++ more)) is
      ∙ (ap (λ t. event_read (1 ∷ t)) (append_assoc (fields_bytes f) rest more) ∙ rw (fields_read f fits (rest ++ more), out))
  followed small same sure stop = still (leb-true 533 (length s) sure) same (outcome (s ++ more) small)

pub settled : Settled
settled s more small small-more sure = followed s more (All-append (λ b. b < 256) s more small small-more) refl sure (outcome s small)
