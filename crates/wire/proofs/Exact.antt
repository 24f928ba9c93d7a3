-- The reader of events is exact. Assumes nothing.
use Rattle.std.proofs.Common.{◌≡◌, ℕ, ◌<◌, true, false, eqb, List, [], ◌∷◌, ◌++◌, get_or, Some, None, Ok, Err, Result, sym, refl, ap, ◌∙◌, ap₂, subst, w8, Fits}
use Rattle.certificates.specs.Certificates.{in_range}
use Rattle.certificates.specs.declared.Certificate.{Certificate}
use Rattle.std.proofs.ByRecursion.{All-from_get_or}
use Rattle.std.proofs.lemmas.Bool.{eqb-true, cond_both}
use Rattle.std.specs.List.{AllByRecursion}
use Rattle.wire.proofs.Formed.{formed, fields_of, fields_of_lem}
use Rattle.wire.proofs.Frames.{frame_part}
use Rattle.wire.proofs.Numerals.{byte_taken, number_part}
use Rattle.wire.proofs.Parts.{impossible}
use Rattle.wire.specs.Exact.{Writable, WrittenIsRead, Fields, Fits as FieldsFit, fields_bytes, certificate_of, OutOfRangeThen, Exactly}
use Rattle.wire.specs.Format.{bytes_of_event}
use Rattle.wire.specs.Numbers.{Taken, bytes, take_number, and_then}
use Rattle.wire.specs.Reading.{frame, Reading, looked, revoking, read_kind, event_read}
use Rattle.wire.specs.declared.events.Event.{Event}
use Rattle.wire.specs.declared.events.Event.TheVariants.{Issued, Revoked, DayPassed}
use Rattle.wire.specs.declared.faults.Fault.{Fault}
use Rattle.wire.specs.declared.faults.Fault.TheVariants.{OutOfRange}

-- fields are read whatever their values, and then looked at
pub fields_read : (f : Fields) → FieldsFit f → (rest : List ℕ) → event_read (1 ∷ (fields_bytes f ++ rest)) ≡ looked (Some (certificate_of f, rest))
fields_read f fits rest = ap (λ t. and_then t read_kind) (byte_taken 1 (fields_bytes f ++ rest)) ∙ ap looked (frame_part.complete f fits rest)

pub read_back : WrittenIsRead
read_back (Issued c) w rest =
    let so = fields_of_lem c w in
    rw (so.same_bytes, fields_read (fields_of c) so.fits rest, so.in_range_lem) refl
read_back (Revoked number) w rest =
    ap (λ t. and_then t read_kind) (byte_taken 2 (bytes 2 number ++ rest)) ∙ ap revoking ((number_part 2).complete number w rest)
read_back DayPassed w rest = ap (λ t. and_then t read_kind) (byte_taken 3 rest)

-- what reading gives, and why
pub data Outcome (s : List ℕ) : Reading → Type 0 where
  event : {e : Event} {rest : List ℕ} → Writable e → s ≡ bytes_of_event e ++ rest → Outcome s (Some (Ok e, rest))
  refused : {rest : List ℕ} (f : Fields) → FieldsFit f → in_range (certificate_of f) ≡ false → s ≡ 1 ∷ (fields_bytes f ++ rest) →
      Outcome s (Some (Err OutOfRange, rest))
  stop : Outcome s None

module _ (s : List ℕ) (small : AllByRecursion (λ b. b < 256) s) where
  issued : (t : Taken Certificate) → frame s ≡ t → Outcome (1 ∷ s) (looked t)
  issued None is = stop
  issued (Some p) is =
      let (f, fits, v, w) = frame_part.sound s small p.0 p.1 is in
      let read : in_range p.0 ≡ true → Outcome (1 ∷ s) (Some (Ok (Issued p.0), p.1)) = λ ok.
      let (well, same) = formed f fits (rw v at ok) in
      rw v (event well (ap (λ t. 1 ∷ t) (w ∙ ap (λ t. t ++ p.1) (sym same)))) in
      cond_both (in_range p.0) _ _ (λ (r : Result Event Fault). Outcome (1 ∷ s) (Some (r, p.1))) read (λ out. refused f fits (rw v at out) (ap (λ t. 1 ∷ t) w))

  revoked : (t : Taken ℕ) → take_number 2 s ≡ t → Outcome (2 ∷ s) (revoking t)
  revoked None is = stop
  revoked (Some p) is =
      let (n, fits, v, w) = (number_part 2).sound s small p.0 p.1 is in
      rw v (event fits (ap (λ t. 2 ∷ t) w))

  of_kind : (kind : ℕ) → Outcome (kind ∷ s) (read_kind kind s)
  of_kind kind =
      cond_both (eqb kind 1) _ _ (Outcome (kind ∷ s)) (λ is. rw (eqb-true kind 1 is) (issued (frame s) refl)) λ not1.
      cond_both (eqb kind 2) _ _ (Outcome (kind ∷ s)) (λ is. rw (eqb-true kind 2 is) (revoked (take_number 2 s) refl)) λ not2.
      cond_both (eqb kind 3) _ _ (Outcome (kind ∷ s)) (λ is. rw (eqb-true kind 3 is) (event tt refl)) λ not3.
      stop

pub outcome : (s : List ℕ) → AllByRecursion (λ b. b < 256) s → Outcome s (event_read s)
outcome [] small = stop
outcome (kind ∷ s) small = rw (byte_taken kind s) (of_kind s small.1 kind)

module _ (s : List ℕ) where
  event_read_lem : {r : Reading} → Outcome s r → (e : Event) (rest : List ℕ) → r ≡ Some (Ok e, rest) → Writable e × (s ≡ bytes_of_event e ++ rest)
  event_read_lem (event {e = e₁} {rest = rest₁} w is) e rest eq =
      let same : ◌≡◌ {A = Result Event Fault × List ℕ} (Ok e₁, rest₁) (Ok e, rest) = cc in
      let read : ◌≡◌ {A = Result Event Fault} (Ok e₁) (Ok e) = ap (λ (p : Result Event Fault × List ℕ). p.0) same in
      let event_is : e₁ ≡ e = cc in
      (subst Writable event_is w, is ∙ ap₂ (λ d r. bytes_of_event d ++ r) event_is (ap (λ (p : Result Event Fault × List ℕ). p.1) same))
  event_read_lem (refused {rest = rest₁} f fits out is) e rest eq =
      let same : ◌≡◌ {A = Result Event Fault × List ℕ} (Err OutOfRange, rest₁) (Ok e, rest) = cc in
      let read : ◌≡◌ {A = Result Event Fault} (Err OutOfRange) (Ok e) = ap (λ (p : Result Event Fault × List ℕ). p.0) same in
      impossible (cc)
  event_read_lem stop e rest eq = impossible (cc)

  refused_read : {r : Reading} → Outcome s r → (fault : Fault) (rest : List ℕ) → r ≡ Some (Err fault, rest) → (fault ≡ OutOfRange) × OutOfRangeThen s rest
  refused_read (event {e = e₁} {rest = rest₁} w is) fault rest eq =
      let same : ◌≡◌ {A = Result Event Fault × List ℕ} (Ok e₁, rest₁) (Err fault, rest) = cc in
      let read : ◌≡◌ {A = Result Event Fault} (Ok e₁) (Err fault) = ap (λ (p : Result Event Fault × List ℕ). p.0) same in
      impossible (cc)
  refused_read (refused {rest = rest₁} f fits out is) fault rest eq =
      let same : ◌≡◌ {A = Result Event Fault × List ℕ} (Err OutOfRange, rest₁) (Err fault, rest) = cc in
      let read : ◌≡◌ {A = Result Event Fault} (Err OutOfRange) (Err fault) = ap (λ (p : Result Event Fault × List ℕ). p.0) same in
      let rest_is : rest₁ ≡ rest = ap (λ (p : Result Event Fault × List ℕ). p.1) same in
      (cc, (f, fits, out, is ∙ ap (λ r. 1 ∷ (fields_bytes f ++ r)) rest_is))
  refused_read stop fault rest eq = impossible (cc)

pub exactly : (s : List ℕ) → AllByRecursion (λ b. b < 256) s → Exactly s (event_read s)
exactly s small =
    let so = outcome s small in
    record {
      reads = λ e rest. (event_read_lem s so e rest, λ p. rw p.1 (read_back e p.0 rest));
      refuses = λ fault rest. (
        refused_read s so fault rest,
        λ p. let (f, fits, out, is) = p.1 in rw (is, fields_read f fits rest, out) (ap (λ t. Some (Err t, rest)) (sym p.0)),
      );
    }

-- a slice of bytes is a list of bytes
pub bytes_of_slice : (d : List ℕ) → ((i : ℕ) → Fits w8 (get_or d i 0)) → AllByRecursion (λ b. b < 256) d
bytes_of_slice d fits = All-from_get_or (λ b. b < 256) d 0 (λ i h. (fits i).fits)

-- the same of any answer that is what reading gives
pub exactly_read : (s : List ℕ) (r : Reading) → ((i : ℕ) → Fits w8 (get_or s i 0)) → r ≡ event_read s → Exactly s r
exactly_read s r small is = rw is (exactly s (bytes_of_slice s small))
