-- What is written into a request opens the gate. Assumes nothing.
use Rattle.std.proofs.Common.{◌≡◌, ℕ, ◌≤◌, Bool, true, false, cond, ◌&&◌, eqb, leb, List, [], ◌∷◌, ◌++◌, length, take, drop, Some, None, Ok, Err, Result, sym, ap, ◌∙◌, ap₂, append_assoc, arith}
use Rattle.certificates.specs.declared.Certificate.{Certificate}
use Rattle.finding.specs.Asking.{request_length, with_sheet}
use Rattle.finding.specs.Growing.{looked_at, bare_head}
use Rattle.finding.specs.Worth.{gate_of, OpenedBy, OpensAsked}
use Rattle.finding.specs.declared.sheets_found.Unfound.{Unfound}
use Rattle.finding.specs.declared.sheets_found.Unfound.TheVariants.{Malformed, OutOfRange}
use Rattle.promise.proofs.HeadRead.{head_written}
use Rattle.promise.specs.Promise.{Bytes, request_bytes}
use Rattle.promise.specs.Requests.{take_head, receive}
use Rattle.promise.specs.declared.heads.Head.{Head}
use Rattle.sheets.proofs.Shown.{impossible}
use Rattle.sheets.specs.Bytes.{bytes_of_sheet}
use Rattle.sheets.specs.Sheets.{Line}
use Rattle.sheets.specs.declared.checking.Question.{Question}
use Rattle.std.proofs.lemmas.List.{take_at, take-take, length-append, length-take, take-append-le}
use Rattle.wire.proofs.Numerals.{length_bytes}
use Rattle.wire.specs.Numbers.{Taken, bytes}

-- the first four bytes of a request
abbrev pub front : Head → List ℕ
front h = 4 ∷ (bytes 2 h.house ++ (h.right ∷ []))

front_long : (h : Head) → length (front h) ≡ 4
front_long h = omega (arith, length-append (bytes 2 h.house) (h.right ∷ []), length_bytes 2 h.house)

pub front_read : (request : List ℕ) → Bytes request → (h : Head) (rest : List ℕ) → take_head request ≡ Some (h, rest) → take 4 request ≡ front h
front_read request small h rest is =
    let behind = bytes 4 h.lines ++ rest in
    let parted : request ≡ front h ++ behind
    = head_written request small h rest is ∙ ap (λ t. 4 ∷ t) (sym (append_assoc (bytes 2 h.house) (h.right ∷ []) behind)) in
    ap (take 4) parted ∙ take_at (front h) behind 4 (front_long h)

-- of what was written the front is the request with its sheet, if the first four bytes are those of its head
with_front : (request : List ℕ) (h : Head) → take 4 request ≡ front h → (lines : List Line) → take (request_length lines) (with_sheet request lines) ≡ request_bytes h.house h.right lines
with_front request h is lines =
    let sheet = bytes_of_sheet lines in
    let count = bytes 4 (length lines) in
    let behind = drop (request_length lines) request in
    let long : length (front h ++ (count ++ sheet)) ≡ request_length lines =
    omega (arith, length-append (front h) (count ++ sheet), length-append count sheet, front_long h, length_bytes 4 (length lines)) in
    ap (λ xs. take (request_length lines) (xs ++ (count ++ (sheet ++ behind)))) is
    ∙ (ap (λ xs. take (request_length lines) (front h ++ xs)) (sym (append_assoc count sheet behind))
    ∙ (ap (take (request_length lines)) (sym (append_assoc (front h) (count ++ sheet) behind))
    ∙ (take_at (front h ++ (count ++ sheet)) behind (request_length lines) long
    ∙ ap (λ t. 4 ∷ t) (append_assoc (bytes 2 h.house) (h.right ∷ []) (count ++ sheet)))))

-- so it opens the gate
pub written_opens : (cs : List Certificate) (q : Question) (request request' : List ℕ) (lines : List Line) (long : ℕ) →
    request' ≡ with_sheet request lines → long ≡ request_length lines → OpenedBy cs q lines → OpensAsked cs q request request' (Ok long)
written_opens cs q request request' lines long wrote long_is opened = λ small h rest is house access well.
    let bytes_are : take long request' ≡ request_bytes q.house q.access.right lines =
    ap₂ take long_is wrote ∙ (with_front request h (front_read request small h rest is) lines ∙ ap₂ (λ a b. request_bytes a b lines) house access) in
    ap (λ xs. (receive (gate_of cs q) xs).1) bytes_are ∙ opened well

kept_head : (t : Bool) (h h' : Head) (r : Result Head Unfound) → (r ≡ Ok h → h' ≡ h) → (e : Unfound) → cond t r (Err e) ≡ Ok h → h' ≡ h
kept_head true h h' r same e is = same is
kept_head false h h' r same e is = impossible (cc)

-- a head that is taken was read
bare_read : (h : Head) (t : Taken Head) → looked_at t ≡ Ok h → (rest : List ℕ) × (t ≡ Some (h, rest))
bare_read h None is = impossible (cc)
bare_read h (Some p) is =
    let same : p.0 ≡ h = kept_head (leb p.0.house 1023 && leb p.0.right 63) h p.0 _
    (kept_head (eqb p.0.lines 0 && eqb (length p.1) 0) h p.0 (Ok p.0) (λ e. cc) Malformed) OutOfRange is in
    (p.1, ap (λ x. Some (x, p.1)) same)

-- what is written behind a head that nothing follows, with room for it, is the request with its sheet
pub behind_head : (head request request' more behind : List ℕ) (lines : List Line) (long : ℕ) → request ≡ take (request_length lines) head ++ more → long ≡ request_length lines →
    request' ≡ with_sheet request lines → Bytes head → (h : Head) → bare_head head ≡ Ok h → take long (request' ++ behind) ≡ request_bytes h.house h.right lines
behind_head head request request' more behind lines long is long_is wrote small h taken =
    let (rest, read) = bare_read h (take_head head) taken in
    let n = request_length lines in
    let first = front_read head small h rest read in
    let four : length (take 4 head) ≡ 4 = ap length first ∙ front_long h in
    let enough : 4 ≤ length (take n head) = omega (arith, length-take n head, length-take 4 head) in
    let kept : take 4 request ≡ take 4 head = ap (take 4) is ∙ (take-append-le 4 (take n head) more enough ∙ take-take 4 n head (omega arith)) in
    let sheet = bytes_of_sheet lines in
    let count = bytes 4 (length lines) in
    let fits : n ≤ length (with_sheet request lines) =
    omega (arith, length-append (take 4 request) (count ++ (sheet ++ drop n request)), length-append count (sheet ++ drop n request), length-append sheet (drop n request), length_bytes 4 (length lines), ap length kept) in
    ap₂ (λ k xs. take k (xs ++ behind)) long_is wrote ∙ (take-append-le n (with_sheet request lines) behind fits ∙ with_front request h (kept ∙ first) lines)
