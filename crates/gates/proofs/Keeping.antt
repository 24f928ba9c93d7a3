-- What a gate keeps on each event, and when it answers. Assumes nothing.
use Rattle.std.proofs.Common.{◌≡◌, ℕ, ◌+◌, ◌<◌, List, [], ◌∷◌, ◌++◌, length, get_or, take, max, Fits, w8, sym, ap, ap₂, ◌∙◌, arith}
use Rattle.gates.specs.declared.Gate.{Gate}
use Rattle.gates.specs.Gates.{state_of}
use Rattle.promise.proofs.Fronts.{front_answered}
use Rattle.promise.proofs.OnCall.{answer_kept_lem}
use Rattle.promise.specs.Promise.{KeptAnswer}
use Rattle.promise.specs.Requests.{longest_request, answer}
use Rattle.promise.specs.declared.answers.Answer.{Answer}
use Rattle.wire.proofs.Exact.{bytes_of_slice}
use Rattle.certificates.specs.declared.Certificate.{Certificate}
use Rattle.sheets.specs.Bytes.{line_size, longest_line}
use Rattle.std.proofs.lemmas.List.{take_more}

-- the longest line of some certificates and one more
longest_push : (cs : List Certificate) (c : Certificate) → longest_line (cs ++ (c ∷ [])) ≡ max (longest_line cs) (line_size c)
unfolding longest_line
longest_push [] c = omega arith
longest_push (d ∷ cs) c = omega (arith, longest_push cs c)

pub longest_more : (cs : List Certificate) (i : ℕ) (d : Certificate) {longest size : ℕ} → i < length cs → longest ≡ longest_line (take i cs) →
    size ≡ line_size (get_or cs i d) → max longest size ≡ longest_line (take (i + 1) cs)
longest_more cs i d below so_far here =
    ap₂ max so_far here ∙ sym (ap longest_line (take_more cs i d below) ∙ longest_push (take i cs) (get_or cs i d))

module _ (gate : Gate) (d : List ℕ) where
  -- more bytes than any request can have are answered as their front is
  pub front_enough : (more : List ℕ) → longest_request (state_of gate).certificates < length d → answer (state_of gate) (d ++ more) ≡ answer (state_of gate) d
  front_enough more long = front_answered (state_of gate) d more long

  -- what is promised of an answer follows from which answer it is
  pub answer_kept : (answered : Answer) → ((i : ℕ) → Fits w8 (get_or d i 0)) → answered ≡ answer (state_of gate) d → KeptAnswer (state_of gate) d answered
  answer_kept answered fits is =
      let known : gate.owner < 1024 = omega (arith, gate.known) in
      answer_kept_lem (state_of gate) d answered known (bytes_of_slice d fits) is
