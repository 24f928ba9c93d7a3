-- Numbers of k bytes: their value byte by byte, and that reading and writing are inverse. Assumes nothing.
use Rattle.std.proofs.Common.{◌≡◌, ℕ, zero, suc, ◌+◌, ◌*◌, ◌/◌, ◌%◌, ◌^◌, ◌<◌, ◌≤◌, List, [], ◌∷◌, ◌++◌, length, get_or, take, sym, refl, ap, ap₂, ◌∙◌, pow-suc, mul_comm, add-one, arith}
use Rattle.std.proofs.lemmas.Nat.{div-mul-add, mod-mul-add, div-add-mod', div_below}
use Rattle.std.proofs.lemmas.Int.Digits.{number_more, number_push}
use Rattle.std.proofs.lemmas.List.{take_more}
use Rattle.std.specs.Int.{byte_at, bytes_high_first}
use Rattle.std.specs.Int.Digits.{number_from_digits}
use Rattle.wire.specs.Numbers.{bytes}
use native.Mathlib.Nat.{div-div-eq-div-mul}

-- one byte more in front of the rest
number_next : (s : List ℕ) (i : ℕ) → i < length s → number_from_digits 256 (take (suc i) s) ≡ number_from_digits 256 (take i s) * 256 + get_or s i 0
number_next s i h = rw (add-one i) at (number_more 256 s i h)

-- a byte above the lowest, of the number or of what is left of it without the lowest
next_byte : (k n : ℕ) → byte_at (suc k) n ≡ byte_at k (n / 256)
next_byte zero n = refl
next_byte (suc k) n = ap (λ p. n / p % 256) (pow-suc 256 (suc k) ∙ mul_comm (256 ^ suc k) 256) ∙ ap (λ m. m % 256) (sym (div-div-eq-div-mul n 256 (256 ^ suc k)))

-- the lowest byte is the last
lowest_last : (k n : ℕ) → bytes_high_first (suc k) n ≡ bytes_high_first k (n / 256) ++ (n % 256 ∷ [])
lowest_last zero n = refl
lowest_last (suc k) n = ap₂ (λ b bs. b ∷ bs) (next_byte k n) (lowest_last k n)

-- the bytes that std makes of a number, highest first, are its bytes
pub bytes_be : (k n : ℕ) → bytes k n ≡ bytes_high_first k n
unfolding bytes
bytes_be zero n = refl
bytes_be (suc k) n = ap (λ bs. bs ++ (n % 256 ∷ [])) (bytes_be k (n / 256)) ∙ sym (lowest_last k n)

pub bytes_of_4 : (n : ℕ) → bytes_high_first 4 n ≡ bytes 4 n
bytes_of_4 n = sym (bytes_be 4 n)

-- a number is what its bytes say
pub number_bytes : (k n : ℕ) → n < 256 ^ k → number_from_digits 256 (bytes k n) ≡ n
unfolding bytes
number_bytes zero n small = omega (arith, small)
number_bytes (suc k) n small =
    let high : n / 256 < 256 ^ k = div_below n 256 (256 ^ k) (omega arith) (rw (pow-suc 256 k) at small) in
    number_push 256 (bytes k (n / 256)) (n % 256)
    ∙ (ap (λ m. m * 256 + n % 256) (number_bytes k (n / 256) high)
    ∙ div-add-mod' n 256)

-- bytes are those of their number
pub bytes_number : (s : List ℕ) → ((i : ℕ) → get_or s i 0 < 256) → (k : ℕ) → k ≤ length s → bytes k (number_from_digits 256 (take k s)) ≡ take k s
unfolding bytes
bytes_number s small zero h = refl
bytes_number s small (suc k) h =
    let m = number_from_digits 256 (take k s) in
    let b = get_or s k 0 in
    rw (number_next s k h)
    (rw (div-mul-add m 256 b (small k), mod-mul-add m 256 b (small k), bytes_number s small k (omega arith))
    (sym (rw (add-one k) at (take_more s k 0 h))))
