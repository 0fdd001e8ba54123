-- Texts of a size are bytes.
use Rattle.std.proofs.Common.{arith, ◌≡◌, ℕ, ◌<◌, true, nat_lt, suc, List, [], ◌∷◌, length, get_or, refl, inl, inr, lit<}
use Rattle.std.proofs.lemmas.Bool.{cases_lt, ltb-true}
use Rattle.std.proofs.lemmas.List.{get_or_past}
use Rattle.std.proofs.lemmas.List.Elements.{All-get_or}
use Rattle.std.proofs.lemmas.Bool.Decides.{nat_tests}
use Rattle.std.proofs.lemmas.List.Sums.{AllPass-from_list_all}
use Rattle.base64.specs.GeneralPurpose.{IsBytes}
use Rattle.csp_model.specs.Validity.{are_bytes, IsOfSize}

bytes_are : (bytes : List ℕ) → IsBytes bytes → are_bytes bytes ≡ true
bytes_are [] small = refl
bytes_are (b ∷ bytes) small =
    let first : b < 256 = small 0 in
    let rest : are_bytes bytes ≡ true = bytes_are bytes (λ i. small (suc i)) in
    grind (arith, nat_tests, first, rest)

pub of_size : (size : ℕ) (bytes : List ℕ) → length bytes ≡ size → IsBytes bytes → IsOfSize size bytes
of_size size bytes sized small = (sized, bytes_are bytes small)

are_small : (bytes : List ℕ) → are_bytes bytes ≡ true → IsBytes bytes
are_small bytes all i = elim (cases_lt i (length bytes)) [
  | inl lt ↦
      let small = AllPass-from_list_all (λ b. nat_lt b 256) bytes all in
      ltb-true (get_or bytes i 0) 256 (All-get_or (λ b. nat_lt b 256 ≡ true) bytes i 0 lt small)
  | inr ge ↦ rw (get_or_past bytes i 0 ge) (lit< tt)
]

pub bytes_of_size : (size : ℕ) (bytes : List ℕ) → IsOfSize size bytes → IsBytes bytes
bytes_of_size size bytes sized = are_small bytes sized.1
