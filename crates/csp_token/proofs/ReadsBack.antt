-- Printed integrity metadata reads back.
use Rattle.std.proofs.Common.{arith, ◌≡◌, ◌∙◌, sym, ap, refl, ℕ, ◌<◌, true, false, List, [], ◌∷◌, ◌++◌, length, Some, append-nil}
use Rattle.std.specs.List.{All, list_all, flat_map, filter_map, cons_option, before_first}
use Rattle.std.specs.Char.{is_ascii_whitespace}
use Rattle.std.proofs.lemmas.Grind.{common_steps}
use Rattle.std.proofs.lemmas.List.Elements.{All-head, All-tail, All-weaker}
use Rattle.std.proofs.lemmas.List.Sums.{AllPass-from_list_all}
use Rattle.csp_model.specs.Ascii.{code}
use Rattle.csp_model.specs.Validity.{IsIntegrityValue}
use Rattle.csp_token.specs.Types.{Algorithm, Hash}
use Rattle.csp_model.specs.declared.source.Algorithm.TheVariants.{Sha256, Sha384, Sha512}
use Rattle.csp_model.proofs.WordLaws.{IsSolid, one_word, word_before}
use Rattle.csp_token.proofs.Values.{is_value_byte}
use Rattle.csp_token.specs.Integrity.{is_hyphen, is_question_mark, hash_of_pair, hash_of_token, hash_text, integrity_of, integrity_text}

-- the first pair, and a space and a pair for each other
pub joined : (x : Hash) (xs : List Hash) → integrity_text (x ∷ xs) ≡ hash_text x ++ flat_map (λ pair. code " " ∷ hash_text pair) xs
joined x [] = sym (append-nil (hash_text x))
joined x (y ∷ xs) = ap (λ rest. hash_text x ++ (code " " ∷ rest)) (joined y xs)

text_bytes : (a : Algorithm) (value : List ℕ) → list_all is_value_byte value ≡ true → list_all is_value_byte (hash_text (record { algorithm = a; value = value })) ≡ true
text_bytes Sha256 value h = h
text_bytes Sha384 value h = h
text_bytes Sha512 value h = h

text_filled : (a : Algorithm) (value : List ℕ) → 0 < length (hash_text (record { algorithm = a; value = value }))
text_filled Sha256 value = omega arith
text_filled Sha384 value = omega arith
text_filled Sha512 value = omega arith

pair_back : (a : Algorithm) (value : List ℕ) → hash_of_pair (hash_text (record { algorithm = a; value = value })) ≡ Some (record { algorithm = a; value = value })
unfolding is_hyphen
pair_back Sha256 value = refl
pair_back Sha384 value = refl
pair_back Sha512 value = refl

no_space : (b : ℕ) → is_value_byte b ≡ true → is_ascii_whitespace b ≡ false
no_space b h = grind (arith, common_steps)

whole : (x : List ℕ) → list_all is_value_byte x ≡ true → before_first is_question_mark x ≡ x
unfolding is_question_mark
whole [] h = refl
whole (b ∷ x) h = grind (arith, common_steps, whole x)

token_back : (h : Hash) → IsIntegrityValue h.value → hash_of_token (hash_text h) ≡ Some h
token_back h is = ap hash_of_pair (whole (hash_text h) (text_bytes h.algorithm h.value is.1)) ∙ pair_back h.algorithm h.value

solid : (h : Hash) → IsIntegrityValue h.value → IsSolid (hash_text h)
solid h is = All-weaker (λ b. is_value_byte b ≡ true) (λ b. is_ascii_whitespace b ≡ false) no_space (hash_text h)
    (AllPass-from_list_all is_value_byte (hash_text h) (text_bytes h.algorithm h.value is.1))

pub reads_back : (hs : List Hash) → All (λ pair. IsIntegrityValue pair.value) hs → integrity_of (integrity_text hs) ≡ hs
reads_back [] all = refl
reads_back (x ∷ []) all =
    let is = All-head (λ pair. IsIntegrityValue pair.value) x [] all in
    ap (filter_map hash_of_token) (one_word (hash_text x) (text_filled x.algorithm x.value) (solid x is)) ∙ ap (λ made. cons_option made []) (token_back x is)
reads_back (x ∷ y ∷ hs) all =
    let is = All-head (λ pair. IsIntegrityValue pair.value) x (y ∷ hs) all in
    ap (filter_map hash_of_token)
    (word_before (hash_text x) (code " ") (integrity_text (y ∷ hs)) (text_filled x.algorithm x.value) (solid x is) refl)
    ∙ ap (λ made. cons_option made (integrity_of (integrity_text (y ∷ hs)))) (token_back x is)
    ∙ ap (λ rest. x ∷ rest) (reads_back (y ∷ hs) (All-tail (λ pair. IsIntegrityValue pair.value) x (y ∷ hs) all))
