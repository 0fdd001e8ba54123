-- Keywords, nonces and hashes: the reading and the grammar agree.
use Rattle.std.proofs.Common.{arith, ◌≡◌, ◌∙◌, sym, ap, refl, ℕ, Bool, true, false, ◌&&◌, List, [], ◌∷◌, ◌++◌, length, take, drop, Some, None, Option, inl, inr}
use Rattle.std.specs.Prelude.{codes, bytes_eq}
use Rattle.std.specs.List.{find}
use Rattle.std.specs.Char.{to_ascii_lowercase}
use Rattle.std.specs.Option.{option_map}
use Rattle.std.proofs.Math.Seq.{drop-append_seam, take-append_seam}
use Rattle.std.proofs.lemmas.List.{take-append-drop, map-append, take-map, length-map}
use Rattle.std.proofs.lemmas.Slice.Eq.{bytes_eq-Decides}
use Rattle.csp_model.specs.Ascii.{lower, ends_in, without_last}
use Rattle.csp_model.specs.Grammar.{keyword_text, is_base64_value, IsQuoted}
use Rattle.csp_model.specs.Reading.{keywords, keyword_source, quoted_value}
use Rattle.csp_source.specs.Types.{Keyword, Source}
use Rattle.csp_model.proofs.FinalBytes.{ends_in-push, ends_in_front, without_last-push}
use Rattle.csp_source.proofs.HostLaws.{chosen}

-- the source of the keyword that a text in lower case is
abbrev pub keyword_from : List ℕ → Option Source
keyword_from text = option_map (λ word. Source.Word word) (find (λ word. bytes_eq text (keyword_text word)) keywords)

pub keyword_is : (token : List ℕ) → keyword_source token ≡ keyword_from (lower token)
unfolding keyword_source
keyword_is token = refl

keyword_found : (word : Keyword) → keyword_from (keyword_text word) ≡ Some (Source.Word word)
keyword_found word = grind arith

pub keyword_again : (token : List ℕ) (word : Keyword) → lower token ≡ keyword_text word → keyword_source token ≡ Some (Source.Word word)
keyword_again token word e = keyword_is token ∙ ap keyword_from e ∙ keyword_found word

find_passes : {X : Type 0} (p : X → Bool) (xs : List X) (x : X) → find p xs ≡ Some x → p x ≡ true
find_passes p [] x e = cc
find_passes p (y ∷ xs) x e = elim (chosen (p y) (Some y) (find p xs) x e) [
  | inl one ↦ let same : y ≡ x = cc in sym (ap p same) ∙ one.0
  | inr two ↦ find_passes p xs x two.1
]

word_takes : (o : Option Keyword) (s : Source) → option_map (λ word. Source.Word word) o ≡ Some s → (word : Keyword) × (o ≡ Some word) × (s ≡ Source.Word word)
word_takes None s e = cc
word_takes (Some word) s e = (word, refl, cc)

pub keyword_takes : (token : List ℕ) (s : Source) → keyword_source token ≡ Some s → (word : Keyword) × (s ≡ Source.Word word) × (lower token ≡ keyword_text word)
unfolding keyword_source
keyword_takes token s e =
    let (word, found, is) = word_takes (find (λ w. bytes_eq (lower token) (keyword_text w)) keywords) s e in
    (word, is, (bytes_eq-Decides (lower token) (keyword_text word)).0 (find_passes (λ w. bytes_eq (lower token) (keyword_text w)) keywords word found))

-- ---- a value between a word and "'"

pub quoted_again : (word token value : List ℕ) → IsQuoted word token value → quoted_value word token ≡ Some value
unfolding quoted_value
quoted_again word token value (letters, e, lowered, good) =
    let len : length word ≡ length letters = sym (ap length lowered) ∙ length-map letters to_ascii_lowercase in
    let f : take (length word) token ≡ letters = ap (take (length word)) e ∙ ap (λ n. take n (letters ++ (value ++ codes "'"))) len ∙ take-append_seam letters (value ++ codes "'") in
    let k : drop (length word) token ≡ value ++ codes "'" = ap (drop (length word)) e ∙ ap (λ n. drop n (letters ++ (value ++ codes "'"))) len ∙ drop-append_seam letters (value ++ codes "'") in
    let same : bytes_eq (lower letters) word ≡ true = (bytes_eq-Decides (lower letters) word).1 lowered in
    rw (f, k, same, ends_in-push 39 39 value, without_last-push value 39, good) refl

pub quoted_takes : (word token value : List ℕ) → quoted_value word token ≡ Some value → IsQuoted word token value
unfolding quoted_value
quoted_takes word token value e =
    let letters = take (length word) token in
    let rest = drop (length word) token in
    elim (chosen (bytes_eq (lower letters) word && ends_in 39 rest && is_base64_value (without_last rest)) (Some (without_last rest)) None value e) [
      | inl one ↦
          let same : bytes_eq (lower letters) word ≡ true = grind (arith, one.0) in
          let ends : ends_in 39 rest ≡ true = grind (arith, one.0) in
          let good : is_base64_value (without_last rest) ≡ true = grind (arith, one.0) in
          let is : without_last rest ≡ value = cc in
          let whole = sym (take-append-drop (length word) token) ∙ ap (λ x. letters ++ x) (ends_in_front 39 rest ends ∙ ap (λ x. x ++ codes "'") is) in
          (letters, whole, (bytes_eq-Decides (lower letters) word).0 same, sym (ap is_base64_value is) ∙ good)
      | inr two ↦ cc
    ]

-- the token in lower case begins with the word
pub quoted_lower : (word token value : List ℕ) → IsQuoted word token value → lower token ≡ word ++ lower (value ++ codes "'")
quoted_lower word token value (letters, e, lowered, good) =
    ap lower e ∙ map-append to_ascii_lowercase letters (value ++ codes "'") ∙ ap (λ x. x ++ lower (value ++ codes "'")) lowered

-- no value stands behind another word than that with which the token begins in lower case
pub quoted_none : (word token text : List ℕ) → lower token ≡ text → bytes_eq (take (length word) text) word ≡ false → quoted_value word token ≡ None
unfolding quoted_value
quoted_none word token text e apart =
    let other : bytes_eq (lower (take (length word) token)) word ≡ false =
    ap (λ x. bytes_eq x word) (sym (take-map to_ascii_lowercase (length word) token) ∙ ap (take (length word)) e) ∙ apart in
    rw other refl
