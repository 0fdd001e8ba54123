-- Integrity metadata as a text (Subresource Integrity, section 3.3).
use Rattle.std.specs.Prelude.{ℕ, ◌==◌, Bool, List, ◌∷◌, ◌++◌, map, Option, option_map}
use Rattle.std.specs.List.{before_first, after_first, filter_map, join_with_byte}
use Rattle.csp_model.specs.Ascii.{code, lower, words}
use Rattle.csp_model.specs.Grammar.{algorithm_text, algorithm_named}
use Rattle.csp_token.specs.Types.{Hash}

unfoldable pub is_hyphen : ℕ → Bool
is_hyphen c = c == code "-"

unfoldable pub is_question_mark : ℕ → Bool
is_question_mark c = c == code "?"

-- algorithm "-" value: the algorithm's letters may be of either case, and without "-" the value is empty
abbrev pub hash_of_pair : List ℕ → Option Hash
hash_of_pair text =
    option_map (λ algorithm. record { algorithm = algorithm; value = after_first is_hyphen text })
    (algorithm_named (lower (before_first is_hyphen text)))

-- a token is a pair and, from its first "?" on, options, which say nothing
abbrev pub hash_of_token : List ℕ → Option Hash
hash_of_token token = hash_of_pair (before_first is_question_mark token)

-- the pairs of a text's words that are of a known algorithm
abbrev pub integrity_of : List ℕ → List Hash
integrity_of text = filter_map hash_of_token (words text)

-- a pair as it is written
abbrev pub hash_text : Hash → List ℕ
hash_text hash = algorithm_text hash.algorithm ++ (code "-" ∷ hash.value)

-- pairs as they are written: a space between each two
abbrev pub integrity_text : List Hash → List ℕ
integrity_text pairs = join_with_byte (code " ") (map hash_text pairs)
