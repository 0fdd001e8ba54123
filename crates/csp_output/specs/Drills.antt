-- What `drill` compares, and what it prints.
use Rattle.std.specs.Prelude.{◌≡◌, ℕ, ◌+◌, ◌-◌, ◌%◌, List, [], ◌∷◌, ◌++◌, None, map, codes, decimal}
use Rattle.std.specs.Prelude.{false}
use Rattle.std.specs.List.{range_with_len}
use Rattle.csp_model.specs.Reading.{source_of}
use Rattle.csp_model.specs.declared.policy.Disposition.TheVariants.{Enforce}
use Rattle.csp_model.specs.declared.policy.Policy.{Policy}
use Rattle.csp_model.specs.declared.policy.PolicyList.{PolicyList}
use Rattle.csp_model.specs.declared.url.Host.TheVariants.{Domain}
use Rattle.csp_model.specs.declared.url.Origin.{Origin}
use Rattle.csp_model.specs.declared.url.Origin.TheVariants.{Tuple}
use Rattle.csp_model.specs.declared.url.Scheme.TheVariants.{Https}
use Rattle.csp_output.specs.declared.built.Built.{Built}
use Rattle.csp_output.specs.declared.status.Status.{Status}
use Rattle.csp_output.specs.declared.status.Status.TheVariants.{Clean}
use Rattle.csp_output.specs.Comparisons.{IsComparison}

-- The two lists

-- https://drill.example
abbrev pub drill_origin : Origin
drill_origin = Tuple Https (Domain (codes "drill.example")) None

-- the token of a pair in the first list, as https://h9.example:8002/d4/
unfoldable pub first_token : ℕ → List ℕ
first_token pair =
    codes "https://h" ++ (decimal pair ++ (codes ".example:" ++ (decimal (8000 + pair % 7)
    ++ (codes "/d" ++ (decimal (pair % 5) ++ codes "/")))))

-- and in the second, as https://h9.example:*/d4/
unfoldable pub second_token : ℕ → List ℕ
second_token pair =
    codes "https://h" ++ (decimal pair ++ (codes ".example:*/d" ++ (decimal (pair % 5) ++ codes "/")))

-- the tokens of the pairs from 1 up to this number
abbrev pub tokens_up_to : (ℕ → List ℕ) → ℕ → List (List ℕ)
tokens_up_to token pairs = map token (range_with_len 1 pairs)

-- one enforced policy, which allows images by these tokens
abbrev pub image_policy : List (List ℕ) → Policy
image_policy tokens = record {
  disposition = Enforce;
  meta = false;
  origin = drill_origin;
  directives = record { name = codes "img-src"; tokens = tokens; sources = map source_of tokens } ∷ [];
}

abbrev pub first_list : ℕ → PolicyList
first_list pairs = record {
  policies = image_policy (tokens_up_to first_token pairs)
      ∷ image_policy (codes "https://*.example:*" ∷ []) ∷ [];
}

-- it lacks the last token where the number is odd
abbrev pub second_list : ℕ → PolicyList
second_list pairs = record { policies = image_policy (tokens_up_to second_token (pairs - pairs % 2)) ∷ [] }

-- The output

-- how an answer of the comparison with this status is called
abbrev pub answer_word : Status → List ℕ
answer_word Clean = codes " subsumed\n"
answer_word status = codes " found\n"

-- The line with the kind of an answer, and behind it the answer of the comparison of the two lists.
pub record IsDrill (pairs : ℕ) (built : Built) : Type 0 where
  pub compared : Built
  pub answer : IsComparison (first_list pairs) (second_list pairs) compared
  pub status : built.status ≡ Clean
  pub text : built.text
      ≡ codes "drill " ++ (decimal pairs ++ (answer_word compared.status ++ compared.text))
