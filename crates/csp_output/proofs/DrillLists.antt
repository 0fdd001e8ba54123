-- The lists of a drill are as reading makes them.
use Rattle.std.proofs.Common.{◌≡◌, ◌<◌, ◌≤◌, ◌-◌, ◌%◌, ◌^◌, ℕ, List, [], ◌∷◌, ◌++◌, length, map, max, inr, refl, arith}
use Rattle.std.specs.Prelude.{All, IsTrue, codes, fold}
use Rattle.std.specs.List.{flat_map}
use Rattle.std.proofs.lemmas.List.Elements.{All-nil, All-cons, All-head, All-tail, All-append}
use Rattle.std.proofs.lemmas.List.FromFn.{length-map-range_with_len}
use Rattle.csp_model.specs.Ascii.{is_ascii_text}
use Rattle.csp_model.specs.Policies.{IsReadable, IsReadablePolicy}
use Rattle.csp_model.specs.Reading.{source_of}
use Rattle.csp_model.specs.Validity.{IsValidOrigin, is_domain, is_domain_byte, ends_in_number}
use Rattle.csp_model.specs.declared.policy.Directive.{Directive}
use Rattle.csp_model.specs.declared.policy.Policy.{Policy}
use Rattle.csp_output.specs.Drills.{drill_origin, first_token, second_token, tokens_up_to, image_policy, first_list, second_list}
use Rattle.csp_output.proofs.DrillTexts.{each_token, plain_first, plain_second}

-- Tokens

abbrev pub IsAscii : List ℕ → Type 0
IsAscii text = IsTrue (is_ascii_text text)

abbrev pub IsShort : List ℕ → Type 0
IsShort text = length text ≤ 4096

-- of the first list, of the second, and of every host
pub first_ascii : (pairs : ℕ) → pairs < 2 ^ 8 → All IsAscii (tokens_up_to first_token pairs)
first_ascii pairs few = each_token IsAscii first_token pairs few (λ pair small. (plain_first pair small).ascii)

pub second_ascii : (pairs : ℕ) → pairs < 2 ^ 8 → All IsAscii (tokens_up_to second_token pairs)
second_ascii pairs few = each_token IsAscii second_token pairs few (λ pair small. (plain_second pair small).ascii)

pub any_ascii : All IsAscii (codes "https://*.example:*" ∷ [])
any_ascii = All-cons IsAscii _ [] refl (All-nil IsAscii)

first_short : (pairs : ℕ) → pairs < 2 ^ 8 → All IsShort (tokens_up_to first_token pairs)
first_short pairs few = each_token IsShort first_token pairs few (λ pair small. (plain_first pair small).short)

second_short : (pairs : ℕ) → pairs < 2 ^ 8 → All IsShort (tokens_up_to second_token pairs)
second_short pairs few = each_token IsShort second_token pairs few (λ pair small. (plain_second pair small).short)

any_short : All IsShort (codes "https://*.example:*" ∷ [])
any_short = All-cons IsShort _ [] (omega arith) (All-nil IsShort)

-- Policies

valid_origin : IsValidOrigin drill_origin
unfolding is_domain is_domain_byte ends_in_number
valid_origin = (inr refl, refl, tt)

policy_readable : (tokens : List (List ℕ)) → IsReadablePolicy (image_policy tokens)
policy_readable tokens = record {
  some = λ h. cc;
  distinct = λ i j d before within. absurd (omega arith);
  read = All-cons (λ (d : Directive). d.sources ≡ map source_of d.tokens) _ [] refl (All-nil _);
  origin = valid_origin;
}

-- the texts of policies
abbrev texts_of : Policy → List (List ℕ)
texts_of p = flat_map (λ (d : Directive). d.name ∷ d.tokens) p.directives

policy_short : (tokens : List (List ℕ)) → All IsShort tokens → All IsShort (texts_of (image_policy tokens))
policy_short tokens short =
    All-append IsShort (codes "img-src" ∷ tokens) []
    (All-cons IsShort (codes "img-src") tokens (omega arith) short) (All-nil IsShort)

-- Lists

longest_within : (most : ℕ) (texts : List (List ℕ)) (n : ℕ) → n ≤ most → All (λ text. length text ≤ most) texts
    → fold (λ m text. max m (length text)) n texts ≤ most
longest_within most [] n within all = within
longest_within most (text ∷ texts) n within all =
    let here : length text ≤ most = All-head (λ t. length t ≤ most) text texts all in
    longest_within most texts (max n (length text)) (omega (arith, within, here))
    (All-tail (λ t. length t ≤ most) text texts all)

abbrev any_tokens : List (List ℕ)
any_tokens = codes "https://*.example:*" ∷ []

pub first_readable : (pairs : ℕ) → pairs < 2 ^ 8 → IsReadable (first_list pairs)
first_readable pairs few =
    let tokens : List (List ℕ) = tokens_up_to first_token pairs in
    let texts : List (List ℕ) = texts_of (image_policy tokens) in
    let others : List (List ℕ) = texts_of (image_policy any_tokens) ++ [] in
    let others_short : All IsShort others =
    All-append IsShort (texts_of (image_policy any_tokens)) [] (policy_short any_tokens any_short) (All-nil IsShort) in
    record {
      policies = omega arith;
      tokens = omega (arith, length-map-range_with_len first_token 1 pairs);
      texts = longest_within 4096 (texts ++ others) 0 (omega arith)
          (All-append IsShort texts others (policy_short tokens (first_short pairs few)) others_short);
      each = All-cons IsReadablePolicy (image_policy tokens) (image_policy any_tokens ∷ []) (policy_readable tokens)
          (All-cons IsReadablePolicy (image_policy any_tokens) [] (policy_readable any_tokens)
          (All-nil IsReadablePolicy));
    }

pub second_readable : (pairs : ℕ) → pairs < 2 ^ 8 → IsReadable (second_list pairs)
second_readable pairs few =
    let count : ℕ = pairs - pairs % 2 in
    let fewer : count < 2 ^ 8 = omega arith in
    let tokens : List (List ℕ) = tokens_up_to second_token count in
    let texts : List (List ℕ) = texts_of (image_policy tokens) in
    record {
      policies = omega arith;
      tokens = omega (arith, length-map-range_with_len second_token 1 count);
      texts = longest_within 4096 (texts ++ []) 0 (omega arith)
          (All-append IsShort texts [] (policy_short tokens (second_short count fewer)) (All-nil IsShort));
      each = All-cons IsReadablePolicy (image_policy tokens) [] (policy_readable tokens)
          (All-nil IsReadablePolicy);
    }
