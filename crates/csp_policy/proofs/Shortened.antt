-- Directives that are read with room for so many tokens.
use Rattle.std.proofs.Common.{arith, ◌≡◌, ◌∙◌, sym, ap, ℕ, ◌+◌, ◌-◌, ◌≤◌, List, [], ◌∷◌, ◌++◌, length, map, take, min, length-append}
use Rattle.std.proofs.lemmas.List.{take_all, length-take}
use Rattle.std.proofs.lemmas.List.Sums.{sum_by_push}
use Rattle.csp_model.specs.Ascii.{lower}
use Rattle.csp_model.specs.Reading.{source_of}
use Rattle.csp_policy.specs.Types.{Directive}
use Rattle.csp_policy.specs.Room.{directive_with, shortened, tokens_in, AreShortened}

tokens_more : (ds : List Directive) (d : Directive) → tokens_in (ds ++ d ∷ []) ≡ tokens_in ds + length d.tokens
tokens_more ds d = sum_by_push (λ (d : Directive). length d.tokens) ds d

abbrev directive_with_lower : List ℕ → List (List ℕ) → Directive
directive_with_lower name tokens = record { name = name; tokens = tokens; sources = map source_of tokens }

-- with room for all
pub fits : (room : ℕ) (name : List ℕ) (tokens : List (List ℕ)) → length tokens ≤ room → shortened room (directive_with name tokens) ≡ directive_with name tokens
fits room name tokens h = ap (directive_with_lower (lower name)) (take_all room tokens h)

-- one more directive
pub one_shortened : (ds made : List Directive) (room now : ℕ) (name : List ℕ) (tokens : List (List ℕ)) → AreShortened ds made room now
    → AreShortened (ds ++ directive_with name tokens ∷ []) (made ++ shortened now (directive_with name tokens) ∷ []) room (now - length tokens)
one_shortened ds made room now name tokens h =
    let all = tokens_more ds (directive_with name tokens) in
    let some = tokens_more made (shortened now (directive_with name tokens)) in
    let taken : length (take now tokens) ≡ min now (length tokens) = length-take now tokens in
    record {
      number = length-append made _ ∙ ap (λ n. n + 1) h.number ∙ sym (length-append ds _);
      left = omega arith;
      kept = omega arith;
      whole = λ within.
          let small : tokens_in ds ≤ room = omega arith in
          let enough : length tokens ≤ now = omega arith in
          ap (λ ms. ms ++ shortened now (directive_with name tokens) ∷ []) (h.whole small) ∙ ap (λ d. ds ++ d ∷ []) (fits now name tokens enough);
    }
