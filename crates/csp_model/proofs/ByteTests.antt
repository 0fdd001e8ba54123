-- Tests on bytes, as the code makes them.
use Rattle.std.proofs.Common.{arith, ◌≡◌, ◌∙◌, sym, ap, refl, ℕ, ◌<◌, Bool, true, false, ◌&&◌, not, suc, List, [], ◌∷◌, get_or}
use Rattle.std.specs.List.{list_all}
use Rattle.std.specs.Str.{bytes_eq}
use Rattle.std.specs.Char.{is_ascii_uppercase}
use Rattle.std.proofs.lemmas.Grind.{common_steps}
use Rattle.std.proofs.lemmas.Bool.Decides.{nat_tests}
use Rattle.csp_model.specs.Ascii.{lower}
use Rattle.csp_model.specs.Grammar.{is_scheme}
use Rattle.csp_model.specs.Validity.{are_bytes, is_lower_scheme}

pub bytes_are : (p : List ℕ) → ((i : ℕ) → get_or p i 0 < 256) → are_bytes p ≡ true
bytes_are [] small = refl
bytes_are (b ∷ p) small =
    let first : b < 256 = small 0 in
    let rest : are_bytes p ≡ true = bytes_are p (λ i. small (suc i)) in
    grind (arith, nat_tests, first, rest)

lower_same : (text : List ℕ) → list_all (λ b. not (is_ascii_uppercase b)) text ≡ bytes_eq (lower text) text
lower_same [] = refl
lower_same (b ∷ text) = let rest = lower_same text in grind (arith, nat_tests, common_steps, rest)

-- a scheme without upper-case letters is one in lower case
pub lower_is : (text bytes : List ℕ) (a b : Bool) → bytes ≡ text → a ≡ is_scheme bytes → b ≡ list_all (λ c. not (is_ascii_uppercase c)) bytes → a ≡ true → b ≡ is_lower_scheme text
unfolding is_lower_scheme
lower_is text bytes a b same scheme low is =
    let t : is_scheme text ≡ true = ap is_scheme (sym same) ∙ sym scheme ∙ is in
    low ∙ ap (list_all (λ c. not (is_ascii_uppercase c))) same ∙ lower_same text ∙ sym (ap (λ (s : Bool). s && bytes_eq (lower text) text) t)

pub not_scheme : (text bytes : List ℕ) (a : Bool) → bytes ≡ text → a ≡ is_scheme bytes → a ≡ false → a ≡ is_lower_scheme text
unfolding is_lower_scheme
not_scheme text bytes a same scheme is =
    let f : is_scheme text ≡ false = ap is_scheme (sym same) ∙ sym scheme ∙ is in
    is ∙ sym (ap (λ (s : Bool). s && bytes_eq (lower text) text) f)
