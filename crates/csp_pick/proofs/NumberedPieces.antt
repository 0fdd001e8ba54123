-- A number, or nothing, is a piece of a path, and is written as it is.
use Rattle.std.proofs.Common.{◌≡◌, ◌∙◌, refl, sym, ap, ℕ, true, false, not, ◌==◌, nat_lt, List, [], ◌∷◌}
use Rattle.std.specs.List.{list_all}
use Rattle.std.specs.Str.{bytes_eq}
use Rattle.std.proofs.lemmas.Bool.{false_from_ne_true, false≢true, not-true}
use Rattle.std.proofs.lemmas.List.Elements.{All-weaker}
use Rattle.std.proofs.lemmas.List.Sums.{AllPass-from_list_all}
use Rattle.std.proofs.lemmas.Slice.Eq.{bytes_eq-Decides}
use Rattle.percent_encoding.specs.AsciiSet.{should_percent_encode}
use Rattle.percent_encoding.specs.Percent.{percent_encode}
use Rattle.percent_encoding.proofs.PercentLemmas.{percent_encode_unchanged}
use Rattle.csp_model.specs.Validity.{is_piece}
use Rattle.csp_model.specs.declared.path.TheConstants.{ESCAPED}
use Rattle.csp_pick.specs.Fresh.{IsNumbered}
use Rattle.csp_pick.proofs.Numbered.{numbered_passes}

-- a dot is none of its bytes
no_dots : (text : List ℕ) → IsNumbered [] [] text → (cs : List ℕ) → bytes_eq text (46 ∷ cs) ≡ false
no_dots text is cs = false_from_ne_true (bytes_eq text (46 ∷ cs)) (λ same.
    false≢true (sym (ap (list_all (λ c. not (c == 46))) ((bytes_eq-Decides text (46 ∷ cs)).0 same)) ∙ numbered_passes (λ c. not (c == 46)) refl [] [] text refl refl is))

pub number_is_piece : (text : List ℕ) → IsNumbered [] [] text → is_piece text ≡ true
unfolding is_piece
number_is_piece text is =
    rw (numbered_passes (λ b. nat_lt b 256) refl [] [] text refl refl is, no_dots text is [], no_dots text is (46 ∷ [])) refl

pub number_is_kept : (text : List ℕ) → IsNumbered [] [] text → percent_encode ESCAPED text ≡ text
unfolding should_percent_encode
number_is_kept text is =
    percent_encode_unchanged ESCAPED text
    (All-weaker (λ b. not (should_percent_encode ESCAPED b) ≡ true) (λ b. should_percent_encode ESCAPED b ≡ false) (λ b. not-true (should_percent_encode ESCAPED b)) text
    (AllPass-from_list_all (λ b. not (should_percent_encode ESCAPED b)) text (numbered_passes (λ b. not (should_percent_encode ESCAPED b)) refl [] [] text refl refl is)))
