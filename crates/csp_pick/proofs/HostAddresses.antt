-- A number in brackets behind other groups is an address.
use Rattle.std.proofs.Common.{◌≡◌, ◌∙◌, refl, sym, ap, ℕ, true, List, [], ◌∷◌, ◌++◌, append-nil, append_assoc, codes}
use Rattle.std.specs.List.{list_all}
use Rattle.std.proofs.lemmas.Bool.{or_right}
use Rattle.csp_model.proofs.FinalBytes.{ends_in-push, without_last-push}
use Rattle.csp_model.specs.Ascii.{is_nonempty}
use Rattle.csp_model.specs.Validity.{is_address, is_bracketed, is_four_numbers, is_group_char}
use Rattle.csp_pick.specs.Fresh.{IsNumbered, suffix}
use Rattle.csp_pick.proofs.Numbered.{nonempty, numbered_passes}

bracketed : (groups : List ℕ) → is_nonempty groups ≡ true → list_all is_group_char groups ≡ true → is_bracketed (91 ∷ (groups ++ 93 ∷ [])) ≡ true
unfolding is_bracketed
bracketed groups some each =
    rw (ends_in-push 93 93 (91 ∷ groups), without_last-push groups 93, some, each) refl

pub numbered_address : (text : List ℕ) → IsNumbered (codes "[2001:db8::1") (93 ∷ []) text → is_address text ≡ true
unfolding is_address
numbered_address text (n, small, e) =
    let groups = codes "2001:db8::1" ++ suffix n in
    let each = numbered_passes is_group_char refl (codes "2001:db8::1") [] groups refl refl
    (n, small, ap (λ t. codes "2001:db8::1" ++ t) (sym (append-nil (suffix n)))) in
    ap is_address (e ∙ ap (λ t. 91 ∷ t) (sym (append_assoc (codes "2001:db8::1") (suffix n) (93 ∷ []))))
    ∙ or_right (is_four_numbers (91 ∷ (groups ++ 93 ∷ []))) (is_bracketed (91 ∷ (groups ++ 93 ∷ []))) (bracketed groups (nonempty 50 (codes "001:db8::1" ++ suffix n)) each)
