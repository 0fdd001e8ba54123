-- Sources that are a scheme alone: the reading and the grammar agree.
use Rattle.std.proofs.Common.{arith, ◌≡◌, ◌∙◌, ap, refl, ℕ, true, ◌&&◌, List, [], ◌∷◌, ◌++◌, Some, None, Option, inl, inr}
use Rattle.std.specs.Prelude.{codes}
use Rattle.std.specs.List.{list_all, take_while}
use Rattle.std.specs.Option.{option_and_then}
use Rattle.std.proofs.lemmas.Grind.{common_steps}
use Rattle.csp_model.specs.Ascii.{lower, ends_in, without_last, skip_while}
use Rattle.csp_model.specs.Grammar.{is_scheme_char, is_scheme, is_label_char, host_part_of, port_part_of, IsSchemeSource}
use Rattle.csp_model.specs.Reading.{is_host_char, is_no_slash, authority, host_source, scheme_source}
use Rattle.csp_source.specs.Types.{Source}
use Rattle.csp_model.proofs.SkipLaws.{skip_while-cons}
use Rattle.csp_model.proofs.FinalBytes.{ends_in-push, ends_in_front, without_last-push}
use Rattle.csp_source.proofs.HostLaws.{chosen, take_while-append, skip_while-append, scheme_chars}

pub scheme_again : (token scheme : List ℕ) → IsSchemeSource token scheme → scheme_source token ≡ Some (Source.SchemeOnly scheme)
unfolding scheme_source
scheme_again token scheme (letters, e, good, lowered) =
    rw (e, ends_in-push 58 58 letters, without_last-push letters 58, good, lowered) refl

pub scheme_takes : (token : List ℕ) (s : Source) → scheme_source token ≡ Some s → (scheme : List ℕ) × (s ≡ Source.SchemeOnly scheme) × IsSchemeSource token scheme
unfolding scheme_source
scheme_takes token s e =
    elim (chosen (ends_in 58 token && is_scheme (without_last token)) (Some (Source.SchemeOnly (lower (without_last token)))) None s e) [
      | inl one ↦
          let ends : ends_in 58 token ≡ true = grind (arith, one.0) in
          let good : is_scheme (without_last token) ≡ true = grind (arith, one.0) in
          (lower (without_last token), cc, (without_last token, ends_in_front 58 token ends, good, refl))
      | inr two ↦ cc
    ]

-- behind a host no port begins in what is left of a scheme and ":"
no_port : (letters : List ℕ) → list_all is_scheme_char letters ≡ true → port_part_of (take_while is_no_slash (skip_while is_host_char (letters ++ codes ":"))) ≡ None
unfolding is_scheme_char is_label_char is_host_char is_no_slash port_part_of
no_port [] h = refl
no_port (x ∷ letters) h = let next = skip_while-cons is_host_char x (letters ++ codes ":") in grind (arith, common_steps, next, no_port letters)

none_then : {A B : Type 0} (f : A → Option B) (o : Option A) → ((a : A) → f a ≡ None) → option_and_then f o ≡ None
none_then f None h = refl
none_then f (Some a) h = h a

pub authority_none : (scheme : Option (List ℕ)) (text : List ℕ) → port_part_of (take_while is_no_slash (skip_while is_host_char text)) ≡ None → authority scheme text ≡ None
unfolding authority
authority_none scheme text e = none_then _ (host_part_of (take_while is_host_char text)) (λ host_part. rw e refl)

-- a scheme and ":" is no host-source
pub no_host : (token scheme : List ℕ) → IsSchemeSource token scheme → host_source token ≡ None
unfolding host_source is_scheme_char
no_host token scheme (letters, e, good, lowered) =
    let chars = scheme_chars letters good in
    let k : skip_while is_scheme_char token ≡ codes ":" = ap (skip_while is_scheme_char) e ∙ skip_while-append is_scheme_char letters (codes ":") chars refl in
    let f : take_while is_scheme_char token ≡ letters = ap (take_while is_scheme_char) e ∙ take_while-append is_scheme_char letters (codes ":") chars refl in
    rw (f, k, good) (ap (authority None) e ∙ authority_none None (letters ++ codes ":") (no_port letters chars))
