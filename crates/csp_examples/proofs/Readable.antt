-- Lists as reading makes them.
use Rattle.std.proofs.Common.{◌≡◌, [], ◌∷◌, map, refl, arith, inr}
use Rattle.std.specs.Prelude.{codes}
use Rattle.std.proofs.lemmas.List.Elements.{All-cons, All-nil}
use Rattle.csp_model.specs.Policies.{IsReadable, IsReadablePolicy}
use Rattle.csp_model.specs.Reading.{source_of}
use Rattle.csp_examples.proofs.OnLiterals.{policies_on_literals, validity_on_literals}
use Rattle.csp_examples.proofs.Values.{headed, policy_with}
use Rattle.csp_model.specs.declared.policy.Directive.{Directive}

abbrev images : Directive
images = record {
  name = codes "img-src";
  tokens = codes "https:" ∷ [];
  sources = source_of (codes "https:") ∷ [];
}

readable_policy : IsReadablePolicy (policy_with (images ∷ []))
unfolding validity_on_literals
readable_policy = record {
  some = λ (h : images ∷ [] ≡ []). cc;
  distinct = λ i j d before within. absurd (omega (arith, before, within));
  read = All-cons (λ (d : Directive). d.sources ≡ map source_of d.tokens) images [] refl
      (All-nil (λ (d : Directive). d.sources ≡ map source_of d.tokens));
  origin = (inr refl, refl, tt);
}

pub what_is_read_is_readable : IsReadable (headed (codes "img-src https:"))
unfolding policies_on_literals
what_is_read_is_readable = record {
  policies = omega arith;
  tokens = omega arith;
  texts = omega arith;
  each = All-cons IsReadablePolicy (policy_with (images ∷ [])) [] readable_policy (All-nil IsReadablePolicy);
}

pub no_two_directives_have_one_name : ¬ IsReadablePolicy (policy_with (images ∷ images ∷ []))
no_two_directives_have_one_name readable = readable.distinct 0 1 images (omega arith) (omega arith) refl

pub no_policy_is_empty : ¬ IsReadablePolicy (policy_with [])
no_policy_is_empty readable = readable.some refl
