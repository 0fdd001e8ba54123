-- What is decided of the rule on integrity metadata, of its three parts.
use Rattle.std.proofs.Common.{◌≡◌, ◌∙◌, refl, sym, ap, ap₂, ℕ, zero, suc, ◌<◌, Bool, true, false, List, [], ◌∷◌, ◌++◌, map, length, get_or, Option, Some, None, Contains, arith}
use Rattle.csp_branch.specs.Paths.{Path}
use Rattle.csp_facts.specs.declared.atom.Literal.{Literal}
use Rattle.csp_formula.specs.Sentences.{Sentence, all_of, any_of}
use Rattle.csp_formula.specs.Surely.{maybe_and, maybe_or, surely}
use Rattle.csp_formula.proofs.Maybe.{maybe_and_assoc}
use Rattle.csp_answer.specs.Answers.{denial_in, name_in, rule_in}
use Rattle.csp_answer.specs.declared.answer.Integrity.{Integrity}
use Rattle.csp_answer.proofs.Adding.{adds_to_true, or_false}

and_true : (x : Option Bool) → maybe_and x (Some true) ≡ x
and_true (Some true) = refl
and_true (Some false) = refl
and_true None = refl

and_false : (x : Option Bool) → maybe_and x (Some false) ≡ Some false
and_false (Some true) = refl
and_false (Some false) = refl
and_false None = refl

-- one sentence more at the end
all_more : (literals : List Literal) (xs : List Sentence) (y : Sentence) → surely literals (all_of (xs ++ y ∷ [])) ≡ maybe_and (surely literals (all_of xs)) (surely literals y)
all_more literals [] y = and_true (surely literals y)
all_more literals (x ∷ xs) y =
    ap (maybe_and (surely literals x)) (all_more literals xs y) ∙ sym (maybe_and_assoc (surely literals x) (surely literals (all_of xs)) (surely literals y))

and_parts : (x y z : Option Bool) → maybe_and x (maybe_and y z) ≡ Some true → (x ≡ Some true) × ((y ≡ Some true) × (z ≡ Some true))
and_parts (Some true) (Some true) (Some true) e = (refl, (refl, refl))
and_parts (Some true) (Some true) (Some false) e = cc
and_parts (Some true) (Some true) None e = cc
and_parts (Some true) (Some false) z e = cc
and_parts (Some true) None (Some false) e = cc
and_parts (Some true) None (Some true) e = cc
and_parts (Some true) None None e = cc
and_parts (Some false) y z e = cc
and_parts None (Some false) z e = cc
and_parts None (Some true) (Some true) e = cc
and_parts None (Some true) (Some false) e = cc
and_parts None (Some true) None e = cc
and_parts None None (Some false) e = cc
and_parts None None (Some true) e = cc
and_parts None None None e = cc

module _ (path : Path) (i : Integrity) where
  abbrev none_outside : Option Bool
  none_outside = surely path.literals (denial_in path.atoms i.outside)

  abbrev none_other : List ℕ → Option Bool
  none_other names = surely path.literals (all_of (map (denial_in path.atoms) names))

  abbrev some_own : List ℕ → Option Bool
  some_own names = surely path.literals (any_of (map (name_in path.atoms) names))

  abbrev rule : List ℕ → Option Bool
  rule own = surely path.literals (rule_in path.atoms i own)

  rule_is : (own : List ℕ) → rule own ≡ maybe_and none_outside (maybe_and (none_other i.others.items) (some_own own))
  rule_is own = ap (maybe_and none_outside) (all_more path.literals (map (denial_in path.atoms) i.others.items) (any_of (map (name_in path.atoms) own)))

  pub rule_by : (others own : List ℕ) → others ≡ i.others.items → maybe_and none_outside (maybe_and (none_other others) (some_own own)) ≡ rule own
  rule_by others own one = ap (λ (xs : List ℕ). maybe_and none_outside (maybe_and (none_other xs) (some_own own))) one ∙ sym (rule_is own)

  -- another pair refutes it
  pub refuted_by : (others own : List ℕ) → others ≡ i.others.items → none_other others ≡ Some false → Some false ≡ rule own
  refuted_by others own one off =
      sym (and_false none_outside)
      ∙ ap (λ (o : Option Bool). maybe_and none_outside (maybe_and o (some_own own))) (sym off)
      ∙ rule_by others own one

  abbrev known : ℕ → Option Bool
  known name = surely path.literals (name_in path.atoms name)

  some_at : (own : List ℕ) (k name : ℕ) → k < length own → get_or own k name ≡ name → known name ≡ Some true → some_own own ≡ Some true
  some_at [] k name h same is = absurd (omega (arith, h))
  some_at (n ∷ own) zero name h same is = ap (λ (m : ℕ). maybe_or (known m) (some_own own)) same ∙ ap (λ (o : Option Bool). maybe_or o (some_own own)) is
  some_at (n ∷ own) (suc k) name h same is = ap (maybe_or (known n)) (some_at own k name (omega (arith, h)) same is) ∙ adds_to_true (known n)

  some_true : (own : List ℕ) (name : ℕ) → Contains own name → some_own (name ∷ []) ≡ Some true → some_own own ≡ Some true
  some_true own name (k, h, same) is = some_at own k name h same (sym (or_false (known name)) ∙ is)

  -- one of its own pairs that alone makes it true makes it true
  pub true_by : (own : List ℕ) (name : ℕ) → Contains own name → rule (name ∷ []) ≡ Some true → rule own ≡ Some true
  true_by own name has is =
      let parts = and_parts none_outside (none_other i.others.items) (some_own (name ∷ [])) (sym (rule_is (name ∷ [])) ∙ is) in
      rule_is own ∙ ap₂ maybe_and parts.0 (ap₂ maybe_and parts.1.0 (some_true own name has parts.1.1))
